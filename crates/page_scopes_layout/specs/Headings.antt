-- Which section a heading begins, by what it prints in ASCII. Source: mdoc(7), "MANUAL STRUCTURE"; mandoc_char(7).
use Rattle.std.specs.List.{fold}
use Rattle.std.specs.Prelude.{ℕ, List, codes, false, ◌+◌, ◌*◌, ◌-◌, ◌^◌, min, if◌then◌else◌, ◌==◌, Bool, not, ◌&&◌, true, nat_lt}
use Rattle.page_core_base.specs.Bytes.{ascii}
use Rattle.page_core_base.specs.declared.page_settings.Output.TheVariants.{Ascii}
use Rattle.page_core_escapes.specs.Meanings as escapes
use Rattle.page_core_escapes.specs.Tokens.{TextToken, white, escaped, tokens_of}
use Rattle.page_scopes_words.specs.Words.{blank_count, token_printed}
use Rattle.page_scopes_layout.specs.declared.contexts.Context.{Context}
use Rattle.page_scopes_layout.specs.declared.contexts.PagePart.{PagePart}
use Rattle.page_scopes_layout.specs.declared.contexts.PagePart.TheVariants as parts
use Rattle.page_scopes_layout.specs.declared.contexts.PageSection.{PageSection}
use Rattle.page_scopes_layout.specs.declared.contexts.PageSection.TheVariants as sections
use Rattle.page_scopes_layout.specs.declared.headings.HeadingSoFar.{HeadingSoFar}

-- ---- what a heading printed so far

-- a text as a number, with one character more: eight of them are its digits to the base 256, and a longer text is this greatest number
abbrev pub text_and : ℕ → ℕ → ℕ
text_and text c = min (text * 256 + c) (2 ^ 64 - 1)

-- before a heading prints anything
abbrev pub no_heading : HeadingSoFar
no_heading = record { text = 0; is_parted = false }

-- a character is printed; white space before it is a blank, but at the heading's front
abbrev pub character_further : HeadingSoFar → ℕ → HeadingSoFar
character_further h c = record { text = text_and (if h.is_parted && nat_lt 0 h.text then text_and h.text (ascii " ") else h.text) c; is_parted = false }

-- the blanks of `\h` are one
abbrev pub token_further : HeadingSoFar → TextToken → HeadingSoFar
token_further h (white bytes) = record h { is_parted = true }
token_further h (escaped bytes (escapes.blanks expression)) = if blank_count expression == 0 then h else character_further h (ascii " ")
token_further h token = fold character_further h (token_printed Ascii token)

-- ---- headings

-- one that begins a section, at the left edge
abbrev pub is_top_heading : PagePart → Bool
is_top_heading (parts.Heading column) = column == 0
is_top_heading _ = false

abbrev pub is_heading : PagePart → Bool
is_heading (parts.Heading column) = true
is_heading _ = false

-- a text, with this many blanks before it, may be of such a heading
abbrev pub heading_further : PagePart → (quoted : Bool) → ℕ → List ℕ → HeadingSoFar → HeadingSoFar
heading_further part quoted gap text h =
    if is_top_heading part then fold token_further (record h { is_parted = nat_lt 0 gap }) (tokens_of quoted text) else h

-- what is no text of one word counts as a blank
abbrev pub heading_broken : PagePart → HeadingSoFar → HeadingSoFar
heading_broken part h = if is_top_heading part then character_further h (ascii " ") else h

-- the section that a heading begins
abbrev pub headed_section : HeadingSoFar → PageSection
headed_section h =
    if h.text == fold text_and 0 (codes "SYNOPSIS") then sections.Synopsis
    else if h.text == fold text_and 0 (codes "NAME") then sections.Name
    else sections.Other

-- ---- the section SYNOPSIS

abbrev pub is_synopsis : PageSection → Bool
is_synopsis sections.Synopsis = true
is_synopsis _ = false

-- a text in it, but not in a heading of it
abbrev pub in_synopsis : Context → Bool
in_synopsis c = is_synopsis c.section && not (is_heading c.part)
