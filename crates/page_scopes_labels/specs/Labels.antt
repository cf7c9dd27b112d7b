-- What an open scope is, and what is known of it by that alone: one row for each. Source: man(7), "MACRO OVERVIEW"; mdoc(7), "MACRO REFERENCE".
use Rattle.std.specs.Prelude.{ℕ, false, List, true, codes, Bool}
use Rattle.std.specs.Str.{bytes_eq}
use Rattle.page_sets_names.specs.Marks.{row_of_marks}
use Rattle.page_sets_names.specs.Names.{font_macro_name, heading_name, link_closer_name, link_name, one_line_name, tag_name}
use Rattle.page_sets_lines.specs.Blocks.{block_closer_name, block_name}
use Rattle.page_sets_lines.specs.declared.blocks.Block.TheVariants as blocks
use Rattle.page_sets_lines.specs.declared.lists.ListKind.TheVariants as kinds
use Rattle.page_sets_lines.specs.declared.openers.LineOpener.TheVariants.{Head, Heading, Tag, FontWords, Enclosure, Description, OneLine}
use Rattle.page_scopes_labels.specs.declared.labels.Explicit.{Explicit}
use Rattle.page_scopes_labels.specs.declared.labels.Explicit.TheVariants.{RelativeMargin, Target, Syntax, Block}
use Rattle.page_scopes_labels.specs.declared.labels.Label.{Label}
use Rattle.page_scopes_labels.specs.declared.labels.Label.TheVariants as labels
use Rattle.page_scopes_labels.specs.declared.labels.LabelRow.{LabelRow}
use Rattle.page_scopes_labels.specs.declared.labels.ScopeEnd.{ScopeEnd}
use Rattle.page_scopes_labels.specs.declared.labels.ScopeEnd.TheVariants.{Line, Implied, Closer}

-- a scope that keeps nothing apart
abbrev pub plain_row : List ℕ → ScopeEnd (List ℕ) → LabelRow (List ℕ)
plain_row name end = record { name = name; end = end; is_level = false; owns_prevailing = false; guards_fonts = false }

-- paragraphs inside it are apart from those around it, and the prevailing indent holds up to its end
abbrev pub level_row : List ℕ → ScopeEnd (List ℕ) → LabelRow (List ℕ)
level_row name end = record { name = name; end = end; is_level = true; owns_prevailing = true; guards_fonts = false }

-- it ends with a line, and leaves the fonts as they were before it; a tag does not
abbrev pub guard_row : List ℕ → LabelRow (List ℕ)
guard_row name = record { name = name; end = Line; is_level = false; owns_prevailing = false; guards_fonts = true }

-- ---- the table

abbrev pub label_row : Label → LabelRow (List ℕ)
label_row labels.Item = plain_row (codes "It") Implied
label_row labels.Section = level_row (codes "SH") Implied
label_row labels.Subsection = level_row (codes "SS") Implied
label_row labels.Paragraph = plain_row (codes "PP") Implied
label_row (labels.Explicit RelativeMargin) = level_row (codes "RS") (Closer (codes "RE"))
label_row (labels.Explicit (Target link)) = plain_row (link_name link) (Closer (link_closer_name link))
label_row (labels.Explicit Syntax) = plain_row (codes "SY") (Closer (codes "YS"))
label_row (labels.Explicit (Block block)) = plain_row (block_name block) (Closer (block_closer_name block))
label_row (labels.Line Head) = plain_row (codes "It") Line
label_row (labels.Line (Heading name)) = guard_row (heading_name name)
label_row (labels.Line (Tag name)) = plain_row (tag_name name) Line
label_row (labels.Line (FontWords name)) = guard_row (font_macro_name name)
label_row (labels.Line (Enclosure marks)) = plain_row ((row_of_marks marks).name) Line
label_row (labels.Line Description) = plain_row (codes "Nd") Line
label_row (labels.Line (OneLine name)) = plain_row (one_line_name name) Line

-- ---- its columns

-- the name of the macro that opens the scope, of a paragraph the first of them
abbrev pub label_name : Label → List ℕ
label_name label = (label_row label).name

-- two scopes have one closer where the name of their openers is the same
abbrev pub is_explicit : Explicit → Label → Bool
is_explicit explicit (labels.Explicit other) = bytes_eq (label_name (labels.Explicit explicit)) (label_name (labels.Explicit other))
is_explicit explicit _ = false

abbrev pub is_margin : Label → Bool
is_margin label = is_explicit RelativeMargin label

abbrev pub is_level : Label → Bool
is_level label = (label_row label).is_level

-- ---- labels by themselves

abbrev pub is_line : Label → Bool
is_line (labels.Line opener) = true
is_line _ = false

abbrev pub is_section : Label → Bool
is_section labels.Section = true
is_section _ = false

-- an enclosure that ends with a line (`Aq Bq Brq Dq Op Pq Ql Qq Sq`)
abbrev pub is_enclosure : Label → Bool
is_enclosure (labels.Line (Enclosure marks)) = true
is_enclosure _ = false

abbrev pub is_paragraph : Label → Bool
is_paragraph labels.Paragraph = true
is_paragraph _ = false

-- ---- lists (`Bl`) and their items (`It`)

abbrev pub is_item : Label → Bool
is_item labels.Item = true
is_item _ = false

abbrev pub is_list : Label → Bool
is_list (labels.Explicit (Block (blocks.List kind))) = true
is_list _ = false

-- items have heads; the words of `It` in any other list are those of its text
abbrev pub is_headed_list : Label → Bool
is_headed_list (labels.Explicit (Block (blocks.List kinds.Diag))) = true
is_headed_list (labels.Explicit (Block (blocks.List kinds.Hang))) = true
is_headed_list (labels.Explicit (Block (blocks.List kinds.Inset))) = true
is_headed_list (labels.Explicit (Block (blocks.List kinds.Ohang))) = true
is_headed_list (labels.Explicit (Block (blocks.List kinds.Tag))) = true
is_headed_list _ = false
