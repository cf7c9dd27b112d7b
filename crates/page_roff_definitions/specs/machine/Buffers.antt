-- What the code's buffers hold before anything was taken, and what their calls do within their limits. Trust needs no reading of it.
-- Source: roff(7), "MACRO SYNTAX" and "de".
use Rattle.std.specs.Prelude.{◌≡◌, ℕ, Bool, true, false, nat_le, List, [], length, Option, Some, None}
use Rattle.page_core_base.specs.Limits.{ARGS, BODY}
use Rattle.page_core_base.specs.Texts.{TakenLine}
use Rattle.page_core_base.specs.declared.lines_taken.Form.TheVariants.{Text}
use Rattle.page_roff_definitions.specs.Definitions.{with_line}

-- before a line and a call were taken
abbrev pub no_line : TakenLine
no_line = record { form = Text; text = []; number = 0; name_end = 0 }

-- a macro that is called: the lines of its body, and its arguments, each with a line feed after it
pub record MacroCall : Type 0 where
  pub body : List ℕ
  pub packed : List ℕ

abbrev pub no_call : MacroCall
no_call = record { body = []; packed = [] }

-- a line is added to a body with its end, unless that passes the limit: then there is no body
abbrev pub body_if : Bool → List ℕ → Option (List ℕ)
body_if true body = Some body
body_if false body = None

abbrev pub AddsLine : Option (List ℕ) → List ℕ → Bool → Option (List ℕ) → Type 0
AddsLine None line result new = Unit {0}
AddsLine (Some body) line result new =
    (result ≡ nat_le (length (with_line body line)) BODY) × (new ≡ body_if result (with_line body line))

-- the arguments of a call are packed, if they are within their limit
abbrev pub PacksIf : Bool → List ℕ → List ℕ → Type 0
PacksIf true wanted bytes = bytes ≡ wanted
PacksIf false wanted bytes = Unit {0}

abbrev pub Packs : List ℕ → Bool → List ℕ → Type 0
Packs wanted result bytes = (result ≡ nat_le (length wanted) ARGS) × PacksIf result wanted bytes
