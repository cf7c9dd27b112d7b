-- What contracts of the code say by the definitions, and what is proved of these.
use Rattle.std.specs.Borrow.{Bor}
use Rattle.std.specs.Prelude.{◌≡◌, ℕ, Bool, List, ◌≤◌, ◌+◌, [], ◌∷◌, length, drop, Option, MatchOption, not, ◌==◌, false, Some, None, option_map, true, IfSome}
use Rattle.page_core_base.specs.Limits.{LINE, NAME}
use Rattle.page_roff_syntax.specs.Arguments.{arguments}
use Rattle.page_roff_syntax.specs.LineForms.{is_control}
use Rattle.page_roff_syntax.specs.Regions.{first_named, second_named, Opened}
use Rattle.page_roff_syntax.specs.declared.line_forms.LineForm.{LineForm}
use Rattle.page_roff_syntax.specs.declared.line_forms.LineForm.TheVariants.{Comment, BlankLine, Text, Control}
use Rattle.page_roff_syntax.specs.declared.quotes.Argument.{Argument}
use Rattle.page_roff_syntax.specs.declared.region_heads.RegionHead.{RegionHead}

-- what a function of bytes answers is a test
abbrev pub IsTest : (ℕ → Bool → Type 0) → (ℕ → Bool) → Type 0
IsTest post test = (byte : ℕ) (answer : Bool) → post byte answer → answer ≡ test byte

-- an argument of the program, with what its text holds
abbrev pub argument_view : Argument (Bor (List ℕ)) → Argument (List ℕ)
argument_view argument =
    record { text = argument.text.now; column = argument.column; quoting = argument.quoting }

-- the first of a text's arguments, if there is one, and the bytes after which the others begin
abbrev pub ReadsFirst : ℕ → List ℕ → Option (Argument (Bor (List ℕ)) × ℕ) → Type 0
ReadsFirst column text result =
    MatchOption result (arguments column text ≡ [])
    (λ read. (read.1 ≤ length text) × (arguments column text ≡ argument_view read.0 ∷ arguments (column + read.1) (drop read.1 text)))

-- the first of the arguments that are still to be read, if there is one, and then the others
abbrev pub ReadsNext : List (Argument (List ℕ)) → Option (Argument (Bor (List ℕ))) → List (Argument (List ℕ)) → Type 0
ReadsNext old result new =
    MatchOption result ((old ≡ []) × (new ≡ [])) (λ argument. old ≡ argument_view argument ∷ new)

-- a byte that is no backslash
abbrev pub is_plain : ℕ → Bool
is_plain byte = not (byte == 92)

abbrev pub begins_control : List ℕ → Bool
begins_control [] = false
begins_control (byte ∷ bytes) = is_control byte

-- the name of a control line; others have none
abbrev pub name_of : LineForm (List ℕ) → Option (List ℕ)
name_of (Control name column rest rest_column) = Some name
name_of _ = None

-- a name of the program, with what its text holds
abbrev pub name_view : Option (Bor (List ℕ)) → Option (List ℕ)
name_view name = option_map (λ text. text.now) name

-- a form of the program, with what its texts hold
abbrev pub form_view : LineForm (Bor (List ℕ)) → LineForm (List ℕ)
form_view Comment = Comment
form_view BlankLine = BlankLine
form_view (Text text) = Text text.now
form_view (Control name column rest rest_column) = Control name.now column rest.now rest_column

-- texts and columns lie within a line
abbrev pub FitsLine : LineForm (List ℕ) → Type 0
FitsLine (Text text) = length text ≤ LINE
FitsLine (Control name column rest rest_column) = (length rest ≤ LINE) × (rest_column + length rest ≤ LINE + 1)
FitsLine _ = Unit {0}

-- a text of the program, if there is one
abbrev pub text_view : Option (Bor (List ℕ)) → Option (List ℕ)
text_view None = None
text_view (Some text) = Some text.now

-- the first of the arguments that are still to be read, and then the others
abbrev pub NameOfNext : List (Argument (List ℕ)) → Option (Argument (List ℕ)) → List (Argument (List ℕ)) → Type 0
NameOfNext old name new = (name ≡ first_named old) × (first_named new ≡ second_named old)

-- ---- of the program, with what its texts hold

abbrev pub region_view : RegionHead (Bor (List ℕ)) → RegionHead (List ℕ)
region_view head =
    record {
      kind = head.kind;
      column = head.column;
      name = option_map argument_view head.name;
      ending = option_map argument_view head.ending;
    }

-- a name, where there is one
abbrev pub name_if : Bool → List ℕ → Option (List ℕ)
name_if true name = Some name
name_if false name = None

-- the open region that is lent, if there is one
abbrev pub opened_view : Option (Bor Opened) → Option Opened
opened_view None = None
opened_view (Some region) = Some region.now

-- ---- its caps

-- the bytes of an open region's names: of the macro that it defines, and of its end line
pub record RegionFits (o : Opened) : Type 0 where
  pub name : IfSome o.name (λ name. length name ≤ NAME)
  pub ending : length o.ending ≤ NAME
