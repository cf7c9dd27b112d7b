-- What the arguments of `Bd`, `Bf` and `Bl` open, and what they lack. Source: mdoc(7), `Bd`, `Bf`, `Bl`.
use Rattle.std.specs.Prelude.{Option, None, Some, ℕ, List, Bool, true, false, [], ◌∷◌, codes, if◌then◌else◌, unwrap_or, option_and_then}
use Rattle.std.specs.Str.{bytes_eq}
use Rattle.page_core_base.specs.declared.cells.Font.{Font}
use Rattle.page_core_base.specs.declared.cells.Font.TheVariants.{R, B, I}
use Rattle.page_core_base.specs.declared.note_kinds.NoteKind.{NoteKind}
use Rattle.page_core_base.specs.declared.note_kinds.NoteKind.TheVariants.{MissingWidth, NoListType}
use Rattle.page_roff_syntax.specs.declared.quotes.Argument.{Argument}
use Rattle.page_sets_lines.specs.declared.blocks.BlockOpener.{BlockOpener}
use Rattle.page_sets_lines.specs.declared.blocks.BlockOpener.TheVariants as openers
use Rattle.page_sets_lines.specs.declared.lists.ListKind.{ListKind}
use Rattle.page_sets_lines.specs.declared.lists.ListKind.TheVariants as kinds
use Rattle.page_sets_lines.specs.declared.lists.ListOptions.{ListOptions}
use Rattle.page_sets_mdoc_lines.specs.Rows.{said}
use Rattle.page_sets_mdoc_blocks.specs.declared.displays.DisplayOptions.{DisplayOptions}
use Rattle.std.specs.Option.{option_or}

-- ---- The list that `Bl` opens, and what its arguments lack. Source: mdoc(7), `Bl`.

abbrev pub kind_note : Option ListKind → Option (Argument (List ℕ)) → Option NoteKind
kind_note None width = Some NoListType
kind_note (Some kinds.Tag) None = Some MissingWidth
kind_note _ _ = None

-- a list without a type is told of, and `-tag` without a width
abbrev pub list_note : ListOptions (List ℕ) → Option NoteKind
list_note options = kind_note options.kind options.width

-- ---- What the arguments of `Bd` and `Bf` say. Source: mdoc(7), `Bd` and `Bf`.

-- ---- `Bd`

-- its types: whether rows are kept as they are
abbrev pub display_types : List (List ℕ × Bool)
display_types =
    (codes "-literal", true)
    ∷ (codes "-unfilled", true)
    ∷ (codes "-filled", false)
    ∷ (codes "-ragged", false)
    ∷ (codes "-centered", false)
    ∷ []

unfoldable pub display_type : List ℕ → Option Bool
display_type word = said display_types word

-- before its first argument
abbrev pub no_options : DisplayOptions (List ℕ)
no_options = record { is_literal = None; is_compact = false; offset = None; takes_offset = false }

-- after one more: `-offset` takes the next one as it is, and the last of them counts; of the types the first does; any other word is ignored
abbrev pub option_read : DisplayOptions (List ℕ) → Argument (List ℕ) → DisplayOptions (List ℕ)
option_read so_far word =
    if so_far.takes_offset then record so_far { offset = Some word; takes_offset = false }
    else if bytes_eq word.text (codes "-offset") then record so_far { takes_offset = true }
    else if bytes_eq word.text (codes "-compact") then record so_far { is_compact = true }
    else record so_far { is_literal = option_or so_far.is_literal (display_type word.text) }

-- after all of them
abbrev pub options_after : DisplayOptions (List ℕ) → List (Argument (List ℕ)) → DisplayOptions (List ℕ)
options_after so_far [] = so_far
options_after so_far (word ∷ words) = options_after (option_read so_far word) words

-- the display that `Bd` opens with these arguments; without a type its rows are filled
abbrev pub display : List (Argument (List ℕ)) → BlockOpener (List ℕ)
display words =
    let options = options_after no_options words in openers.Display (unwrap_or options.is_literal false) options.is_compact options.offset

-- ---- `Bf`

abbrev pub font_rows : List (List ℕ × Font)
font_rows =
    (codes "-emphasis", I)
    ∷ (codes "Em", I)
    ∷ (codes "-symbolic", B)
    ∷ (codes "Sy", B)
    ∷ (codes "-literal", R)
    ∷ (codes "Li", R)
    ∷ []

-- the font that a word names
unfoldable pub font_named : List ℕ → Option Font
font_named word = said font_rows word

-- that of an argument that may be missing
abbrev pub given_font : Option (List ℕ) → Option Font
given_font word = option_and_then font_named word
