-- Blocks that one macro begins and another ends, and what the arguments of `Bl` say. Source: mdoc(7).
use Rattle.std.specs.Prelude.{ℕ, List, codes, [], ◌∷◌, Option, option_map, find, None, Some, false, true, Bool, if◌then◌else◌, is_none, ◌&&◌}
use Rattle.std.specs.Str.{bytes_eq}
use Rattle.page_roff_syntax.specs.declared.quotes.Argument.{Argument}
use Rattle.page_sets_names.specs.Marks.{row_of_quotation}
use Rattle.page_sets_lines.specs.declared.blocks.Block.{Block}
use Rattle.page_sets_lines.specs.declared.blocks.Block.TheVariants.{Quotation, Custom, Extension, Display, Fonts, Keep, Reference, Function}
use Rattle.page_sets_lines.specs.declared.blocks.Block.TheVariants as blocks
use Rattle.page_sets_lines.specs.declared.blocks.BlockCloser.{BlockCloser}
use Rattle.page_sets_lines.specs.declared.blocks.BlockCloser.TheVariants as closers
use Rattle.page_sets_lines.specs.declared.blocks.BlockOpener.{BlockOpener}
use Rattle.page_sets_lines.specs.declared.blocks.BlockOpener.TheVariants as openers
use Rattle.page_sets_lines.specs.declared.lists.Awaited.{Awaited}
use Rattle.page_sets_lines.specs.declared.lists.Awaited.TheVariants.{Width, Offset}
use Rattle.page_sets_lines.specs.declared.lists.ListKind.{ListKind}
use Rattle.page_sets_lines.specs.declared.lists.ListKind.TheVariants as kinds
use Rattle.page_sets_lines.specs.declared.lists.ListOptions.{ListOptions}
use Rattle.page_sets_lines.specs.declared.lists.ListWord.{ListWord}
use Rattle.page_sets_lines.specs.declared.lists.ListWord.TheVariants as words
use Rattle.std.specs.Option.{option_or}

-- ---- Blocks that one macro begins and another ends, and the names of these. Source: mdoc(7), "MACRO REFERENCE".

abbrev pub block_name : Block → List ℕ
block_name (blocks.List kind) = codes "Bl"
block_name (Quotation quotation) = (row_of_quotation quotation).opener
block_name Custom = codes "Eo"
block_name Extension = codes "Xo"
block_name Display = codes "Bd"
block_name Fonts = codes "Bf"
block_name Keep = codes "Bk"
block_name Reference = codes "Rs"
block_name Function = codes "Fo"

abbrev pub block_closer_name : Block → List ℕ
block_closer_name (blocks.List kind) = codes "El"
block_closer_name (Quotation quotation) = (row_of_quotation quotation).closer
block_closer_name Custom = codes "Ec"
block_closer_name Extension = codes "Xc"
block_closer_name Display = codes "Ed"
block_closer_name Fonts = codes "Ef"
block_closer_name Keep = codes "Ek"
block_closer_name Reference = codes "Re"
block_closer_name Function = codes "Fc"

-- the block that is opened
abbrev pub opened_block : BlockOpener (List ℕ) → Block
opened_block (openers.List kind is_compact options) = blocks.List kind
opened_block (openers.Quotation quotation) = Quotation quotation
opened_block (openers.Custom mark) = Custom
opened_block openers.Extension = Extension
opened_block (openers.Display is_literal is_compact offset) = Display
opened_block (openers.Fonts font) = Fonts
opened_block openers.Keep = Keep
opened_block openers.Reference = Reference
opened_block (openers.Function name) = Function

-- the block that is closed; lists of all types have one closer, and the plainest stands for them
abbrev pub closed_block : BlockCloser (List ℕ) → Block
closed_block closers.List = blocks.List kinds.Item
closed_block (closers.Quotation quotation) = Quotation quotation
closed_block (closers.Custom mark) = Custom
closed_block closers.Extension = Extension
closed_block closers.Display = Display
closed_block closers.Fonts = Fonts
closed_block closers.Keep = Keep
closed_block closers.Reference = Reference
closed_block closers.Function = Function

-- ---- What the arguments of `Bl` say. Source: mdoc(7), `Bl`.

-- the types of lists whose items have heads
abbrev pub headed_rows : List (List ℕ × ListKind)
headed_rows =
    (codes "-tag", kinds.Tag)
    ∷ (codes "-hang", kinds.Hang)
    ∷ (codes "-ohang", kinds.Ohang)
    ∷ (codes "-inset", kinds.Inset)
    ∷ (codes "-diag", kinds.Diag)
    ∷ []

unfoldable pub headed_kind : List ℕ → Option ListKind
headed_kind word = option_map (λ row. row.1) (find (λ row. bytes_eq word row.0) headed_rows)

-- the other types
abbrev pub headless_rows : List (List ℕ × ListKind)
headless_rows =
    (codes "-bullet", kinds.Bullet)
    ∷ (codes "-column", kinds.Column)
    ∷ (codes "-dash", kinds.Dash)
    ∷ (codes "-enum", kinds.Enum)
    ∷ (codes "-hyphen", kinds.Hyphen)
    ∷ (codes "-item", kinds.Item)
    ∷ []

unfoldable pub headless_kind : List ℕ → Option ListKind
headless_kind word = option_map (λ row. row.1) (find (λ row. bytes_eq word row.0) headless_rows)

-- the type of a list by its name
abbrev pub kind_named : List ℕ → Option ListKind
kind_named word = option_or (headed_kind word) (headless_kind word)

-- their options
abbrev pub option_rows : List (List ℕ × ListWord)
option_rows = (codes "-compact", words.Compact) ∷ (codes "-width", words.Width) ∷ (codes "-offset", words.Offset) ∷ []

unfoldable pub option_named : List ℕ → Option ListWord
option_named word = option_map (λ row. row.1) (find (λ row. bytes_eq word row.0) option_rows)

-- what an argument says, where it is a type or an option; whether it is quoted is no matter
abbrev pub list_word : List ℕ → Option ListWord
list_word word = option_or (option_map words.Kind (kind_named word)) (option_named word)

-- before its first argument
abbrev pub no_options : ListOptions (List ℕ)
no_options = record { kind = None; is_compact = false; width = None; offset = None; awaited = None }

-- the first type counts; any other word is no option
abbrev pub with_word : Option ListWord → ListOptions (List ℕ) → ListOptions (List ℕ)
with_word None so_far = so_far
with_word (Some (words.Kind kind)) so_far = record so_far { kind = option_or so_far.kind (Some kind) }
with_word (Some words.Compact) so_far = record so_far { is_compact = true }
with_word (Some words.Width) so_far = record so_far { awaited = Some Width }
with_word (Some words.Offset) so_far = record so_far { awaited = Some Offset }

-- the value of an option is taken as it is, and the last one counts
abbrev pub with_argument : Option Awaited → ListOptions (List ℕ) → Argument (List ℕ) → ListOptions (List ℕ)
with_argument None so_far word = with_word (list_word word.text) so_far
with_argument (Some Width) so_far word = record so_far { width = Some word; awaited = None }
with_argument (Some Offset) so_far word = record so_far { offset = Some word; awaited = None }

abbrev pub option_read : ListOptions (List ℕ) → Argument (List ℕ) → ListOptions (List ℕ)
option_read so_far word = with_argument so_far.awaited so_far word

-- after all of them
abbrev pub options_after : ListOptions (List ℕ) → List (Argument (List ℕ)) → ListOptions (List ℕ)
options_after so_far [] = so_far
options_after so_far (word ∷ words) = options_after (option_read so_far word) words

abbrev pub list_options : List (Argument (List ℕ)) → ListOptions (List ℕ)
list_options words = options_after no_options words

-- ---- the columns of a list (`-column`)

-- an argument is no type, no option and no option's value
abbrev pub is_column : ListOptions (List ℕ) → Argument (List ℕ) → Bool
is_column so_far word = is_none so_far.awaited && is_none (list_word word.text)

-- those arguments, each of which is a column's width
abbrev pub columns_after : ListOptions (List ℕ) → List (Argument (List ℕ)) → List (Argument (List ℕ))
columns_after so_far [] = []
columns_after so_far (word ∷ words) =
    if is_column so_far word then word ∷ columns_after (option_read so_far word) words else columns_after (option_read so_far word) words
