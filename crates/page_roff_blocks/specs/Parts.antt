-- The parts of a raw line, found from its text alone, and what of it belongs to a loop. Source: roff(7), "Conditionals", `while`.
use Rattle.std.specs.Prelude.{Option, Some, None, ℕ, List, Bool, true, false, [], ◌∷◌, ◌-◌, drop, zero, suc, length, take}
use Rattle.page_roff_syntax.specs.LineForms.{form_of}
use Rattle.page_roff_syntax.specs.Regions.{region_head}
use Rattle.page_roff_syntax.specs.Requests.{request_of}
use Rattle.page_roff_syntax.specs.declared.line_forms.LineForm.{LineForm}
use Rattle.page_roff_syntax.specs.declared.line_forms.LineForm.TheVariants.{Control}
use Rattle.page_roff_syntax.specs.declared.requests.Request.{Request}
use Rattle.page_roff_syntax.specs.declared.requests.Request.TheVariants as requests
use Rattle.page_roff_heads.specs.Heads.{block_end_of, conditional_of, guarded_of, loop_of}
use Rattle.page_roff_heads.specs.declared.conditions.Condition.{Condition}
use Rattle.page_roff_heads.specs.declared.heads.BlockEnd.{BlockEnd}
use Rattle.page_roff_heads.specs.declared.heads.Conditional.{Conditional}
use Rattle.page_roff_heads.specs.declared.heads.Guarded.{Guarded}
use Rattle.page_roff_heads.specs.declared.loops.LoopRead.{LoopRead}
use Rattle.page_roff_heads.specs.declared.texts.Placed.{Placed}
use Rattle.page_roff_blocks.specs.declared.line_parts.Branch.{Branch}
use Rattle.page_roff_blocks.specs.declared.line_parts.Branch.TheVariants.{If, IfElse, Else}
use Rattle.page_roff_blocks.specs.declared.line_parts.Head.{Head}
use Rattle.page_roff_blocks.specs.declared.line_parts.LinePart.{LinePart}
use Rattle.page_roff_blocks.specs.declared.line_parts.LinePart.TheVariants.{Region, Guard, Block, Loop, Leaf, End}
use Rattle.page_roff_blocks.specs.declared.line_parts.Opening.{Opening}
use Rattle.page_roff_blocks.specs.declared.line_parts.Opening.TheVariants as openings
use Rattle.page_roff_blocks.specs.declared.parts.Keyword.{Keyword}
use Rattle.page_roff_blocks.specs.declared.parts.Keyword.TheVariants as keywords
use Rattle.page_roff_blocks.specs.declared.parts.RawPart.{RawPart}

-- ---- The first part of a raw line as it is written, found from its text alone. Source: roff(7), "if", "ie", "el", "while".

-- what a control line of a name heads
abbrev pub keyword_in : Option Request → Keyword
keyword_in (Some requests.If) = keywords.If
keyword_in (Some requests.IfElse) = keywords.IfElse
keyword_in (Some requests.Else) = keywords.Else
keyword_in (Some requests.While) = keywords.While
keyword_in (Some (requests.Region kind)) = keywords.Region kind
keyword_in _ = keywords.Other

abbrev pub keyword_of : List ℕ → Keyword
keyword_of name = keyword_in (request_of name)

-- what is left of a line after a part of it
abbrev pub rest_text : Option (Placed (List ℕ)) → Option (List ℕ)
rest_text None = None
rest_text (Some remainder) = Some remainder.text

-- a head with its block or without one
abbrev pub head_line_part : Bool → Head (List ℕ) → LinePart (List ℕ)
head_line_part true head = Block (openings.Conditional head)
head_line_part false head = Guard head

abbrev pub head_part : Head (List ℕ) → Guarded (List ℕ) → RawPart (List ℕ)
head_part head guarded =
    record { line_part = head_line_part guarded.opens_block head; is_end = false; rest = rest_text guarded.remainder }

abbrev pub conditional_part : (Condition (List ℕ) → Branch (List ℕ)) → ℕ → Conditional (List ℕ) → RawPart (List ℕ)
conditional_part branch column read = head_part (record { column = column; branch = branch read.condition }) read.guarded

-- The head of a loop. With a block, all that follows it on its line is its body as yet, and a remainder too. Without
-- one, nothing follows the loop on its line.
abbrev pub loop_part_if : Bool → LoopRead (List ℕ) → RawPart (List ℕ)
loop_part_if true read =
    record {
      line_part = Block (openings.Loop (record { condition = read.condition; body = Some read.first }));
      is_end = false;
      rest = rest_text read.guarded.remainder;
    }
loop_part_if false read =
    record { line_part = Loop (record { condition = read.condition; body = rest_text read.guarded.remainder }); is_end = false; rest = None }

abbrev pub loop_part : LoopRead (List ℕ) → RawPart (List ℕ)
loop_part read = loop_part_if read.guarded.opens_block read

-- A line that heads nothing is cut at its first end of a block. What is before it is a leaf, unless
-- empty.
abbrev pub end_part : List ℕ → Option (List ℕ) → RawPart (List ℕ)
end_part [] rest = record { line_part = End; is_end = false; rest = rest }
end_part (byte ∷ bytes) rest = record { line_part = Leaf (byte ∷ bytes); is_end = true; rest = rest }

abbrev pub cut_part : List ℕ → Option (BlockEnd (List ℕ)) → RawPart (List ℕ)
cut_part line None = record { line_part = Leaf line; is_end = false; rest = None }
cut_part line (Some end) = end_part end.before (rest_text end.remainder)

abbrev pub plain_part : List ℕ → RawPart (List ℕ)
plain_part line = cut_part line (block_end_of line)

-- the rest of a line from a column on, with its comment
abbrev pub raw_rest : List ℕ → ℕ → List ℕ
raw_rest line column = drop (column - 1) line

abbrev pub keyword_part : Keyword → List ℕ → ℕ → List ℕ → ℕ → RawPart (List ℕ)
keyword_part keywords.If line column rest rest_column = conditional_part If column (conditional_of rest_column (raw_rest line rest_column))
keyword_part keywords.IfElse line column rest rest_column = conditional_part IfElse column (conditional_of rest_column (raw_rest line rest_column))
keyword_part keywords.Else line column rest rest_column = head_part (record { column = column; branch = Else }) (guarded_of rest_column (raw_rest line rest_column))
keyword_part keywords.While line column rest rest_column = loop_part (loop_of rest_column (raw_rest line rest_column))
keyword_part (keywords.Region kind) line column rest rest_column =
    record { line_part = Region (region_head kind column rest_column rest); is_end = false; rest = None }
keyword_part keywords.Other line column rest rest_column = plain_part line

abbrev pub form_part : List ℕ → LineForm (List ℕ) → RawPart (List ℕ)
form_part line (Control name column rest rest_column) = keyword_part (keyword_of name) line column rest rest_column
form_part line _ = plain_part line

-- the first part of a line
unfoldable pub written_part : List ℕ → RawPart (List ℕ)
written_part line = form_part line (form_of line)

-- ---- What of a raw line belongs to a loop. Source: roff(7), "while".

-- the blocks that are open in a loop after the end of one; none of them where it is the loop that ends
abbrev pub blocks_left : Bool → ℕ → Option ℕ
blocks_left false blocks = Some blocks
blocks_left true zero = None
blocks_left true (suc blocks) = Some blocks

-- those after a part, which the end of a block may follow
abbrev pub blocks_after : LinePart (List ℕ) → Bool → ℕ → Option ℕ
blocks_after (Leaf text) is_end blocks = blocks_left is_end blocks
blocks_after (Block opening) is_end blocks = Some (suc blocks)
blocks_after End is_end blocks = blocks_left true blocks
blocks_after _ is_end blocks = Some blocks

-- the bytes of a part before the end of a block
abbrev pub before_end : LinePart (List ℕ) → ℕ
before_end (Leaf text) = length text
before_end _ = 0

-- What is left of a line from the \} on that ends the loop, if one does: at most n remainders deep, where this
-- many blocks are open in the loop.
abbrev pub left_by : Option ℕ → (ℕ → Option (List ℕ)) → List ℕ → Option (List ℕ)
left_by None further rest = Some rest
left_by (Some blocks) further rest = further blocks

abbrev pub left_in : ℕ → ℕ → Option (List ℕ) → Option (List ℕ)
left_in zero blocks rest = None
left_in (suc n) blocks None = None
left_in (suc n) blocks (Some line) =
    let part = written_part line in
    left_by (blocks_after part.line_part part.is_end blocks) (λ blocks. left_in n blocks part.rest) (drop (before_end part.line_part) line)

-- all of them: each remainder is shorter than its line
unfoldable pub left_of : ℕ → List ℕ → Option (List ℕ)
left_of blocks line = left_in (suc (length line)) blocks (Some line)

-- the bytes before it
abbrev pub len_before : List ℕ → Option (List ℕ) → Option ℕ
len_before line None = None
len_before line (Some rest) = Some (length line - length rest)

unfoldable pub len_of : ℕ → List ℕ → Option ℕ
len_of blocks line = len_before line (left_of blocks line)

-- an empty text is none
abbrev pub some_text : List ℕ → Option (List ℕ)
some_text [] = None
some_text (byte ∷ bytes) = Some (byte ∷ bytes)

abbrev pub text_before : List ℕ → Option ℕ → Option (List ℕ)
text_before line None = Some line
text_before line (Some len) = some_text (take len line)

-- What of a line belongs to a loop in which this many blocks are open: what is before the \} that ends it, if
-- that is more than nothing; else all of the line, be it empty.
unfoldable pub loop_text : ℕ → List ℕ → Option (List ℕ)
loop_text blocks line = text_before line (len_of blocks line)

-- what of the text after its block belongs to it; an empty text is left out
abbrev pub unless_empty : Option (List ℕ) → Option (List ℕ)
unless_empty None = None
unless_empty (Some text) = some_text text

unfoldable pub first_text : List ℕ → Option (List ℕ)
first_text first = unless_empty (loop_text 0 first)

-- ---- The parts of a raw line, found from its text alone. Source: roff(7), "if", "ie", "el", "while".

-- of what follows the block of a loop on its line, only what belongs to the loop
abbrev pub loop_body : Option (List ℕ) → Option (List ℕ)
loop_body None = None
loop_body (Some first) = first_text first

abbrev pub whole_opening : Opening (List ℕ) → Opening (List ℕ)
whole_opening (openings.Conditional head) = openings.Conditional head
whole_opening (openings.Loop head) = openings.Loop (record { condition = head.condition; body = loop_body head.body })

abbrev pub whole_line_part : LinePart (List ℕ) → LinePart (List ℕ)
whole_line_part (Block opening) = Block (whole_opening opening)
whole_line_part line_part = line_part

abbrev pub whole_part : RawPart (List ℕ) → RawPart (List ℕ)
whole_part part = record { line_part = whole_line_part part.line_part; is_end = part.is_end; rest = part.rest }

-- the first part of a line
unfoldable pub part_of : List ℕ → RawPart (List ℕ)
part_of line = whole_part (written_part line)

-- a part, and then the others
abbrev pub ends_first : Bool → List (LinePart (List ℕ)) → List (LinePart (List ℕ))
ends_first true more = End ∷ more
ends_first false more = more

abbrev pub with_part : RawPart (List ℕ) → List (LinePart (List ℕ)) → List (LinePart (List ℕ))
with_part part more = part.line_part ∷ ends_first part.is_end more

-- the parts of a line; a remainder is a line of its own, at most n of them deep
abbrev pub parts : ℕ → Option (List ℕ) → List (LinePart (List ℕ))
parts zero rest = []
parts (suc n) None = []
parts (suc n) (Some line) = with_part (part_of line) (parts n (part_of line).rest)

-- all of them: each remainder is shorter than its line
unfoldable pub line_parts : List ℕ → List (LinePart (List ℕ))
line_parts line = parts (suc (length line)) (Some line)
