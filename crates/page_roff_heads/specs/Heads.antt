-- The heads of conditionals and of loops, and the ends of their blocks, as they are written. Source: roff(7), "Conditionals", `while`.
use Rattle.std.specs.Prelude.{ℕ, List, [], drop, if◌then◌else◌, ◌+◌, take, Bool, Option, true, false, ◌==◌, ◌∷◌, length, nat_lt, Some, None}
use Rattle.page_core_base.specs.Bytes.{ascii}
use Rattle.page_roff_syntax.specs.Arguments.{blank_len, after_blanks}
use Rattle.page_roff_syntax.specs.LineForms.{without_comment, begins_comment}
use Rattle.page_roff_heads.specs.Conditions.{begins_pair, condition_len, remainder_of, condition_of}
use Rattle.page_roff_heads.specs.declared.heads.BlockEnd.{BlockEnd}
use Rattle.page_roff_heads.specs.declared.heads.Conditional.{Conditional}
use Rattle.page_roff_heads.specs.declared.heads.Guarded.{Guarded}
use Rattle.page_roff_heads.specs.declared.loops.LoopRead.{LoopRead}
use Rattle.page_roff_heads.specs.declared.texts.Placed.{Placed}

-- ---- The heads of conditionals, and the ends of their blocks, as they are written. Source: roff(7), "if", "ie", "el" and "\}".

abbrev pub guards : Bool → Option (Placed (List ℕ)) → Guarded (List ℕ)
guards opens remainder = record { opens_block = opens; remainder = remainder }

-- what a head guards: an optional \{, and then a remainder
unfoldable pub guarded_of : ℕ → List ℕ → Guarded (List ℕ)
guarded_of column text =
    if begins_pair (ascii "{") (after_blanks text)
    then guards true (remainder_of (column + blank_len text + 2) (drop 2 (after_blanks text)))
    else guards false (remainder_of column text)

-- a condition, and what it guards; the condition ends before a comment
abbrev pub conditional_at : ℕ → List ℕ → Conditional (List ℕ)
conditional_at column text =
    let len = condition_len column (without_comment text) in
    record {
      condition = condition_of column (without_comment text);
      guarded = guarded_of (column + len) (drop len text);
    }

-- the rest of a control line `if` or `ie`, of which the first byte is at a column
unfoldable pub conditional_of : ℕ → List ℕ → Conditional (List ℕ)
conditional_of column rest = conditional_at (column + blank_len rest) (after_blanks rest)

-- the bytes before the first pair \} that is before a comment; all of them where there is none
abbrev pub end_place : List ℕ → ℕ
end_place [] = 0
end_place (byte ∷ []) = 1
end_place (byte ∷ next ∷ bytes) =
    if byte == ascii "\\"
    then (if next == ascii "}" then 0 else if begins_comment next then 2 + length bytes else 2 + end_place bytes)
    else 1 + end_place (next ∷ bytes)

-- what is before it is a line, and what follows it a remainder
unfoldable pub block_end_of : List ℕ → Option (BlockEnd (List ℕ))
block_end_of line =
    if nat_lt (end_place line) (length line)
    then Some (record {
      before = take (end_place line) line;
      remainder = remainder_of (end_place line + 3) (drop (end_place line + 2) line);
    })
    else None

-- ---- The heads of loops, as they are written. Source: roff(7), "while".

-- What follows the \{ that opens a block, without the blanks before it. Its comment is kept. Nothing where
-- no block is opened.
unfoldable pub first_of : List ℕ → List ℕ
first_of text = if begins_pair (ascii "{") (after_blanks text) then after_blanks (drop 2 (after_blanks text)) else []

-- a condition as it is written, and what it guards; the condition ends before a comment
abbrev pub loop_at : ℕ → List ℕ → LoopRead (List ℕ)
loop_at column text =
    let len = condition_len column (without_comment text) in
    record {
      condition = take len text;
      guarded = guarded_of (column + len) (drop len text);
      first = first_of (drop len text);
    }

-- the rest of a control line `while`, of which the first byte is at a column
unfoldable pub loop_of : ℕ → List ℕ → LoopRead (List ℕ)
loop_of column rest = loop_at (column + blank_len rest) (after_blanks rest)
