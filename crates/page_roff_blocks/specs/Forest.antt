-- The raw lines of one source as a forest, found from the raw text alone, and the levels of its blocks. Source: roff(7), "Conditionals", `while`.
use Rattle.std.specs.Prelude.{ℕ, Bool, List, false, [], not, Option, None, ◌∷◌, true}
use Rattle.page_roff_syntax.specs.Regions.{Opened, end_name, is_ending}
use Rattle.page_roff_syntax.specs.declared.region_heads.RegionHead.{RegionHead}
use Rattle.page_roff_heads.specs.declared.loops.LoopHead.{LoopHead}
use Rattle.page_roff_blocks.specs.Parts.{line_parts}
use Rattle.page_roff_blocks.specs.declared.line_parts.Branch.{Branch}
use Rattle.page_roff_blocks.specs.declared.line_parts.Branch.TheVariants.{If, IfElse, Else}
use Rattle.page_roff_blocks.specs.declared.line_parts.Head.{Head}
use Rattle.page_roff_blocks.specs.declared.line_parts.LinePart.{LinePart}
use Rattle.page_roff_blocks.specs.declared.line_parts.LinePart.TheVariants.{Leaf, Guard, Block, Loop, End, Region}
use Rattle.page_roff_blocks.specs.declared.line_parts.Opening.{Opening}

-- ---- Where a source is: the levels of its blocks, and an open region between two lines. Source: roff(7), "if", "ie", "el", "while".

-- The innermost level's bit for `ie`, and the bits of the levels around it from the inside out.
pub record Levels : Type 0 where
  pub bit : Bool
  pub outer : List Bool
  -- whether a loop is being collected in the innermost level
  pub in_loop : Bool
  -- the number of skipped blocks that are open there: those in the loop, where one is collected
  pub skipped : ℕ

-- outside all blocks
unfoldable pub outside : Levels
outside = record { bit = false; outer = []; in_loop = false; skipped = 0 }

-- `ie` sets the bit of its level to the opposite of its condition, `el` clears it
unfoldable pub bit_after : Branch (List ℕ) → Bool → Bool → Bool
bit_after (If condition) value bit = bit
bit_after (IfElse condition) value bit = not value
bit_after Else value bit = false

-- where a source is between two lines
pub record SourcePlace : Type 0 where
  pub region : Option Opened
  pub levels : Levels

-- before the first line of a source
unfoldable pub first_place : SourcePlace
first_place = record { region = None; levels = outside }

-- ---- The raw lines of one source as a forest, found from the raw text alone. Source: roff(7), "if", "while", "de", "ig".
-- No definition and no value of a condition has a part in it.
-- A raw line is of any type that has a text: it may have more than that, as its number.

-- siblings, each with those that follow it
pub data Forest (X : Type 0) : Type 0 where
  empty : Forest X
  -- a raw line begins
  line : X → Forest X → Forest X
  leaf : List ℕ → Forest X → Forest X
  -- the head of a conditional without a block, which guards the next node of its line
  guard : Head (List ℕ) → Forest X → Forest X
  -- the head of a conditional or of a loop with its block
  block : Opening (List ℕ) → Forest X → Forest X → Forest X
  -- a loop of one line, without a block
  loop : LoopHead (List ℕ) → Forest X → Forest X
  -- the head of a region, its lines and the line that ends it
  region : RegionHead (List ℕ) → List X → X → Forest X → Forest X

-- A source cut at what it leaves open: at each end of a block that began before it, and at each block and
-- region that doesn't end in it.
pub data Source (X : Type 0) : Type 0 where
  ends : Forest X → Source X
  shuts : Forest X → Source X → Source X
  opens : Forest X → Opening (List ℕ) → Source X → Source X
  holds : Forest X → RegionHead (List ℕ) → List X → Source X

-- lines that begin inside a region: those up to its end line, that line, and the source after it
pub data Inside (X : Type 0) : Type 0 where
  unended : List X → Inside X
  ended : List X → X → Source X → Inside X

-- a node before a source
unfoldable pub before : {X : Type 0} → (Forest X → Forest X) → Source X → Source X
before node (ends f) = ends (node f)
before node (shuts f s) = shuts (node f) s
before node (opens f h s) = opens (node f) h s
before node (holds f r ls) = holds (node f) r ls

-- a block goes up to the first end that no block in it takes
unfoldable pub enclose : {X : Type 0} → Opening (List ℕ) → Source X → Source X
enclose h (ends f) = opens empty h (ends f)
enclose h (shuts f s) = before (block h f) s
enclose h (opens f g s) = opens empty h (opens f g s)
enclose h (holds f r ls) = opens empty h (holds f r ls)

-- a region goes up to its end line
unfoldable pub enregion : {X : Type 0} → RegionHead (List ℕ) → Inside X → Source X
enregion r (unended ls) = holds empty r ls
enregion r (ended ls e s) = before (region r ls e) s

-- a line of a region
unfoldable pub keep : {X : Type 0} → X → Inside X → Inside X
keep l (unended ls) = unended (l ∷ ls)
keep l (ended ls e s) = ended (l ∷ ls) e s

-- the parts of a line before what follows the line, which is seen in both ways: as it begins outside, and
-- inside a region of that end name
unfoldable pub line_of : {X : Type 0} → List (LinePart (List ℕ)) → Source X → (List ℕ → Inside X) → Source X
line_of [] after inside = after
line_of (Leaf text ∷ rest) after inside = before (leaf text) (line_of rest after inside)
line_of (Guard h ∷ rest) after inside = before (guard h) (line_of rest after inside)
line_of (Block h ∷ rest) after inside = enclose h (line_of rest after inside)
line_of (Loop h ∷ rest) after inside = before (loop h) (line_of rest after inside)
line_of (End ∷ rest) after inside = shuts empty (line_of rest after inside)
line_of (Region r ∷ rest) after inside = enregion r (inside (end_name r))

unfoldable pub region_line : {X : Type 0} → Bool → X → Source X → Inside X → Inside X
region_line true l after inside = ended [] l after
region_line false l after inside = keep l inside

module _ {X : Type 0} (text : X → List ℕ) where
  -- the lines of a source that begin outside all regions, and those that begin inside one
  unfoldable mutual
    pub source_of : List X → Source X
    source_of [] = ends empty
    source_of (l ∷ ls) = before (line l) (line_of (line_parts (text l)) (source_of ls) (inside_of ls))

    pub inside_of : List X → List ℕ → Inside X
    inside_of [] ending = unended []
    inside_of (l ∷ ls) ending = region_line (is_ending ending (text l)) l (source_of ls) (inside_of ls ending)
