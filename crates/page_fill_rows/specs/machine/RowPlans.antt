-- A machine, which no public clause cites: what an open row keeps to.
use Rattle.std.specs.Prelude.{◌≡◌, ℕ, ◌*◌, ◌≤◌, List, length, Option, MatchOption}
use Rattle.page_core_base.specs.declared.cells.Cell.{Cell}
use Rattle.page_fill_cells.specs.Cells.{columns}
use Rattle.page_core_base.specs.Limits.{CELLS}
use Rattle.page_fill_rows.specs.OpenRows.{TAG_COLUMNS, BLANK_ROWS}
use Rattle.std.specs.Borrow.{GName}
use Rattle.page_core_base.specs.Messages.{IsSinkFault, Message}
use Rattle.page_core_base.specs.laws.Views.{UpTo}
use Rattle.page_core_base.specs.declared.faults.Fault.{Fault}
use Rattle.page_core_base.specs.Rows.{LaidRow}

pub record IsSound (cells : List Cell) (count gap word tag blanks : ℕ) : Type 0 where
  pub bounded : length cells ≤ CELLS
  pub counted : count ≡ columns cells
  pub narrow : count ≤ 3 * length cells
  pub gap_within : gap ≤ word
  pub word_within : word ≤ length cells
  pub tag_within : tag ≤ TAG_COLUMNS
  pub blanks_within : blanks ≤ BLANK_ROWS

-- ---- What a latch over a sink of rows and a sink of messages knows of a plan: a machine of proofs, which no public clause cites.

-- what a sink's trait says of it
pub record Seen (S I L : Type 0) : Type 1 where
  pub gave : S → List I → S → Type 0
  pub within : S → List I → S → Type 0
  pub failed : S → ℕ
  pub loans : S → L

abbrev pub seen : {S I L : Type 0} → (S → List I → S → Type 0) → (S → List I → S → Type 0) → (S → ℕ) → (S → L) → Seen S I L
seen gave within failed loans = record { gave = gave; within = within; failed = failed; loans = loans }

-- from a moment of two sinks that are lent these rows and messages are to come
pub record Planned (R N K L : Type 0) : Type 0 where
  pub rows_name : GName
  pub notes_name : GName
  pub rows : R
  pub notes : N
  pub rows_loans : K
  pub notes_loans : L
  pub all_rows : List LaidRow
  pub all_notes : List Message

-- no sink has failed: all but the rest came
pub record Going {R N K L : Type 0} (rs : Seen R LaidRow K) (ns : Seen N Message L) (plan : Planned R N K L) (r : R) (n : N)
    (rows : List LaidRow) (notes : List Message) : Type 0 where
  pub rows_came : UpTo rs.gave plan.rows plan.all_rows rows r
  pub notes_came : UpTo ns.gave plan.notes plan.all_notes notes n
  pub rows_failed : rs.failed r ≡ rs.failed plan.rows
  pub notes_failed : ns.failed n ≡ ns.failed plan.notes

-- a sink has failed: a front of all came to each
pub record Stopped {R N K L : Type 0} (rs : Seen R LaidRow K) (ns : Seen N Message L) (plan : Planned R N K L) (r : R) (n : N) (fault : Fault) : Type 0 where
  pub rows_came : rs.within plan.rows plan.all_rows r
  pub notes_came : ns.within plan.notes plan.all_notes n
  pub cause : IsSinkFault fault (rs.failed plan.rows) (rs.failed r) (ns.failed plan.notes) (ns.failed n)

pub record Left {R N K L : Type 0} (rs : Seen R LaidRow K) (ns : Seen N Message L) (plan : Planned R N K L) (rows_name notes_name : GName) (r : R) (n : N)
    (fault : Option Fault) (rows : List LaidRow) (notes : List Message) : Type 0 where
  pub rows_loan : rows_name ≡ plan.rows_name
  pub notes_loan : notes_name ≡ plan.notes_name
  pub rows_same : rs.loans r ≡ plan.rows_loans
  pub notes_same : ns.loans n ≡ plan.notes_loans
  pub came : MatchOption fault (Going rs ns plan r n rows notes) (Stopped rs ns plan r n)
