use Rattle.std.proofs.Common.{sym, ◌∙◌}
use Rattle.page_fill_cells.proofs.BlankRunLemmas.{blanks-plain}
use Rattle.page_fill_cells.proofs.blank_runs.is_long_run.Goals as goal

pub returns-then-bytes-eq32-clause-printable : goal.returns-then-bytes-eq32-clause-printable
returns-then-bytes-eq32-clause-printable c = λ is. blanks-plain c.args.bytes.now (sym c.are_long_blanks.ensures ∙ is)
