use Rattle.std.proofs.Common.{rules}
use Rattle.page_roff_definitions.proofs.ClosingLemmas.{unquoted_closings}
use Rattle.page_roff_definitions.proofs.arguments.report_closings.Goals as goal

pub returns-then-is_none : goal.returns-then-is_none
returns-then-is_none g c =
    rw (unquoted_closings c.args.place.line c.args.place.column c.args.rest.now c.memchr.result (search rules) c.memchr.ensures) (λ plan more h. h)
