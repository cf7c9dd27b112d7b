use Rattle.std.proofs.Common.{take, sym, subst, ◌∙◌}
use Rattle.page_roff_lines.specs.machine.Open.{IsRead}
use Rattle.page_roff_lines.proofs.ReadLemmas.{comment-read, none-read}
use Rattle.page_roff_lines.proofs.open.OpenLine.run_len.Goals as goal

pub returns-then-not-is_settled-clause-read : goal.returns-then-not-is_settled-clause-read
returns-then-not-is_settled-clause-read c = none-read c.args.self.now

pub returns-in-Comment-clause-read : goal.returns-in-Comment-clause-read
returns-in-Comment-clause-read c =
    let r = c.comment_run.ensures in
    subst (λ o. IsRead o (take c.comment_run.result c.args.chunk.now)) c.self.view_is
    (comment-read _ c.args.chunk.now c.comment_run.result (sym c.is_settled.ensures ∙ c.if-not-is_settled.false) c.in-Comment.is r.within r.run)

pub returns-in-Backslash-clause-read : goal.returns-in-Backslash-clause-read
returns-in-Backslash-clause-read c = none-read c.args.self.now
