use Rattle.std.proofs.Common.{◌≤◌, length, ap, sym, ◌∙◌}
use Rattle.page_roff_blocks.specs.machine.Steps.{is_block}
use Rattle.page_roff_blocks.proofs.LinePartLemmas.{slice_opens}
use Rattle.page_roff_blocks.proofs.line_places.LinePlace.opens_block.Goals as goal

pub returns-in-Some : goal.returns-in-Some
returns-in-Some c =
    let line = c.args.line.now in
    let start = c.in-Some.start in
    let within : start ≤ length line = rw c.in-Some.is at c.requires.within in
    rw (c.if-self.false, c.if-self-2.false, c.in-Some.is) (c.is_block.ensures ∙ ap (λ part. is_block part.line_part) c.written_part.ensures.value ∙ sym (slice_opens start line within))
