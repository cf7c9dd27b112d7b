use Rattle.page_engine.specs.Edges.{start}
use Rattle.page_engine.proofs.WholeLines.{within_is, start_reached}
use Rattle.page_engine.proofs.pages.Page.new.Goals as goal

pub returns-clause-within : goal.returns-clause-within
returns-clause-within c = λ e h.
    let s = c.args.settings in
    let at = c.in_ok-layers.ensures.ok in
    within_is _ (start s) e at h (c.caps_law.ensures (start s) at (start_reached s))

pub invariant_of-result : goal.invariant_of-result
invariant_of-result c =
    let s = c.args.settings in
    (start s, c.in_ok-layers.ensures.ok, start_reached s, c.counts-counts.ensures)
