use Rattle.std.proofs.Common.{ℕ, List, ◌++◌, ap, sym, ◌∙◌, append-nil, subst}
use Rattle.page_core_streams.specs.Streams.{Grows}
use Rattle.page_core_streams.proofs.AsciiLemmas.{GrowsUpTo-more, GrowsUpTo-broken}
use Rattle.mandoc_programs.proofs.Parts.{parts_more, parts_none}
use Rattle.mandoc_programs.proofs.shown_rows.put_parts.Goals as goal

pub returns-then-not-put_part : goal.returns-then-not-put_part
returns-then-not-put_part g c =
    let i = c.loop-part.invariant in
    let steps = c.in-Some.ensures.steps in
    let m = parts_more i.0 _ _ _ _ steps.0 steps.3.0 steps.3.1 steps.1 i.1 in
    GrowsUpTo-broken _ _ _ i.2 m.2 (rw (c.valid.ensures, c.invalid.ensures) at c.if-not-put_part.ensures)

pub loop-part-preserved : goal.loop-part-preserved
loop-part-preserved g c =
    let i = c.loop-part.invariant in
    let steps = c.in-Some.ensures.steps in
    let m = parts_more i.0 _ _ _ _ steps.0 steps.3.0 steps.3.1 steps.1 i.1 in
    (m.0, m.1, GrowsUpTo-more _ _ _ i.2 m.2 (rw (c.valid.ensures, c.invalid.ensures) at c.if-not-put_part.ensures))

pub returns : goal.returns
returns g c =
    let u = c.loop-part.invariant.2 in
    let whole = u.parts ∙ (ap (λ l. u.done ++ l) (parts_none c.loop-part.invariant.0 _ c.in-None.ensures.steps.0) ∙ append-nil u.done) in
    subst (λ (l : List ℕ). Grows (g.W.Target.contents c.args.out.now) (g.W.Target.contents c.loop-part.out) l) (sym whole) u.grows
