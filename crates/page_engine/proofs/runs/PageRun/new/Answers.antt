use Rattle.std.proofs.Common.{refl, ap, arith}
use Rattle.page_roff_lines.specs.laws.Cutting.{Point, point_after}
use Rattle.page_engine.proofs.Through.{bytes_none}
use Rattle.page_engine.proofs.runs.PageRun.new.Goals as goal

pub returns : goal.returns
unfolding point_after
returns c =
    let page = c.in_ok-page.ensures.starts in
    record { starts = (page.0, record { phase = refl; page = rw (bytes_none c.args.settings.now) page.1; point = c.in-Ok.ensures.value.0 }) }

pub invariant_of-result : goal.invariant_of-result
invariant_of-result c =
    let cut = c.in-Ok.ensures.value in
    let used = ap (λ (p : Point). p.line.consumed) cut.0 in (cut.1, omega (arith, used))
