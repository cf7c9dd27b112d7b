use Rattle.std.proofs.Common.{rules, ◌≡◌, sym, ap, ◌∙◌}
use Rattle.page_engine_header.specs.declared.headers.Measure.{Measure}
use Rattle.page_engine.proofs.layers.Layers.edge.Goals as goal

pub returns : goal.returns
returns c =
    let held = c.requires.2.agrees in
    let alike : c.args.self.now.lines.roff.output ≡ c.args.self.now.lines.body.header.measure.output =
    rw c.requires.1.lines (held.output ∙ sym (ap (λ (m : Measure). m.output) held.measure)) in
    search rules
