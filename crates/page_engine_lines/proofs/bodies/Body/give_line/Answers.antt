use Rattle.std.proofs.Common.{rules, refl, sym, ◌∙◌, [], ap, append-nil, None, Some}
use Rattle.page_core_base.specs.laws.Views.{line_view}
use Rattle.page_engine_lines.specs.laws.Views.{events_after}
use Rattle.page_engine_lines.proofs.BodySharedLemmas.{after_none, items_none}
use Rattle.page_engine_lines.proofs.bodies.Body.give_line.Goals as goal

pub returns : goal.returns
returns g c =
    let body = c.args.self.now in
    let events = g.S.MacroSet.table c.args.set.now (line_view c.args.taken) in
    let same = ap (events_after body) (append-nil events) in
    let e = c.give.ensures (record { plan = None; rest = []; edge = events_after body events; body = _; out = _ }) []
    (record { same_body = refl; same_out = refl; items = tt; after = same }) in
    record {
      came = λ plan rest h.
          let k = c.give.ensures (record { plan = Some plan; rest = rest; edge = events_after body events; body = _; out = _ }) []
          (record { same_body = refl; same_out = refl; items = rw append-nil h; after = same }) in
          search (rules, k.same_out, rw items_none at k.items);
      after = search (rules, e.same_body, sym (after_none _) ∙ e.after);
    }
