use Rattle.std.proofs.Common.{◌≡◌, arith, false, reverse}
use Rattle.page_scopes_tree.specs.laws.Views.{labels, act_view}
use Rattle.page_scopes_tree.proofs.FitLemmas.{act-fits}
use Rattle.page_scopes_tree.proofs.RunLemmas.{length-inner_labels}
use Rattle.page_scopes_tree.proofs.StepLemmas.{step-taken}
use Rattle.page_scopes_tree.specs.Placements.{is_passed_over}
use Rattle.page_scopes_tree.proofs.stacks.take_nesting.Goals as goal

pub end_scopes-requires : goal.end_scopes-requires
end_scopes-requires g c =
    let scopes = c.args.scopes.now in
    let count = rw c.as_slice.ensures.value at c.count_ended-count.ensures in
    let fits = act-fits (act_view c.args.act.now) (labels (reverse scopes.items)) in
    rw count (omega (arith, fits, length-inner_labels scopes.items, scopes.ok.0))

pub returns-clause-stepped : goal.returns-clause-stepped
returns-clause-stepped g c =
    let before = rw c.as_slice.ensures.value at c.count_ended-count.ensures in
    let after = rw c.as_slice-2.ensures.value at c.skips_after.ensures in
    let goes = c.is_passed_over.ensures in
    let test = c.if-is_passed_over.false in
    let passed : is_passed_over c.args.skips.now (act_view c.args.act.now) ≡ false = cc in
    step-taken g.O.PieceOut.left g.Y.Renderer.tables (act_view c.args.act.now) c.args.skips.now c.skips_after.result (reverse c.args.scopes.now.items)
    (reverse c.end_scopes.new.scopes.items) (reverse c.place_act.new.scopes.items) c.args.state.now c.end_scopes.new.state c.place_act.new.state c.args.out.now
    c.end_scopes.new.out c.place_act.new.out c.count_ended-count.result passed before c.end_scopes.ensures.scopes.0 after c.end_scopes.ensures.state
    c.end_scopes.ensures.came c.place_act.ensures.came c.place_act.ensures.state c.place_act.ensures.scopes.0
