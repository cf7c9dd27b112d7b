use Rattle.std.proofs.Common.{◌≡◌, ap, subst, ◌∙◌, rules, w32, FitsSigned, pos}
use Rattle.std.specs.Prelude.{unwrap_or}
use Rattle.std.proofs.lemmas.Int.{to_z-of_z}
use Rattle.page_scopes_blocks.specs.Blocks as blocks
use Rattle.page_scopes_blocks.specs.Lists.{given_columns, given_notes}
use Rattle.page_scopes_layout.specs.Contexts.{display_begun}
use Rattle.page_scopes_phrases.specs.Phrases.{in_context, after_notes}
use Rattle.page_scopes_phrases.specs.laws.Views.{GivesOutcome}
use Rattle.page_sets_lines.specs.laws.Events.{given_view}
use Rattle.page_scopes_blocks.proofs.ListLemmas.{came_after}
use Rattle.page_scopes_blocks.proofs.blocks.begin_display.Goals as goal

pub returns : goal.returns
returns g c =
    let left = g.O.PieceOut.left in
    let out = c.args.out.now in
    let last = c.give_display_begin.new in
    let state = c.args.state.now in
    let front = c.display_begun-state.result in
    let notes = given_notes c.args.place (given_view c.args.offset) in
    let fits : FitsSigned w32 c.give_offset-columns.result = search rules in
    let e : front ≡ display_begun c.args.is_literal (unwrap_or (given_columns c.args.output (given_view c.args.offset)) (pos 0)) state.context =
    c.display_begun-state.ensures
    ∙ ap (λ columns. display_begun c.args.is_literal columns state.context)
    (to_z-of_z w32 c.give_offset-columns.result fits ∙ c.give_offset-columns.ensures.columns) in
    let came = came_after left out c.give_offset-columns.new.out last.out notes (blocks.display_begins c.args.is_compact (in_context front state)).items
    c.give_offset-columns.ensures.came c.give_display_begin.ensures.came in
    subst (λ f. GivesOutcome left out (after_notes notes (blocks.display_begins c.args.is_compact (in_context f state))) last.out last.state) e
    (record { came = came; state = c.give_display_begin.ensures.state })
