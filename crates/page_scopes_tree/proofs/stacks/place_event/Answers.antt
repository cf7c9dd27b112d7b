use Rattle.std.proofs.Common.{◌≡◌, arith, reverse}
use Rattle.page_scopes_tree.specs.laws.Views.{labels}
use Rattle.page_scopes_tree.proofs.FitLemmas.{act-room}
use Rattle.page_scopes_tree.proofs.RunLemmas.{length-inner_labels}
use Rattle.page_scopes_tree.specs.Placements.{act_placement}
use Rattle.page_scopes_tree.specs.declared.acts.Act.TheVariants.{Event}
use Rattle.page_scopes_tree.specs.declared.placements.Placement.TheVariants.{Node}
use Rattle.page_sets_lines.specs.laws.Events.{event_view}
use Rattle.page_scopes_tree.proofs.stacks.place_event.Goals as goal

pub open_scope-requires-clause-room : goal.open_scope-requires-clause-room
open_scope-requires-clause-room g c =
    let scopes = c.args.scopes.now in
    let seen = Event (event_view c.args.event.now) in
    let inner = labels (reverse scopes.items) in
    let placement = rw c.as_slice.ensures.value at c.placement_of.ensures in
    let is = c.in-Node.is in
    let opens : act_placement seen c.args.count inner ≡ Node c.in-Node.label = cc in
    let room = act-room seen c.args.count inner c.in-Node.label opens in
    let reserved = c.requires.reserved in
    omega (arith, room, reserved, length-inner_labels scopes.items, scopes.ok.0)
