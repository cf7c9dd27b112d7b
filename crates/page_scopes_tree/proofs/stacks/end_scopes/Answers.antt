use Rattle.std.proofs.Common.{◌≡◌, ◌-◌, arith, ◌∙◌, sym, reverse, refl, append_assoc}
use Rattle.page_scopes_tree.specs.laws.Views.{act_view, does}
use Rattle.page_scopes_tree.specs.machine.Stacks.{framed}
use Rattle.page_scopes_tree.proofs.EdgeLemmas.{items_more, state_more, drop_more}
use Rattle.page_scopes_tree.proofs.stacks.end_scopes.Goals as goal

pub loop-i-init : goal.loop-i-init
loop-i-init g c =
    let none : c.args.count - 0 ≡ c.args.count = omega arith in
    rw none (record { came = λ plan rest h. h; state = refl; scopes = refl; room = refl; len = omega arith })

pub loop-i-preserved : goal.loop-i-preserved
loop-i-preserved g c =
    let l = c.loop-i in
    let i = l.invariant in
    let h = c.end_innermost.ensures in
    let act = does (act_view c.args.act.now) in
    let less = c.loop-i-test.true in
    let items = items_more (framed g.Y.Renderer.tables) c.args.count l._i less act (reverse l.scopes.items) l.state in
    let states = state_more (framed g.Y.Renderer.tables) c.args.count l._i less act (reverse l.scopes.items) l.state in
    let dropped = drop_more c.args.count l._i less (reverse l.scopes.items) in
    rw (h.state, h.scopes.0) (record {
      came = λ plan rest k. h.came plan _ (rw (items, append_assoc) at (i.came plan rest k));
      state = i.state ∙ states;
      scopes = i.scopes ∙ dropped;
      room = h.scopes.1 ∙ i.room;
      len = omega arith;
    })

pub returns : goal.returns
returns g c =
    let i = c.loop-i.invariant in
    let none : c.args.count - c.loop-i._i ≡ 0 = omega arith in
    record {
      came = λ plan rest h. rw none at (i.came plan rest h);
      state = sym (rw none at i.state);
      scopes = (sym (rw none at i.scopes), i.room);
    }
