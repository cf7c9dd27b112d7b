use Rattle.std.proofs.Common.{◌≡◌, ◌+◌, ◌-◌, drop, reverse, vec_capacity, vec_len}
use Rattle.page_core_base.specs.laws.Views.{CameUpTo}
use Rattle.page_scopes_tree.specs.machine.Nestings.{ended_items, ended_state}
use Rattle.page_scopes_tree.specs.laws.Views.{act_view, does}
use Rattle.page_scopes_tree.specs.machine.Stacks.{framed}
use Rattle.page_scopes_tree.proofs.stacks.end_scopes.Given as goal

abbrev pub invariant-loop-i : goal.invariant-loop-i
invariant-loop-i g l = record {
  came : CameUpTo g.O.PieceOut.left l.fn.out
      (ended_items (framed g.Y.Renderer.tables) l.count (does (act_view l.act)) (reverse l.fn.scopes.items) l.fn.state)
      (ended_items (framed g.Y.Renderer.tables) (l.count - l._i) (does (act_view l.act)) (reverse l.scopes.items) l.state) l.out;
  state : ended_state (framed g.Y.Renderer.tables) l.count (does (act_view l.act)) (reverse l.fn.scopes.items) l.fn.state
      ≡ ended_state (framed g.Y.Renderer.tables) (l.count - l._i) (does (act_view l.act)) (reverse l.scopes.items) l.state;
  scopes : drop l.count (reverse l.fn.scopes.items) ≡ drop (l.count - l._i) (reverse l.scopes.items);
  room : vec_capacity l.scopes ≡ vec_capacity l.fn.scopes;
  len : vec_len l.scopes + l._i ≡ vec_len l.fn.scopes;
}
