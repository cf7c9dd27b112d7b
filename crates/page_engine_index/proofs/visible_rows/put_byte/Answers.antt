use Rattle.std.proofs.Common.{refl, sym, ◌∙◌}
use Rattle.page_core_streams.proofs.AsciiLemmas.{GrowsUpTo-start, GrowsUpTo-more, GrowsUpTo-last}
use Rattle.page_engine_index.specs.Written.{held_back, own_byte}
use Rattle.page_engine_index.proofs.visible_rows.put_byte.Goals as goal

pub returns-then-put_held-clause-writes : goal.returns-then-put_held-clause-writes
returns-then-put_held-clause-writes g c =
    let two = GrowsUpTo-more _ (held_back c.args.held) (own_byte c.args.byte) (GrowsUpTo-start _ _) refl (rw c.if-put_held.true at c.put_held.ensures.writes) in
    rw (sym c.ends_control.ensures ∙ c.if-ends_control.false) (GrowsUpTo-last _ _ c.put_own.result two refl c.put_own.ensures.writes)
