use Rattle.std.proofs.Common.{arith}
use Rattle.page_roff_effects.proofs.FreeLemmas.{free_lanes, free_without}
use Rattle.page_roff_effects.proofs.free_lines.has_key_from.Goals as goal

pub returns-then-starts-eq0 : goal.returns-then-starts-eq0
returns-then-starts-eq0 c = λ _. free_without c.args.line.now c.args.at c.requires (omega (arith, c.backslashes-starts.ensures))

pub returns : goal.returns
returns c = λ h.
    free_lanes c.args.line.now c.args.at c.requires (rw (c.backslashes-starts.ensures, c.keys.ensures) at h)
