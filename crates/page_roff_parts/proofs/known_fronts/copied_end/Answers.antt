use Rattle.std.proofs.Common.{◌<◌, false, drop, arith, drop-drop}
use Rattle.page_roff_parts.proofs.FrontLemmas.{front_part, front_pair}
use Rattle.page_roff_parts.proofs.known_fronts.copied_end.Goals as goal

pub pair_len-len-requires-clause-lone : goal.pair_len-len-requires-clause-lone
pair_len-len-requires-clause-lone c = λ h. rw (c.after.ensures, drop-drop 2 c.args.at c.args.text.now) (c.is_lone-is_lone.ensures h)

pub returns-clause-front : goal.returns-clause-front
returns-clause-front c =
    let at = c.args.at in
    let text = c.args.text.now in
    let len = c.pair_len-len.result in
    let pair = rw c.after.ensures at c.pair_len-len.ensures in
    let some : 0 < len = omega (arith, c.if-len-eq0.false) in
    front_pair text at len c.front_at.result (omega (arith, c.front_at.ensures.within))
    (front_part false (drop at text) len some pair.within (pair.pair some)) c.front_at.ensures.front
