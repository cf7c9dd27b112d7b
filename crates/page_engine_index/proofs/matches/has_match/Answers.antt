use Rattle.std.proofs.Common.{◌≡◌, sym, ◌∙◌, arith, ◌<◌, length}
use Rattle.page_engine_index.proofs.MatchLemmas.{no_room, split_found, split_last, split_on}
use Rattle.page_engine_index.proofs.matches.has_match.Goals as goal

pub returns-then-is_match : goal.returns-then-is_match
returns-then-is_match c =
    split_found c.args.word.now c.args.names.now c.loop-after.rest.now c.split_at.result.0.now c.name_len.result c.loop-after.invariant c.name_len.ensures.value
    c.split_at.ensures.front (sym c.is_match.ensures ∙ c.if-is_match.true)

pub returns-then-after-lt2 : goal.returns-then-after-lt2
returns-then-after-lt2 c =
    let s = c.split_at.ensures in
    let n = c.name_len in
    let same : n.result ≡ length c.loop-after.rest.now = no_room n.result (length c.loop-after.rest.now) n.ensures.room n.ensures.bound (omega (arith, s.back_len, c.if-after-lt2.true)) in
    split_last c.args.word.now c.args.names.now c.loop-after.rest.now c.split_at.result.0.now n.result c.loop-after.invariant n.ensures.value s.front
    (sym c.is_match.ensures ∙ c.if-is_match.false) same

pub loop-after-preserved : goal.loop-after-preserved
loop-after-preserved c =
    let s = c.split_at.ensures in
    let n = c.name_len in
    let short : n.result < length c.loop-after.rest.now = omega (arith, s.back_len, c.if-after-lt2.false) in
    split_on c.args.word.now c.args.names.now c.loop-after.rest.now c.split_at.result.0.now c.split_at.result.1.now n.result c.loop-after.invariant n.ensures.value s.front
    s.back (sym c.is_match.ensures ∙ c.if-is_match.false) short
