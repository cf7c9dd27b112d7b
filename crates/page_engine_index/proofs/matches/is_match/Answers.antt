use Rattle.std.proofs.Common.{sym, ◌∙◌}
use Rattle.page_engine_index.proofs.MatchLemmas.{place_found, place_on, place_end}
use Rattle.page_engine_index.proofs.matches.is_match.Goals as goal

pub returns-then-matches_here : goal.returns-then-matches_here
returns-then-matches_here c =
    let l = c.loop-byte in
    place_found c.args.word.now c.args.name.now l.rest.now l.before _ _ l.invariant c.in-Some.ensures.cases.0 (sym c.matches_here.ensures ∙ c.if-matches_here.true)

pub loop-byte-preserved : goal.loop-byte-preserved
loop-byte-preserved c =
    let l = c.loop-byte in
    rw c.is_word_byte-before.ensures
    (place_on c.args.word.now c.args.name.now l.rest.now l.before _ _ l.invariant c.in-Some.ensures.cases.0 (sym c.matches_here.ensures ∙ c.if-matches_here.false))

pub returns : goal.returns
returns c =
    let l = c.loop-byte in
    c.matches_here-2.ensures ∙ place_end c.args.word.now c.args.name.now l.rest.now l.before l.invariant c.in_default.ensures.cases
