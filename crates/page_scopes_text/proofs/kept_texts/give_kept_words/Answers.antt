use Rattle.std.proofs.Common.{◌≡◌, ◌-◌, ◌<◌, length, take, sym, ◌∙◌, append_assoc, arith}
use Rattle.std.proofs.lemmas.Bool.Decides.{nat_tests}
use Rattle.page_scopes_text.proofs.KeptTextLemmas.{front_of, kept_some}
use Rattle.page_scopes_text.specs.machine.Letters.{kept_pen}
use Rattle.page_scopes_text.proofs.kept_texts.give_kept_words.Goals as goal

-- none of them were taken
pub returns-then-not-tries-2-clause-came : goal.returns-then-not-tries-2-clause-came
returns-then-not-tries-2-clause-came g c = λ last plan more h.
    let r = c.read_kept-rest.ensures.reads in
    let is = c.goes_on.ensures c.if-not-goes_on.false in
    let k = r.gives c.args.line last c.args.pen.now is in
    let front = front_of c.args.style c.args.text.now c.read_kept-rest.result.now r in
    let gave = rw (front, c.if-not-tries-2.true) at c.give_kept.ensures in
    gave k.0 k.1.0 k.1.1 plan _ h

pub returns-clause-came : goal.returns-clause-came
returns-clause-came g c = λ last plan more h.
    let r = c.read_kept-rest.ensures.reads in
    let is = c.goes_on.ensures c.if-not-goes_on.false in
    let k = r.gives c.args.line last c.args.pen.now is in
    let front = front_of c.args.style c.args.text.now c.read_kept-rest.result.now r in
    let gave = rw (front, c.if-not-tries-2.false) at c.give_kept.ensures in
    let read : 0 < length (take (length c.args.text.now - length c.read_kept-rest.result.now) c.args.text.now) =
    let empty = c.is_empty.ensures in let not_empty = c.if-is_empty.false in grind (arith, nat_tests, empty, not_empty) in
    let some : 0 < length r.front = rw front at read in
    let pen : c.pass_plain.new.self ≡ kept_pen c.args.pen.now r.front = (rw front at c.pass_plain.ensures) ∙ sym (kept_some c.args.pen.now r.front some) in
    rw pen (gave k.0 k.1.0 k.1.1 plan _ (rw (k.2, append_assoc) at h))
