use Rattle.std.proofs.Common.{◌≡◌, ◌<◌, true, false, length, ap, sym, ◌∙◌, append_assoc, arith, length-drop}
use Rattle.std.proofs.lemmas.List.{take_rest}
use Rattle.page_core_escapes.specs.laws.Views.{begins_word}
use Rattle.page_core_escapes.specs.Tokens.{is_space, token_bytes}
use Rattle.page_core_escapes.proofs.Unwinding.{word_some}
use Rattle.page_scopes_text.proofs.PartedLemmas.{front_not_space, no_word, others_same, pen_more, tokens_more}
use Rattle.page_scopes_words.specs.Words.{pen_through}
use Rattle.page_scopes_text.proofs.words.give_tokens.Goals as goal

pub give_printed-requires : goal.give_printed-requires
give_printed-requires g c =
    let l = c.loop-place in
    let t : begins_word l.rest.now ≡ true = sym c.begins_word.ensures ∙ c.loop-place-test.true in
    ap is_space c.read_token-token.ensures.value ∙ front_not_space c.args.quoted l.rest.now t

pub loop-place-preserved : goal.loop-place-preserved
loop-place-preserved g c =
    let l = c.loop-place in
    let i = l.invariant in
    let quoted = c.args.quoted in
    let n = c.len.result in
    let t : begins_word l.rest.now ≡ true = sym c.begins_word.ensures ∙ c.loop-place-test.true in
    let v = c.read_token-token.ensures in
    let some : 0 < n = rw c.len.ensures (v.some (word_some l.rest.now t)) in
    let is = c.len.ensures ∙ ap (λ u. length (token_bytes u)) v.value in
    let items = tokens_more quoted c.args.place l.pen l.rest.now n t some is in
    let pens = pen_more quoted l.pen l.rest.now n t some is in
    let others = others_same quoted l.rest.now n t some is in
    let d = length-drop n l.rest.now in
    let w = rw v.value at v.within in
    rw (take_rest l.rest.now n, c.pass.ensures, v.value) (record {
      came = λ plan rest h. (rw v.value at c.give_printed.ensures) plan _ (rw (items, append_assoc) at (i.came plan rest h));
      pen = i.pen ∙ pens;
      others = others ∙ i.others;
      column = omega (arith, d, w, is, i.column);
      less = omega (arith, d, i.less);
    })

pub returns-clause-came : goal.returns-clause-came
returns-clause-came g c = λ plan rest h.
    let l = c.loop-place in
    let f : begins_word l.rest.now ≡ false = sym c.begins_word.ensures ∙ c.loop-place-test.false in
    rw (no_word c.args.quoted l.rest.now f) at (l.invariant.came plan rest h)

pub returns-clause-pen : goal.returns-clause-pen
returns-clause-pen g c =
    let l = c.loop-place in
    let f : begins_word l.rest.now ≡ false = sym c.begins_word.ensures ∙ c.loop-place-test.false in
    sym (l.invariant.pen ∙ ap (pen_through l.pen) (no_word c.args.quoted l.rest.now f))
