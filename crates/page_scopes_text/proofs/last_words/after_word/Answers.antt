use Rattle.std.proofs.Common.{◌≡◌, ◌<◌, ◌+◌, true, length, drop, ap, sym, ◌∙◌, arith, length-drop}
use Rattle.std.proofs.lemmas.List.{take_rest}
use Rattle.page_core_escapes.specs.laws.Views.{begins_word}
use Rattle.page_core_escapes.specs.Tokens.{token_at, token_bytes, tokens_len}
use Rattle.page_core_escapes.proofs.Unwinding.{word_some}
use Rattle.page_scopes_text.proofs.PartedLemmas.{no_word, others_same, words_more}
use Rattle.page_scopes_text.specs.Texts.{Parted, words_of}
use Rattle.page_scopes_text.proofs.last_words.after_word.Goals as goal

pub loop-rest-smaller : goal.loop-rest-smaller
loop-rest-smaller c =
    let l = c.loop-rest in
    let t : begins_word l.rest.now ≡ true = sym c.begins_word.ensures ∙ c.loop-rest-test.true in
    let some : 0 < c.len.result = rw c.len.ensures (c.read_token.ensures.some (word_some l.rest.now t)) in
    rw (take_rest l.rest.now c.len.result) (omega (arith, some, length-drop c.len.result l.rest.now, word_some l.rest.now t))

pub loop-rest-preserved : goal.loop-rest-preserved
loop-rest-preserved c =
    let l = c.loop-rest in
    let i = l.invariant in
    let quoted = c.args.quoted in
    let n = c.len.result in
    let t : begins_word l.rest.now ≡ true = sym c.begins_word.ensures ∙ c.loop-rest-test.true in
    let v = c.read_token.ensures in
    let some : 0 < n = rw c.len.ensures (v.some (word_some l.rest.now t)) in
    let is = c.len.ensures ∙ ap (λ u. length (token_bytes u)) v.value in
    let sum : tokens_len (words_of quoted l.rest.now).word ≡ length (token_bytes (token_at quoted l.rest.now)) + tokens_len (words_of quoted (drop n l.rest.now)).word =
    ap (λ (p : Parted). tokens_len p.word) (words_more quoted l.rest.now n t some is) in
    let d = length-drop n l.rest.now in
    let w = rw v.value at v.within in
    rw (take_rest l.rest.now n) (record {
      len = omega (arith, d, w, is, sum, i.len);
      others = others_same quoted l.rest.now n t some is ∙ i.others;
      short = omega (arith, d, i.short);
    })

pub returns-clause-len : goal.returns-clause-len
returns-clause-len c =
    let l = c.loop-rest in
    let none = ap tokens_len (no_word c.args.quoted l.rest.now (sym c.begins_word.ensures ∙ c.loop-rest-test.false)) in
    omega (arith, none, l.invariant.len)
