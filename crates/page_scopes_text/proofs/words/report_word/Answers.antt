use Rattle.std.proofs.Common.{◌≡◌, ◌<◌, ℕ, true, false, Bool, List, ◌++◌, [], length, drop, ap, sym, ◌∙◌, append_assoc, arith, length-drop}
use Rattle.std.proofs.lemmas.List.{take_rest}
use Rattle.page_core_base.specs.declared.places.Place.{Place}
use Rattle.page_core_escapes.specs.laws.Views.{begins_word}
use Rattle.page_core_escapes.specs.Tokens.{token_at, token_bytes, token_len}
use Rattle.page_core_escapes.proofs.Unwinding.{word_some}
use Rattle.page_scopes_text.proofs.PartedLemmas.{words_more, no_word}
use Rattle.page_scopes_text.specs.Texts.{Parted, words_of}
use Rattle.page_scopes_words.specs.Words.{token_notes, tokens_notes}
use Rattle.page_scopes_text.proofs.words.report_word.Goals as goal

notes_more : (quoted : Bool) (place : Place) (text : List ℕ) (n : ℕ) → begins_word text ≡ true → 0 < n → n ≡ token_len quoted text
    → tokens_notes quoted place (words_of quoted text).word ≡ token_notes quoted place (token_at quoted text) ++ tokens_notes quoted place (words_of quoted (drop n text)).word
notes_more quoted place text n h k e = ap (λ (t : Parted). tokens_notes quoted place t.word) (words_more quoted text n h k e)

notes_none : (quoted : Bool) (place : Place) (text : List ℕ) → begins_word text ≡ false → tokens_notes quoted place (words_of quoted text).word ≡ []
notes_none quoted place text h = ap (tokens_notes quoted place) (no_word quoted text h)

pub loop-rest-smaller : goal.loop-rest-smaller
loop-rest-smaller g c =
    let l = c.loop-rest in
    let t : begins_word l.rest.now ≡ true = sym c.begins_word.ensures ∙ c.loop-rest-test.true in
    let some : 0 < c.len.result = rw c.len.ensures (c.read_token-token.ensures.some (word_some l.rest.now t)) in
    rw (take_rest l.rest.now c.len.result) (omega (arith, some, length-drop c.len.result l.rest.now, word_some l.rest.now t))

pub loop-rest-preserved : goal.loop-rest-preserved
loop-rest-preserved g c =
    let l = c.loop-rest in
    let t : begins_word l.rest.now ≡ true = sym c.begins_word.ensures ∙ c.loop-rest-test.true in
    let v = c.read_token-token.ensures in
    let some : 0 < c.len.result = rw c.len.ensures (v.some (word_some l.rest.now t)) in
    let more = notes_more c.args.quoted c.args.place l.rest.now c.len.result t some (c.len.ensures ∙ ap (λ u. length (token_bytes u)) v.value) in
    rw (take_rest l.rest.now c.len.result) (
      (λ plan rest h. (rw v.value at c.report_token.ensures) plan _ (rw (more, append_assoc) at (l.invariant.0 plan rest h))),
      omega (arith, length-drop c.len.result l.rest.now, l.invariant.1),
    )

pub returns : goal.returns
returns g c = λ plan rest h.
    let l = c.loop-rest in
    let f : begins_word l.rest.now ≡ false = sym c.begins_word.ensures ∙ c.loop-rest-test.false in
    rw (notes_none c.args.quoted c.args.place l.rest.now f) at (l.invariant.0 plan rest h)
