use Rattle.std.proofs.Common.{◌≤◌, ◌<◌, ◌+◌, ◌-◌, length, ap, sym, ◌∙◌, arith, length-drop}
use Rattle.std.proofs.lemmas.Bool.Decides.{nat_tests}
use Rattle.std.proofs.lemmas.List.{take_rest}
use Rattle.page_core_escapes.specs.Tokens.{token_bytes}
use Rattle.page_scopes_text.proofs.TextLemmas.{Passes, front_passed, passed_end, passed_word, no_others}
use Rattle.page_scopes_text.proofs.PartedLemmas.{white_front}
use Rattle.page_scopes_text.specs.Texts.{last_of}
use Rattle.page_scopes_text.proofs.last_words.last_word.Goals as goal

pub loop-rest-init : goal.loop-rest-init
loop-rest-init c =
    let w = c.after_word-rest.ensures in
    record {
      found = rw c.first_column-found.ensures (front_passed c.args.quoted c.args.column c.args.last c.args.text.now c.after_word-rest.result.now w.len w.others);
      ends = w.ends;
      less = omega (arith, w.len);
    }

pub loop-rest-preserved-then-begins_word : goal.loop-rest-preserved-then-begins_word
loop-rest-preserved-then-begins_word c =
    let l = c.loop-rest in
    let i = l.invariant in
    let quoted = c.args.quoted in
    let n = c.len.result in
    let rest = c.after_word-rest-in-loop-rest.result.now in
    let some : 0 < length l.rest.now = grind (arith, nat_tests) in
    let is = c.len.ensures ∙ ap (λ u. length (token_bytes u)) c.read_token.ensures.value in
    let within = rw c.read_token.ensures.value at c.read_token.ensures.within in
    let w = rw (take_rest l.rest.now n) at c.after_word-rest-in-loop-rest.ensures in
    let word = rw (take_rest l.rest.now n) at (sym c.begins_word.ensures ∙ c.if-begins_word.true) in
    let passes : Passes quoted l.rest.now rest n =
    record { begins = white_front l.rest.now some i.ends; len = is; within = omega (arith, is, within); word_len = w.len; others = w.others } in
    rw (take_rest l.rest.now n) (record {
      found = i.found ∙ passed_word quoted c.args.column l.found (length c.args.text.now) l.rest.now rest n passes i.less word;
      ends = w.ends;
      less = omega (arith, w.len, length-drop n l.rest.now, i.less);
    })

pub loop-rest-preserved : goal.loop-rest-preserved
loop-rest-preserved c =
    let l = c.loop-rest in
    let i = l.invariant in
    let quoted = c.args.quoted in
    let n = c.len.result in
    let rest = c.after_word-rest-in-loop-rest.result.now in
    let some : 0 < length l.rest.now = grind (arith, nat_tests) in
    let is = c.len.ensures ∙ ap (λ u. length (token_bytes u)) c.read_token.ensures.value in
    let within = rw c.read_token.ensures.value at c.read_token.ensures.within in
    let w = rw (take_rest l.rest.now n) at c.after_word-rest-in-loop-rest.ensures in
    let none = rw (take_rest l.rest.now n) at (sym c.begins_word.ensures ∙ c.if-begins_word.false) in
    let passes : Passes quoted l.rest.now rest n =
    record { begins = white_front l.rest.now some i.ends; len = is; within = omega (arith, is, within); word_len = w.len; others = w.others } in
    record {
      found = i.found ∙ passed_end quoted c.args.column l.found (length c.args.text.now) l.rest.now rest n passes i.less none;
      ends = w.ends;
      less = omega (arith, w.len, length-drop n l.rest.now, i.less);
    }

pub returns : goal.returns
returns c =
    let l = c.loop-rest in
    let none : length l.rest.now ≤ 0 = grind (arith, nat_tests) in
    sym (l.invariant.found ∙ ap (last_of (c.args.column + (length c.args.text.now - length l.rest.now)) l.found) (no_others c.args.quoted l.rest.now none))
