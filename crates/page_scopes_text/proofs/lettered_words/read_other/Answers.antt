use Rattle.std.proofs.Common.{◌≡◌, ◌<◌, length, drop, refl, sym, ap, ◌∙◌, arith}
use Rattle.std.proofs.lemmas.List.{take_rest}
use Rattle.page_core_escapes.specs.Tokens.{token_bytes, token_len}
use Rattle.page_scopes_text.proofs.PartedLemmas.{begins_some, plain_letters}
use Rattle.page_scopes_text.specs.machine.Letters.{ReadsToken}
use Rattle.page_scopes_text.proofs.lettered_words.read_other.Goals as goal

pub take_token-requires : goal.take_token-requires
take_token-requires c = λ bytes e.
    let text = c.args.text.now in
    let t = c.read_token-token.ensures in
    let some : 0 < length bytes = rw e at (t.some (begins_some text c.requires.1)) in
    plain_letters c.args.quoted text bytes (sym t.value ∙ e) some

pub returns : goal.returns
returns c =
    let text = c.args.text.now in
    let quoted = c.args.quoted in
    let t = c.read_token-token.ensures in
    let n = c.len.result in
    let is : n ≡ token_len quoted text = c.len.ensures ∙ ap (λ u. length (token_bytes u)) t.value in
    let some = t.some (begins_some text c.requires.1) in
    let reads : ReadsToken quoted c.args.fonts.now c.args.letters.now text c.fonts_after.result c.take_token.new.letters (drop n text) =
    record {
      takes = rw t.value at (c.if-not-take_token.ensures.taken refl);
      some = omega (arith, some, is, c.len.ensures);
      within = omega (arith, t.within, is, c.len.ensures);
      next_fonts = rw t.value at c.fonts_after.ensures;
      left = ap (λ k. drop k text) is;
    } in
    rw (take_rest text n) reads
