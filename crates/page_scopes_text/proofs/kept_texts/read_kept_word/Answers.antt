use Rattle.std.proofs.Common.{◌≡◌, ◌<◌, length, ap, sym, ◌∙◌, arith}
use Rattle.page_core_escapes.specs.Tokens.{token_bytes, token_len}
use Rattle.page_scopes_text.proofs.KeptTextLemmas.{reads_word, white_all}
use Rattle.page_scopes_text.proofs.PartedLemmas.{white_some}
use Rattle.page_scopes_text.proofs.kept_texts.read_kept_word.Goals as goal

pub returns-clause-reads : goal.returns-clause-reads
returns-clause-reads c =
    let quoted = c.args.style.is_quoted in
    let text = c.args.text.now in
    let n = c.len.result in
    let parts = c.split_at.ensures in
    let is : n ≡ token_len quoted text = c.len.ensures ∙ ap (λ u. length (token_bytes u)) c.read_token.ensures.value in
    let above = white_some quoted text c.requires.white in
    let some : 0 < length c.split_at.result.0.now = omega (arith, parts.front_len, is, above) in
    reads_word c.args.style text c.split_at.result.0.now c.split_at.result.1.now c.in_ok-rest.field-0-0.now c.in_ok-rest.rest.now n record {
      begins = c.requires.white;
      len = is;
      front = parts.front;
      back = parts.back;
      some = some;
      blanks = rw parts.front (white_all quoted text n c.requires.white is);
      no_tab = sym c.has_tab.ensures ∙ c.if-has_tab.false;
      plain_word = c.in_ok-rest.ensures.reads;
      word_whole = c.in_ok-rest.ensures.whole;
    }
