use Rattle.std.proofs.Common.{◌≡◌, ◌<◌, false, length, drop, take, sym, ◌∙◌, arith}
use Rattle.std.proofs.lemmas.Bool.Decides.{nat_tests}
use Rattle.page_core_escapes.specs.laws.Views.{begins_word}
use Rattle.page_scopes_text.proofs.PartedLemmas.{reads_front}
use Rattle.page_scopes_text.proofs.words.read_plain.Goals as goal

pub returns-clause-reads : goal.returns-clause-reads
returns-clause-reads c =
    let n = c.plain_len.result in
    let text = c.args.text.now in
    let parts = c.split_at.ensures in
    let some : 0 < length (take n text) = rw (← parts.front) (grind (arith, nat_tests, c.is_empty.ensures, c.if-is_empty.false)) in
    let ends : begins_word (drop n text) ≡ false = rw (← parts.back) (sym c.begins_word.ensures ∙ c.if-begins_word.false) in
    rw (parts.front, parts.back) (reads_front c.args.quoted text n c.plain_len.ensures.value c.plain_len.ensures.within some ends)
