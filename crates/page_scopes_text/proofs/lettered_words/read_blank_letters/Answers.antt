use Rattle.std.proofs.Common.{◌<◌, length, refl, arith}
use Rattle.std.proofs.lemmas.Bool.Decides.{nat_tests}
use Rattle.std.proofs.lemmas.List.{take_rest}
use Rattle.page_scopes_text.proofs.RunWordLemmas.{blank_adds}
use Rattle.page_scopes_text.proofs.lettered_words.read_blank_letters.Goals as goal

pub returns-clause-reads : goal.returns-clause-reads
returns-clause-reads c =
    let text = c.args.text.now in
    let some : 0 < length text = grind (arith, nat_tests, c.is_empty.ensures, c.if-is_empty.false) in
    blank_adds c.args.style c.args.fonts.now c.read_after_blank.new.fonts text c.in_ok-rest.rest.now c.args.letters.now c.add.new.self c.read_after_blank.new.letters some c.if-text-ne32.false
    (c.if-not-add.ensures.added refl) (rw (take_rest text 1) at c.in_ok-rest.ensures.reads)
