use Rattle.std.proofs.Common.{arith}
use Rattle.std.proofs.lemmas.Bool.Decides.{nat_tests}
use Rattle.page_scopes_text.proofs.RunWordLemmas.{word_adds}
use Rattle.page_scopes_text.proofs.lettered_words.read_after_blank.Goals as goal

pub returns-clause-reads : goal.returns-clause-reads
returns-clause-reads c =
    let reads = c.in_ok-rest.ensures.reads in
    rw c.in_default.ensures.reads at
    (word_adds c.args.style c.args.fonts.now c.read_letters.new.fonts c.args.text.now c.in_ok-rest.rest.now c.read_run.new.letters c.read_letters.new.letters c.requires.literal c.requires.word reads.1
    reads.0 (λ k. grind (arith, nat_tests, k, c.if-len-start.false, c.len.ensures.value, c.len-start.ensures.value)))
