use Rattle.page_scopes_text.proofs.RunWordLemmas.{adds_join, adds_none}
use Rattle.page_scopes_text.proofs.lettered_words.read_words.Goals as goal

pub loop-after-init : goal.loop-after-init
loop-after-init c = adds_none c.args.style c.args.fonts.now c.args.letters.now c.args.text.now c.requires.word

pub loop-after-preserved : goal.loop-after-preserved
loop-after-preserved c =
    let l = c.loop-after in
    adds_join c.args.style c.args.fonts.now l.fonts c.read_word.new.fonts c.args.letters.now l.letters c.read_word.new.letters c.args.text.now l.rest.now c.in-Some.after.now l.invariant c.in-Some.ensures.reads
