use Rattle.std.proofs.Common.{◌-◌, length, take, drop, ap, ap₂, ◌∙◌}
use Rattle.page_core_escapes.specs.Meanings.{meaning_by, letter_meaning}
use Rattle.page_core_escapes.proofs.Unwinding.{slice_from, meaning_of-short, meaning_of-parts}
use Rattle.page_core_escapes.proofs.meaning.read_meaning.Goals as goal

pub returns-then-escape-lt2 : goal.returns-then-escape-lt2
returns-then-escape-lt2 c = meaning_of-short c.args.pairs c.args.escape.now c.if-escape-lt2.true

pub returns : goal.returns
returns c =
    let t = c.args.escape.now in
    c.meaning_by.ensures ∙ ap (λ a. meaning_by c.letter_of-letter.result.kind a (take (length t - 1) (drop 1 t))) c.argument.ensures
    ∙ ap₂ (letter_meaning c.args.pairs) c.letter_of-letter.ensures (slice_from t 1)
    ∙ meaning_of-parts c.args.pairs t c.if-escape-lt2.false
