use Rattle.std.proofs.Common.{◌≡◌, drop, sym, ◌∙◌}
use Rattle.page_roff_syntax.specs.Delimiters.{character_len}
use Rattle.page_roff_parts.proofs.FrontLemmas.{escape_pair}
use Rattle.page_roff_parts.proofs.fronts.pair_len.Goals as goal

pub has_no_end-requires-clause-lone : goal.has_no_end-requires-clause-lone
has_no_end-requires-clause-lone c = λ h. rw c.after.ensures (c.requires.lone h)

pub returns-clause-pair : goal.returns-clause-pair
returns-clause-pair c = λ _.
    let len : c.character_len.result ≡ character_len (drop 1 c.args.text.now) = rw c.after-2.ensures at c.character_len.ensures.value in
    let none = rw c.after.ensures at (c.has_no_end.ensures c.args.copy c.if-not-has_no_end.false) in
    rw len (escape_pair c.args.copy c.args.text.now c.requires.escape (sym c.is_doubled.ensures ∙ c.if-is_doubled.false) c.if-text-lt2.false none)
