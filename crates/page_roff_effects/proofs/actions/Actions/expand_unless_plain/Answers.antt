use Rattle.std.proofs.Common.{◌≡◌, length, refl, sym, arith}
use Rattle.std.specs.List.{prefix_len}
use Rattle.page_roff_syntax.specs.laws.Views.{is_plain}
use Rattle.page_roff_effects.proofs.FreeLemmas.{plain_laid, counted_none}
use Rattle.page_roff_effects.proofs.actions.Actions.expand_unless_plain.Goals as goal

pub returns-then-plain_len-text : goal.returns-then-plain_len-text
returns-then-plain_len-text g c =
    let text = c.args.text.now in
    let old = c.args.self.now in
    let plain : prefix_len is_plain text ≡ length text = omega (arith, c.plain_len.ensures.value, c.if-plain_len-text.true) in
    let laid = plain_laid c.args.copy text old plain c.requires in
    record {
      setting = refl;
      memory = rw laid (sym (counted_none old.memory));
      given = rw laid refl;
      came = rw laid (λ plan more h. h);
    }
