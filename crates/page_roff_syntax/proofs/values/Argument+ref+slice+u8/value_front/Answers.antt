use Rattle.std.proofs.Common.{◌≡◌, true, sym, ap, ◌∙◌}
use Rattle.page_core_base.specs.Messages.{text_front}
use Rattle.page_roff_syntax.specs.Arguments.{is_quoted}
use Rattle.page_core_base.specs.Texts.{unpaired}
use Rattle.page_core_base.proofs.LatchLemmas.{front_again}
use Rattle.page_roff_syntax.proofs.values.Argument+ref+slice+u8.value_front.Goals as goal

pub returns-then-is_quoted : goal.returns-then-is_quoted
returns-then-is_quoted c =
    let quoted : is_quoted c.args.self.now.quoting ≡ true = sym c.is_quoted.ensures ∙ c.if-is_quoted.true in
    let front = c.as_slice.ensures.value ∙ c.unpaired_front-front.ensures in
    rw quoted (c.copied_front.ensures ∙ ap (text_front c.args.room) front ∙ front_again c.args.room 256 (unpaired c.args.self.now.text.now) c.requires)
