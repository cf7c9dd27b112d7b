use Rattle.std.proofs.Common.{List, ℕ, ap, ◌∙◌}
use Rattle.page_core_base.specs.declared.note_kinds.NoteKind.TheVariants.{Limit}
use Rattle.page_core_base.specs.Messages.{text_front}
use Rattle.page_roff_decoding.proofs.SequenceLemmas.{limit_detail}
use Rattle.page_roff_decoding.proofs.reporting.limit_note.Goals as goal

pub returns : goal.returns
returns c =
    c.about.ensures ∙ ap (λ (detail : List ℕ). record { kind = Limit; line = c.args.number; column = 1; detail = detail })
    (ap (λ text. text_front 64 text) (c.as_bytes.ensures.value ∙ c.name.ensures) ∙ limit_detail)
