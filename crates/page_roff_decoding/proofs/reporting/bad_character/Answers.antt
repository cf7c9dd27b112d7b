use Rattle.std.proofs.Common.{List, ℕ, ap, ◌∙◌, arith}
use Rattle.page_core_base.specs.declared.note_kinds.NoteKind.TheVariants.{BadChar}
use Rattle.page_roff_decoding.proofs.SequenceLemmas.{hex_detail}
use Rattle.page_roff_decoding.proofs.reporting.bad_character.Goals as goal

pub returns : goal.returns
returns c =
    let about = rw (c.hex_digit.ensures, c.hex_digit-2.ensures) at c.about.ensures in
    about ∙ ap (λ (detail : List ℕ). record { kind = BadChar; line = c.args.number; column = c.args.column; detail = detail })
    (hex_detail c.args.byte (omega arith))
