use Rattle.std.proofs.Common.{sym, ap, ◌∙◌}
use Rattle.std.proofs.lemmas.Str.{IsUtf8-past_char}
use Rattle.page_core_base.specs.declared.page_settings.Output.TheVariants.{Ascii}
use Rattle.page_engine_header.proofs.PrintingLemmas.{plain-more, plain-done}
use Rattle.page_engine_records.specs.machine.NameTexts.{with_characters}
use Rattle.page_engine_records.proofs.NameTextLemmas.{characters-append, characters_none}
use Rattle.page_engine_records.proofs.name_readers.NameReader.take_text.Goals as goal

pub loop-c-preserved : goal.loop-c-preserved
loop-c-preserved c =
    let l = c.loop-c in
    let parts = c.in-Some.ensures.steps.0 in
    let more = plain-more Ascii _ _ c.in-Some.c l.invariant.1 parts in (
      rw (c.take_printed.ensures, c.printed_char.ensures.value) (sym (characters-append l.self _ _) ∙ (ap (with_characters l.self) (sym more) ∙ l.invariant.0)),
      IsUtf8-past_char _ _ c.in-Some.c l.invariant.1 parts,
    )

pub returns : goal.returns
returns c =
    let l = c.loop-c in
    sym (characters_none _) ∙ (ap (with_characters l.self) (sym (plain-done Ascii _ c.in-None.ensures.steps.0.0)) ∙ l.invariant.0)
