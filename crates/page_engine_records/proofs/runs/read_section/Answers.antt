use Rattle.std.proofs.Common.{◌≡◌, false, ap, ◌∙◌}
use Rattle.page_core_base.specs.declared.page_settings.Output.TheVariants.{Ascii}
use Rattle.page_core_escapes.specs.Tokens.{tokens_of}
use Rattle.page_engine_header.specs.Header.{tokens_items}
use Rattle.page_scopes_words.specs.Fonts.{roman_fonts}
use Rattle.page_scopes_words.specs.Words.{at}
use Rattle.page_engine_records.specs.machine.NameTexts.{read}
use Rattle.page_engine_records.specs.declared.name_readers.NameReader.{NameReader}
use Rattle.page_engine_records.proofs.NameTextLemmas.{text_is_kept, tokens_signs, came}
use Rattle.page_engine_records.proofs.runs.read_section.Goals as goal

pub returns : goal.returns
returns c =
    let items = tokens_items Ascii (at 1 1) roman_fonts (tokens_of false c.args.section.now) in
    let new : c.give_section.new.out ≡ read c.args.reader.now items =
    came c.give_section.result c.args.reader.now c.give_section.new.out items c.give_section.ensures in
    let signs = tokens_signs (at 1 1) roman_fonts (tokens_of false c.args.section.now) in
    ap (λ (r : NameReader). r.text) (new ∙ ap (λ (r : NameReader). read r items) c.requires.start) ∙ text_is_kept items signs.0 signs.1
