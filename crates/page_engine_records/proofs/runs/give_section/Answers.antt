use Rattle.std.proofs.Common.{false, rules}
use Rattle.page_core_base.proofs.LatchLemmas.{latched}
use Rattle.page_core_base.specs.declared.page_settings.Output.TheVariants.{Ascii}
use Rattle.page_core_escapes.specs.Tokens.{tokens_of}
use Rattle.page_engine_header.specs.Header.{tokens_items}
use Rattle.page_scopes_words.specs.Fonts.{roman_fonts}
use Rattle.page_scopes_words.specs.Words.{at}
use Rattle.page_engine_records.proofs.runs.give_section.Goals as goal

pub returns : goal.returns
returns g c =
    let items = tokens_items Ascii (at 1 1) roman_fonts (tokens_of false c.args.section.now) in
    let k = latched g.met.O.PieceSink.items items c.done.result c.new-latch.ensures.fault c.give.ensures c.done.ensures in
    search (rules, k.2)
