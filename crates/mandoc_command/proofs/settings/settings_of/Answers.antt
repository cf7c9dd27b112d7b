use Rattle.std.proofs.Common.{rules, ◌∙◌, ◌≡◌, Some, []}
use Rattle.page_core_base.specs.declared.page_settings.Output.TheVariants as output
use Rattle.page_core_base.specs.declared.page_settings.Encoding.TheVariants as encoding
use Rattle.page_core_base.specs.declared.page_settings.Language.TheVariants as language
use Rattle.mandoc_command.specs.Names.{output_named, encoding_named, language_named}
use Rattle.mandoc_command.specs.Measures.{no_measures, measures_of}
use Rattle.mandoc_command.specs.Asked.{asked_of, chosen, least_of, system_of, text_in, values_of, with_os}
use Rattle.mandoc_command.proofs.LineLemmas.{all_but_os, asked-chosen}
use Rattle.mandoc_command.proofs.settings.settings_of.Goals as goal

pub returns-clause-value : goal.returns-clause-value
returns-clause-value c =
    let given = c.args.given in
    let is_output : chosen output.Ascii output_named (text_in given.output) ≡ Some c.in_ok-output.output = search rules in
    let is_least : least_of (text_in given.level) c.in_ok-output.output ≡ Some c.in_ok-least.least = search rules in
    let is_measures : chosen no_measures measures_of (text_in given.measures) ≡ Some c.in_ok-measures.measures = search rules in
    let is_encoding : chosen encoding.Auto encoding_named (text_in given.encoding) ≡ Some c.in_ok-encoding.encoding = search rules in
    let is_language : chosen language.Auto language_named (text_in given.language) ≡ Some c.in_ok-language.language = search rules in
    let front = all_but_os c.in_ok-output.output c.in_ok-least.least c.in_ok-measures.measures c.in_ok-encoding.encoding c.in_ok-language.language in
    let named : Some (asked_of c.in_ok-with_system.field-0) ≡ with_os front (chosen [] system_of (text_in given.system)) = search rules in
    c.checked.ensures.value ∙ asked-chosen (values_of given) c.in_ok-output.output c.in_ok-least.least c.in_ok-measures.measures c.in_ok-encoding.encoding
    c.in_ok-language.language (asked_of c.in_ok-with_system.field-0) is_output is_least is_measures is_encoding is_language named
