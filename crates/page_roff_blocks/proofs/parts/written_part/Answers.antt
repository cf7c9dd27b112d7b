use Rattle.std.proofs.Common.{◌∙◌, ap, sym}
use Rattle.page_roff_syntax.specs.LineForms.{form_of}
use Rattle.page_roff_syntax.specs.laws.Views.{name_view}
use Rattle.page_roff_blocks.specs.laws.Views.{named_part}
use Rattle.page_roff_blocks.proofs.LinePartLemmas.{part_named, plain_nameless}
use Rattle.page_roff_blocks.proofs.parts.written_part.Goals as goal

pub columns_of-requires-clause-named : goal.columns_of-requires-clause-named
columns_of-requires-clause-named c = sym c.control_name.ensures ∙ ap name_view c.in-Some.is

pub returns-in-Some-clause-value : goal.returns-in-Some-clause-value
returns-in-Some-clause-value c =
    let line = c.args.line.now in
    c.keyword_part.ensures.value
    ∙ ap (λ word. named_part word line (form_of line)) c.keyword_of.ensures
    ∙ sym (part_named line c.in-Some.name.now (sym c.control_name.ensures ∙ ap name_view c.in-Some.is))

pub returns-in-None-clause-value : goal.returns-in-None-clause-value
returns-in-None-clause-value c =
    c.plain_part.ensures.value ∙ sym (plain_nameless c.args.line.now (sym c.control_name.ensures ∙ ap name_view c.in-None.is))
