use Rattle.std.proofs.Common.{◌∙◌, ap, sym}
use Rattle.page_roff_syntax.specs.laws.Views.{name_view}
use Rattle.page_roff_blocks.proofs.LinePartLemmas.{plain_named, plain_nameless}
use Rattle.page_roff_blocks.proofs.parts.heads_nothing.Goals as goal

pub returns-in-Other : goal.returns-in-Other
returns-in-Other c = λ t.
    plain_named c.args.line.now c.in-Some.name.now (sym c.control_name.ensures ∙ ap name_view c.in-Some.is) (sym c.keyword_of.ensures ∙ c.in-Other.is)

pub returns-in-None : goal.returns-in-None
returns-in-None c = λ t. plain_nameless c.args.line.now (sym c.control_name.ensures ∙ ap name_view c.in-None.is)
