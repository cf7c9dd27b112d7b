use Rattle.std.proofs.Common.{◌∙◌}
use Rattle.page_scopes_phrases.proofs.kept_names.ManualName.of.Goals as goal

pub returns : goal.returns
returns c = c.read.ensures ∙ c.of.ensures
