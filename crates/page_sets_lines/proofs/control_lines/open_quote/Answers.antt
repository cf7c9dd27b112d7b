use Rattle.std.proofs.Common.{sym}
use Rattle.page_sets_lines.proofs.ArgumentLaws.{rest_open}
use Rattle.page_sets_lines.proofs.control_lines.open_quote.Goals as goal

pub returns-else-has_quote : goal.returns-else-has_quote
returns-else-has_quote c = sym (rest_open c.args.start c.args.printed c.args.text.now (sym c.if-has_quote.ensures))
