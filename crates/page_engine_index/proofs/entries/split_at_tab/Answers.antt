use Rattle.std.proofs.Common.{◌+◌}
use Rattle.std.proofs.lemmas.List.{take_rest}
use Rattle.page_engine_index.proofs.MatchLemmas.{split_none, split_some}
use Rattle.page_engine_index.proofs.entries.split_at_tab.Goals as goal

pub returns-in_err-end : goal.returns-in_err-end
returns-in_err-end c = rw c.from_residual.ensures (split_none 9 c.args.text.now c.in_err-end.ensures)

pub returns : goal.returns
returns c =
    let text = c.args.text.now in
    rw (take_rest text (c.in_ok-end.end + 1)) (split_some 9 text c.in_ok-end.end c.in_ok-end.ensures)
