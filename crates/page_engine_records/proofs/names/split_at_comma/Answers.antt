use Rattle.std.proofs.Common.{◌+◌}
use Rattle.std.proofs.lemmas.List.{take_rest}
use Rattle.page_engine_index.proofs.MatchLemmas.{split_none, split_some}
use Rattle.page_engine_records.proofs.names.split_at_comma.Goals as goal

pub returns-in_err-end-clause-split : goal.returns-in_err-end-clause-split
returns-in_err-end-clause-split c = rw c.from_residual.ensures (split_none 44 c.args.text.now c.in_err-end.ensures)

pub returns-clause-split : goal.returns-clause-split
returns-clause-split c =
    let text = c.args.text.now in
    rw (take_rest text (c.in_ok-end.end + 1)) (split_some 44 text c.in_ok-end.end c.in_ok-end.ensures)
