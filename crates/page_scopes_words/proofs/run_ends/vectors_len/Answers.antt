use Rattle.std.proofs.Common.{◌≡◌, ◌+◌, arith}
use Rattle.page_scopes_words.proofs.RunEndLemmas.{goes_join, goes_none}
use Rattle.page_scopes_words.proofs.run_ends.vectors_len.Goals as goal

pub loop-at-init : goal.loop-at-init
loop-at-init c = (goes_none c.args.quoted c.args.text.now 0, omega arith)

pub returns-then-len-lt-LANES-clause-goes : goal.returns-then-len-lt-LANES-clause-goes
returns-then-len-lt-LANES-clause-goes c =
    let l = c.loop-at in
    goes_join c.args.quoted c.args.text.now 0 l.at l.at (l.at + c.vector_len-len.result) l.invariant.0 (omega arith) c.vector_len-len.ensures.goes

pub loop-at-preserved : goal.loop-at-preserved
loop-at-preserved c =
    let l = c.loop-at in
    let n = c.vector_len-len.result in
    let all : n ≡ 16 = omega arith in
    (rw all at (goes_join c.args.quoted c.args.text.now 0 l.at l.at (l.at + n) l.invariant.0 (omega arith) c.vector_len-len.ensures.goes), omega arith)

pub returns-clause-goes : goal.returns-clause-goes
returns-clause-goes c =
    let l = c.loop-at in
    goes_join c.args.quoted c.args.text.now 0 l.at _ _ l.invariant.0 (omega arith) c.vector_len.ensures.goes
