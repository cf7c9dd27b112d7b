use Rattle.std.proofs.Common.{arith}
use Rattle.page_scopes_text.proofs.KeptTextLemmas.{reads_more}
use Rattle.page_scopes_text.proofs.kept_texts.read_kept.Goals as goal

pub loop-style-preserved : goal.loop-style-preserved
loop-style-preserved c =
    let l = c.loop-style in
    let i = l.invariant in
    let step = c.in-Some.ensures in
    record {
      less = omega (arith, step.less, i.less);
      ends = step.ends;
      reads = reads_more c.args.style c.args.text.now l.rest.now c.in-Some.after.now i.reads step.reads;
    }
