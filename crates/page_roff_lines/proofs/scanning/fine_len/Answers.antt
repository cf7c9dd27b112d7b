use Rattle.std.proofs.Common.{arith}
use Rattle.page_roff_lines.proofs.LineAgreement.{front-free, text-front, text-front-free, fine-text}
use Rattle.page_roff_lines.proofs.scanning.fine_len.Goals as goal

pub returns-then-not-begins_pair-clause-text : goal.returns-then-not-begins_pair-clause-text
returns-then-not-begins_pair-clause-text c = fine-text c.args.chunk.now c.text_len-len.result (omega (arith, c.text_len-len.ensures.value))

pub returns-then-not-begins_pair-clause-free : goal.returns-then-not-begins_pair-clause-free
returns-then-not-begins_pair-clause-free c = λ _. text-front-free c.args.chunk.now c.text_len-len.result (omega (arith, c.text_len-len.ensures.value))

pub fine_from-requires-clause-text : goal.fine_from-requires-clause-text
fine_from-requires-clause-text c = fine-text c.args.chunk.now c.text_len-len.result (omega (arith, c.text_len-len.ensures.value))

pub fine_from-requires-clause-free : goal.fine_from-requires-clause-free
fine_from-requires-clause-free c = text-front c.args.chunk.now c.text_len-len.result (omega (arith, c.text_len-len.ensures.value))

pub returns-clause-free : goal.returns-clause-free
returns-clause-free c = λ is. front-free c.args.chunk.now c.fine_from.result.0 c.fine_from.ensures.within (c.fine_from.ensures.free is)
