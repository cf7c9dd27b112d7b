use Rattle.std.proofs.Common.{drop, refl}
use Rattle.std.proofs.lemmas.List.{take_rest}
use Rattle.page_roff_syntax.proofs.ClosedLemmas.{uncommented_control}
use Rattle.page_roff_syntax.proofs.line_forms.control_line.Goals as goal

pub returns-clause-value : goal.returns-clause-value
returns-clause-value c =
    let bytes = c.args.bytes.now in
    let s = c.white_len-white.result in
    let named = take_rest bytes s in
    let n = rw named at c.name_len-len.ensures.value in
    let r = rw named at c.without_comment.ensures.value in
    let t = take_rest (drop s bytes) c.name_len-len.result in
    rw (uncommented_control bytes, r, named, t, n, c.white_len-white.ensures.value) refl
