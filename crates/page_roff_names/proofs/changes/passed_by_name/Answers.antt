use Rattle.std.proofs.Common.{◌∙◌, ap, arith, length}
use Rattle.std.proofs.lemmas.List.Edits.{length-remove}
use Rattle.page_roff_names.proofs.Laid.{size-remove}
use Rattle.page_roff_names.proofs.Kept.{same_limits}
use Rattle.page_roff_names.proofs.changes.passed_by_name.Goals as goal

pub overflow_sub-bytes : goal.overflow_sub-bytes
overflow_sub-bytes c =
    let r = size-remove c.args.row.now c.args.i c.requires.place in
    let a = ap length c.name.ensures in
    let b = ap length c.value-value.ensures in
    omega (arith, r, a, b, c.bytes.ensures)

pub returns : goal.returns
returns c =
    let r = size-remove c.args.row.now c.args.i c.requires.place in
    let l = length-remove c.args.row.now c.args.i c.requires.place in
    let a = ap length c.name.ensures in
    let b = ap length c.value-value.ensures in
    c.first_passed.ensures ∙ same_limits (length c.args.name.now) (omega (arith, l, c.len.ensures)) b (omega (arith, r, a, b, c.bytes.ensures))
