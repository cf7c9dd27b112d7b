use Rattle.std.proofs.Common.{◌∙◌, sym, ap, arith, length}
use Rattle.page_roff_names.proofs.Laid.{size-remove}
use Rattle.page_roff_names.proofs.Kept.{hit_length, hit_size, miss_length, miss_size, same_limits}
use Rattle.page_roff_names.proofs.changes.passed.Goals as goal

pub overflow_sub-bytes : goal.overflow_sub-bytes
overflow_sub-bytes c =
    let r = size-remove c.args.row.now c.in-Ok.i c.in-Ok.ensures.range in
    let a = ap length c.name.ensures in
    let b = ap length c.value.ensures in
    omega (arith, r, a, b, c.bytes.ensures)

pub returns-in-Ok : goal.returns-in-Ok
returns-in-Ok c = λ d e.
    let es = c.args.row.now in
    let i = c.in-Ok.i in
    let l = hit_length c.args.name.now d es i c.requires.sorted c.in-Ok.ensures.range c.in-Ok.ensures.found in
    let s = hit_size c.args.name.now d es i c.requires.sorted c.in-Ok.ensures.range c.in-Ok.ensures.found in
    let r = size-remove es i c.in-Ok.ensures.range in
    let a = ap length c.name.ensures in
    let b = ap length c.value.ensures in
    c.first_passed.ensures ∙ same_limits (length c.args.name.now) (omega (arith, l, c.len.ensures)) (sym e) (omega (arith, e, s, r, a, b, c.bytes.ensures))

pub returns-in-Err : goal.returns-in-Err
returns-in-Err c = λ d e.
    let es = c.args.row.now in
    let i = c.in-Err.field-0 in
    let l = miss_length c.args.name.now d es i c.in-Err.ensures.range c.in-Err.ensures.found.0 c.in-Err.ensures.found.1 in
    let s = miss_size c.args.name.now d es i c.in-Err.ensures.range c.in-Err.ensures.found.0 c.in-Err.ensures.found.1 in
    c.first_passed-in-Err.ensures ∙ same_limits (length c.args.name.now) (omega (arith, l, c.len-in-Err.ensures)) (sym e) (omega (arith, e, s, c.bytes-in-Err.ensures))
