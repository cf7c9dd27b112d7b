use Rattle.std.proofs.Common.{◌∙◌, ap, sym, arith}
use Rattle.std.specs.List.{remove}
use Rattle.page_roff_names.specs.Names.{size, definition}
use Rattle.page_roff_names.proofs.Laid.{put_hit, put_miss, size-insert}
use Rattle.page_roff_names.proofs.Kept.{miss_length, miss_size}
use Rattle.page_roff_names.proofs.changes.put_definition.Goals as goal

pub set-requires-clause-bytes : goal.set-requires-clause-bytes
set-requires-clause-bytes c =
    let d = definition c.args.meaning c.args.value.now in
    let h = ap size (put_hit c.args.name.now d c.args.row.now c.in-Ok.i c.requires.sorted c.in-Ok.ensures.range c.in-Ok.ensures.found) in
    let s = size-insert (remove c.args.row.now c.in-Ok.i) c.in-Ok.i (c.args.name.now, d) in
    omega (arith, h, s, c.requires.small)

pub returns-in-Ok : goal.returns-in-Ok
returns-in-Ok c = c.set.ensures ∙ sym (put_hit _ _ _ c.in-Ok.i c.requires.sorted c.in-Ok.ensures.range c.in-Ok.ensures.found)

pub insert-requires-clause-names : goal.insert-requires-clause-names
insert-requires-clause-names c = let h = miss_length c.args.name.now (definition c.args.meaning c.args.value.now) c.args.row.now c.in-Err.i c.in-Err.ensures.range c.in-Err.ensures.found.0 c.in-Err.ensures.found.1 in omega (arith, h, c.requires.few)

pub insert-requires-clause-bytes : goal.insert-requires-clause-bytes
insert-requires-clause-bytes c = let h = miss_size c.args.name.now (definition c.args.meaning c.args.value.now) c.args.row.now c.in-Err.i c.in-Err.ensures.range c.in-Err.ensures.found.0 c.in-Err.ensures.found.1 in omega (arith, h, c.requires.small)

pub returns-in-Err : goal.returns-in-Err
returns-in-Err c = c.insert.ensures ∙ sym (put_miss _ _ _ c.in-Err.i c.in-Err.ensures.range c.in-Err.ensures.found.0 c.in-Err.ensures.found.1)
