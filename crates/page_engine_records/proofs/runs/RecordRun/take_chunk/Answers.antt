use Rattle.std.proofs.Common.{◌≤◌, ◌+◌, refl, [], ◌++◌, ap, take, length, length-append, arith}
use Rattle.std.proofs.lemmas.Bool.Decides.{nat_tests}
use Rattle.std.proofs.lemmas.List.{take_rest}
use Rattle.page_engine_records.proofs.RunLemmas.{all_done, is_here, part_of, room_less, through_more, through_none}
use Rattle.page_engine_records.proofs.runs.RecordRun.take_chunk.Goals as goal

pub loop-rest-init : goal.loop-rest-init
loop-rest-init c = ([], refl, through_none _)

pub take_part-count-requires : goal.take_part-count-requires
take_part-count-requires c =
    let i = c.loop-rest.invariant in
    let rest = c.loop-rest.rest.now in record {
      some = grind (arith, nat_tests);
      room = i.2.room (length rest) (room_less c.args.self.now (length c.args.chunk.now) (length i.0 + length rest) c.requires.room
          (omega (arith, ap length i.1, length-append i.0 rest)));
      idle = (i.2.at _ (is_here c.args.self.now c.requires.idle)).idle;
    }

pub loop-rest-preserved : goal.loop-rest-preserved
loop-rest-preserved c =
    let i = c.loop-rest.invariant in
    let count = c.take_part-count.result in
    let rest = c.loop-rest.rest.now in
    rw (take_rest rest count) (
      i.0 ++ take count rest,
      part_of c.args.chunk.now i.0 rest count i.1,
      through_more i.0 (take count rest) i.2 c.take_part-count.ensures.through,
    )

pub returns : goal.returns
returns c =
    let i = c.loop-rest.invariant in
    let none : length c.loop-rest.rest.now ≤ 0 = grind (arith, nat_tests) in
    rw (all_done c.args.chunk.now i.0 c.loop-rest.rest.now i.1 none) i.2
