use Rattle.std.proofs.Common.{◌≡◌, ◌++◌, ◌+◌, ◌∷◌, [], replicate, take, set, refl, sym, ap, ◌∙◌, append_assoc, arith, rules}
use Rattle.std.specs.List.{flat_map}
use Rattle.std.proofs.lemmas.List.{take_more_set}
use Rattle.page_core_streams.specs.Streams.{cell_bytes_of, printed}
use Rattle.page_core_streams.proofs.AsciiLemmas.{GrowsUpTo-start, GrowsUpTo-flow, GrowsUpTo-broken, GrowsUpTo-last, cells_moved, printed_parts}
use Rattle.page_core_streams.proofs.text_rows.put_row.Goals as goal

pub returns-in_default-clause-writes : goal.returns-in_default-clause-writes
returns-in_default-clause-writes g c =
    let cells = c.args.cells.now in
    let e = printed_parts c.args.margin cells (sym c.is_empty.ensures ∙ c.if-is_empty.false) in
    GrowsUpTo-broken _ (replicate c.args.margin 32) (flat_map cell_bytes_of cells ++ 10 ∷ []) (GrowsUpTo-start _ (printed c.args.margin cells)) e c.in_default.ensures.writes

pub loop-rest-init : goal.loop-rest-init
loop-rest-init g c =
    let cells = c.args.cells.now in
    let e = printed_parts c.args.margin cells (sym c.is_empty.ensures ∙ c.if-is_empty.false) in
    let w = c.in-Some.ensures.writes in (
      omega (arith, w.0),
      GrowsUpTo-flow _ (replicate c.args.margin 32) (take c.in-Some.end c.put_margin.new.bytes) (flat_map cell_bytes_of cells ++ 10 ∷ [])
          (GrowsUpTo-start _ (printed c.args.margin cells)) e w.1,
      c.in-Some.ensures.fails,
    )

pub returns-in_default-room_after-clause-writes : goal.returns-in_default-room_after-clause-writes
returns-in_default-room_after-clause-writes g c =
    let l = c.loop-rest in
    GrowsUpTo-broken _ (take l.end l.bytes) (flat_map cell_bytes_of l.rest.now ++ 10 ∷ []) l.invariant.1 refl c.in_default-room_after.ensures.writes

pub loop-rest-preserved : goal.loop-rest-preserved
loop-rest-preserved g c =
    let l = c.loop-rest in
    let room = c.in-Some-room_after.room in
    let rest = flat_map cell_bytes_of l.rest.now ++ 10 ∷ [] in
    let f = GrowsUpTo-flow _ (take l.end l.bytes) (take room l.bytes) rest l.invariant.1 refl c.in-Some-room_after.ensures.writes.1 in
    let e = cells_moved (take room l.bytes) l.rest.now 8 in (
      search rules,
      rw (c.split_at.ensures.back, c.write_mixed-end.ensures.front, c.split_at.ensures.front) (rw e at f),
      c.in-Some-room_after.ensures.fails ∙ l.invariant.2,
    )

pub returns-clause-writes : goal.returns-clause-writes
returns-clause-writes g c =
    let l = c.loop-rest in
    let before = take l.end l.bytes in
    let rest = flat_map cell_bytes_of l.rest.now in
    let bytes = c.write_group-end.new.bytes in
    let end = c.write_group-end.result in
    let line : take (end + 1) (set bytes end 10) ≡ take end bytes ++ 10 ∷ [] = take_more_set bytes end 10 (omega arith) in
    let all = sym (line ∙ (ap (λ front. front ++ 10 ∷ []) c.write_group-end.ensures.front ∙ append_assoc before rest (10 ∷ []))) in
    GrowsUpTo-last _ (take (end + 1) (set bytes end 10)) _ l.invariant.1 all c.put-2.ensures.writes
