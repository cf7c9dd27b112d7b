use Rattle.std.specs.Fmt.{decimal, signed_decimal}
use Rattle.std.proofs.Common.{◌-◌, ◌∷◌, length, codes, arith, ap, ◌∙◌, sym, rules, refl, w32}
use Rattle.std.proofs.lemmas.Int.{to_z-of_z}
use Rattle.page_core_base.specs.declared.note_kinds.NoteKind.TheVariants.{Loop}
use Rattle.page_roff_values.specs.machine.Rest.{surroundings_of, calling, rest, room_in, steps, texts_of}
use Rattle.page_roff_values.specs.Values.{TextSoFar, nothing, seq, says, ends, counts, put, call_at, value, width}
use Rattle.page_roff_parts.specs.machine.Verbatim.{call_of}
use Rattle.page_roff_values.proofs.LineLemmas.{call_ends, call_deep, gives, enters, string_some, string_none, argument_some, argument_none, register_some, width_some, steps_counts, steps_later, steps_less, size_value, put_follows, put_count, width_follows, value_follows}
use Rattle.page_roff_values.proofs.ArgumentLemmas.{goes_on, goes_then, goes_same, going, gone, seq_ended, seq_more, seq_nothing}
use Rattle.page_roff_values.proofs.TextLemmas.{outer_of, width_read}
use Rattle.page_roff_values.proofs.expansions.Nested.+texts.Goals as goal

-- ---- an interpolation

pub call-returns-then-not-charge-clause-goes : goal.call-returns-then-not-charge-clause-goes
call-returns-then-not-charge-clause-goes g x c =
    let env = surroundings_of c.args.env.now in
    let s = c.args.self.now.spot in
    let ts = texts_of c.args.sources.now in
    let after = rest env c.args.room ts in
    goes_on g.O.NoteOut.left _ _ (calling env c.args.room (call_of c.args.call) ts s) (ends Loop (codes "EXPAND") s) c.report_end.new.self.spot after
    (call_ends env (room_in c.args.room ts) (call_of c.args.call) s after (sym c.if-not-charge.ensures.fits)) (rw (c.if-not-charge.ensures.counted, c.as_bytes.ensures.value, c.name.ensures) at c.report_end.ensures.goes)

pub call-returns-then-not-charge-clause-falls : goal.call-returns-then-not-charge-clause-falls
unfolding steps
call-returns-then-not-charge-clause-falls g x c = rw (c.report_end.ensures.goes.1, c.if-not-charge.ensures.counted) (omega arith)

pub call-returns-then-room-depth-clause-goes : goal.call-returns-then-room-depth-clause-goes
call-returns-then-room-depth-clause-goes g x c =
    let env = surroundings_of c.args.env.now in
    let s = c.args.self.now.spot in
    let ts = texts_of c.args.sources.now in
    let after = rest env c.args.room ts in
    rw c.if-not-charge.ensures.counted (goes_on g.O.NoteOut.left _ _ (calling env c.args.room (call_of c.args.call) ts s) (says Loop (codes "NEST") (counts s)) (counts s) after
    (call_deep env c.args.room c.args.sources.now.inner (outer_of c.args.sources.now.outer.items) (call_of c.args.call) s after (sym c.if-not-charge.ensures.fits) (omega (arith, c.depth.ensures.value))) (rw (c.if-not-charge.ensures.counted, c.as_bytes-then-room-depth.ensures.value, c.name-then-room-depth.ensures) at c.report.ensures))

pub call-returns-then-room-depth-clause-falls : goal.call-returns-then-room-depth-clause-falls
call-returns-then-room-depth-clause-falls g x c =
    let ts = texts_of c.args.sources.now in
    rw c.if-not-charge.ensures.counted (steps_counts c.args.self.now.spot ts ts (sym c.if-not-charge.ensures.fits) (omega arith))

pub call-returns-in-Register-clause-goes : goal.call-returns-in-Register-clause-goes
call-returns-in-Register-clause-goes g x c =
    let s = c.args.self.now.spot in
    let ts = outer_of c.args.sources.now.outer.items in
    let d = c.args.room - length ts - 1 in
    gives g.O.NoteOut.left _ _ _ c.args.room d _ ts _ s _ _ (sym c.if-not-charge.ensures.fits) (omega (arith, c.depth.ensures.value))
    (register_some _ (value _ d) _ c.in-Register.name.now c.register.result (counts s) (ap call_of c.in-Register.is) c.register.ensures) (rw (c.if-not-charge.ensures.counted, to_z-of_z w32 c.register.result (search rules)) at c.put_number.ensures.goes)

pub call-returns-in-Register-clause-falls : goal.call-returns-in-Register-clause-falls
call-returns-in-Register-clause-falls g x c =
    let f = (put_follows (signed_decimal c.register.result) (counts c.args.self.now.spot)).count in
    steps_later c.args.self.now.spot c.put_number.new.self.spot (texts_of c.args.sources.now) (rw (rw (c.if-not-charge.ensures.counted, to_z-of_z w32 c.register.result (search rules)) at c.put_number.ensures.goes.1) (omega (arith, f)))

pub call-returns-in-Width-clause-goes : goal.call-returns-in-Width-clause-goes
call-returns-in-Width-clause-goes g x c =
    let s = c.args.self.now.spot in
    let d = c.args.room - c.depth-in-Width.result - 1 in
    gives g.O.NoteOut.left _ _ _ c.args.room d _ (outer_of c.args.sources.now.outer.items) _ s _ _ (sym c.if-not-charge.ensures.fits) (omega (arith, c.depth.ensures.value, c.depth-in-Width.ensures.value))
    (width_some _ (value _ d) _ c.in-Width.text.now (counts s) (ap call_of c.in-Width.is)) (rw c.if-not-charge.ensures.counted at c.put_width.ensures.goes)

pub call-returns-in-Width-clause-falls : goal.call-returns-in-Width-clause-falls
call-returns-in-Width-clause-falls g x c =
    let env = surroundings_of c.args.env.now in
    let d = c.args.room - c.depth-in-Width.result - 1 in
    let f = (width_follows env.units (value env d c.in-Width.text.now) (counts c.args.self.now.spot) (value_follows env d c.in-Width.text.now)).count in
    steps_later c.args.self.now.spot c.put_width.new.self.spot (texts_of c.args.sources.now) (rw (rw c.if-not-charge.ensures.counted at c.put_width.ensures.goes.1) (omega (arith, f)))

pub call-returns-in-Some-clause-goes : goal.call-returns-in-Some-clause-goes
call-returns-in-Some-clause-goes g x c =
    let s = c.args.self.now.spot in
    let ts = outer_of c.args.sources.now.outer.items in
    let d = c.args.room - length ts - 1 in
    let w = c.without_lone.result.now in
    rw (c.if-not-charge.ensures.counted, c.enter.ensures.texts) (enters g.O.NoteOut.left _ _ c.args.room d _ ts _ w s c.requires.going (sym c.if-not-charge.ensures.fits) (omega (arith, c.depth.ensures.value))
    (string_some _ (value _ d) _ c.in-String.name.now c.in-Some.value.now w (counts s) (ap call_of c.in-String.is) c.in-Some.ensures c.without_lone.ensures.value))

pub call-returns-in-Some-clause-falls : goal.call-returns-in-Some-clause-falls
call-returns-in-Some-clause-falls g x c =
    let ts = texts_of c.args.sources.now in
    let w = c.without_lone.result.now in
    rw (c.if-not-charge.ensures.counted, c.enter.ensures.texts) (steps_counts c.args.self.now.spot ts (w ∷ ts) (sym c.if-not-charge.ensures.fits) (size_value w ts c.enter.ensures.fits))

pub call-returns-in-None-clause-goes : goal.call-returns-in-None-clause-goes
call-returns-in-None-clause-goes g x c =
    let s = c.args.self.now.spot in
    let ts = outer_of c.args.sources.now.outer.items in
    let d = c.args.room - length ts - 1 in
    rw c.if-not-charge.ensures.counted (gives g.O.NoteOut.left _ _ _ c.args.room d _ ts _ s (counts s) _ (sym c.if-not-charge.ensures.fits) (omega (arith, c.depth.ensures.value))
    (string_none _ (value _ d) _ c.in-String.name.now (counts s) (ap call_of c.in-String.is) c.in-None.ensures) (rw c.if-not-charge.ensures.counted at c.report-in-None.ensures))

pub call-returns-in-None-clause-falls : goal.call-returns-in-None-clause-falls
call-returns-in-None-clause-falls g x c =
    let ts = texts_of c.args.sources.now in
    rw c.if-not-charge.ensures.counted (steps_counts c.args.self.now.spot ts ts (sym c.if-not-charge.ensures.fits) (omega arith))

pub call-returns-in-Some-argument-clause-goes : goal.call-returns-in-Some-argument-clause-goes
call-returns-in-Some-argument-clause-goes g x c =
    let s = c.args.self.now.spot in
    let ts = outer_of c.args.sources.now.outer.items in
    let d = c.args.room - length ts - 1 in
    let w = c.without_lone-in-Some-argument.result.now in
    rw (c.if-not-charge.ensures.counted, c.enter-in-Some-argument.ensures.texts) (enters g.O.NoteOut.left _ _ c.args.room d _ ts _ w s c.requires.going (sym c.if-not-charge.ensures.fits) (omega (arith, c.depth.ensures.value))
    (argument_some _ (value _ d) _ c.in-Argument.escape.now c.in-Some-argument.value.now w (counts s) (ap call_of c.in-Argument.is) c.in-Some-argument.ensures c.without_lone-in-Some-argument.ensures.value))

pub call-returns-in-Some-argument-clause-falls : goal.call-returns-in-Some-argument-clause-falls
call-returns-in-Some-argument-clause-falls g x c =
    let ts = texts_of c.args.sources.now in
    let w = c.without_lone-in-Some-argument.result.now in
    rw (c.if-not-charge.ensures.counted, c.enter-in-Some-argument.ensures.texts) (steps_counts c.args.self.now.spot ts (w ∷ ts) (sym c.if-not-charge.ensures.fits) (size_value w ts c.enter-in-Some-argument.ensures.fits))

pub call-returns-in-None-argument-clause-goes : goal.call-returns-in-None-argument-clause-goes
call-returns-in-None-argument-clause-goes g x c =
    let s = c.args.self.now.spot in
    let ts = outer_of c.args.sources.now.outer.items in
    let d = c.args.room - length ts - 1 in
    rw c.if-not-charge.ensures.counted (gives g.O.NoteOut.left _ _ _ c.args.room d _ ts _ s (counts s) _ (sym c.if-not-charge.ensures.fits) (omega (arith, c.depth.ensures.value))
    (argument_none _ (value _ d) _ c.in-Argument.escape.now (counts s) (ap call_of c.in-Argument.is) c.in-None-argument.ensures) (rw c.if-not-charge.ensures.counted at c.report-in-None-argument.ensures))

pub call-returns-in-None-argument-clause-falls : goal.call-returns-in-None-argument-clause-falls
call-returns-in-None-argument-clause-falls g x c =
    let ts = texts_of c.args.sources.now in
    rw c.if-not-charge.ensures.counted (steps_counts c.args.self.now.spot ts ts (sym c.if-not-charge.ensures.fits) (omega arith))

-- ---- a width

pub put_width-returns-then-is_going : goal.put_width-returns-then-is_going
put_width-returns-then-is_going g x c =
    let env = surroundings_of c.args.env.now in
    let u = c.go_outside.new.self in
    let outside' = c.go_inside-outside.ensures in
    let read = width_read g.O.NoteOut.left _ _ env.units env c.args.room c.args.text.now c.args.self.now c.run.new.self u c.units-units.result c.requires.going
    (rw (c.new-sources.ensures, outside'.inside) at c.run.ensures.goes) (rw outside'.inside at c.run.ensures.before)
    (rw (outside'.start, outside'.width_column, c.units-units.ensures.same) at c.go_outside.ensures) c.units-units.ensures.units in
    let last = seq (nothing u.spot) (put (decimal c.units-units.result)) in
    let given = put (decimal c.units-units.result) u.spot in
    record {
      goes = goes_then g.O.NoteOut.left _ _ _ (width env.units (value env c.args.room c.args.text.now) c.args.self.now.spot) last (nothing c.put_units.new.self.spot) read.0
          (goes_then g.O.NoteOut.left _ _ _ last given (nothing c.put_units.new.self.spot)
          (goes_same g.O.NoteOut.left _ last given (seq_nothing u.spot (put (decimal c.units-units.result)) (going _ (sym c.if-is_going.true ∙ c.is_going.ensures)))) c.put_units.ensures.goes);
      before = c.put_units.ensures.before ∙ read.1;
    }

pub put_width-returns-else-is_going : goal.put_width-returns-else-is_going
put_width-returns-else-is_going g x c =
    let env = surroundings_of c.args.env.now in
    let u = c.go_outside.new.self in
    let outside' = c.go_inside-outside.ensures in
    let read = width_read g.O.NoteOut.left _ _ env.units env c.args.room c.args.text.now c.args.self.now c.run.new.self u c.units-units.result c.requires.going
    (rw (c.new-sources.ensures, outside'.inside) at c.run.ensures.goes) (rw outside'.inside at c.run.ensures.before)
    (rw (outside'.start, outside'.width_column, c.units-units.ensures.same) at c.go_outside.ensures) c.units-units.ensures.units in
    let last = seq (nothing u.spot) (put (decimal c.units-units.result)) in
    record {
      goes = goes_then g.O.NoteOut.left _ _ _ (width env.units (value env c.args.room c.args.text.now) c.args.self.now.spot) last (nothing u.spot) read.0
          (goes_same g.O.NoteOut.left _ last (nothing u.spot) (seq_ended u.spot (put (decimal c.units-units.result)) (gone _ (sym c.if-is_going.false ∙ c.is_going.ensures))));
      before = read.1;
    }

-- ---- the run

pub run-returns-in-None-clause-goes : goal.run-returns-in-None-clause-goes
run-returns-in-None-clause-goes g x c =
    let env = surroundings_of c.args.env.now in
    let room = c.args.room in
    let s = c.parts.self.spot in
    let ts = texts_of c.parts.sources in
    let e = going s.ended (sym c.parts-test.true ∙ c.is_going.ensures) in
    rw c.next_part.ensures.same
    (goes_then g.O.NoteOut.left _ _ _ (seq (nothing c.args.self.now.spot) (rest env room (texts_of c.args.sources.now))) (seq (nothing s) (rest env room ts)) (nothing s) c.parts.invariant.goes
    (goes_same g.O.NoteOut.left _ (seq (nothing s) (rest env room ts)) (nothing s) (seq_nothing s (rest env room ts) e ∙ c.in-None.ensures.reads env room s refl e (omega arith))))

pub run-parts-smaller-in-Some-Copied : goal.run-parts-smaller-in-Some-Copied
run-parts-smaller-in-Some-Copied g x c =
    let s = c.parts.self.spot in
    let put_goes = rw c.next_part.ensures.same at c.put.ensures.goes in
    steps_less s c.put.new.self.spot (texts_of c.parts.sources) (texts_of c.next_part.new.sources) (ap (λ (t : TextSoFar). t.count) {y = (put c.in-Some-Copied.run'.now s).edge} put_goes.1 ∙ put_count c.in-Some-Copied.run'.now s) c.in-Some-Copied.ensures.falls

pub run-parts-preserved-in-Some-Copied : goal.run-parts-preserved-in-Some-Copied
run-parts-preserved-in-Some-Copied g x c =
    let env = surroundings_of c.args.env.now in
    let room = c.args.room in
    let s = c.parts.self.spot in
    let ts = texts_of c.parts.sources in
    let us = texts_of c.next_part.new.sources in
    let e = going s.ended (sym c.parts-test.true ∙ c.is_going.ensures) in
    let given = put c.in-Some-Copied.run'.now s in
    let reads = rw c.in-Some-Copied.field-0-is at (c.in-Some-Copied.ensures.reads env room s refl e (omega arith)) in
    record {
      goes = goes_then g.O.NoteOut.left _ _ _ (seq (nothing c.args.self.now.spot) (rest env room (texts_of c.args.sources.now))) (seq (nothing s) (rest env room ts)) (seq (nothing c.put.new.self.spot) (rest env room us)) c.parts.invariant.goes
          (goes_on g.O.NoteOut.left _ _ (seq (nothing s) (rest env room ts)) given c.put.new.self.spot (rest env room us) (seq_nothing s (rest env room ts) e ∙ (reads ∙ seq_more given (rest env room us))) (rw c.next_part.ensures.same at c.put.ensures.goes));
      before = (rw c.next_part.ensures.same at c.put.ensures.before) ∙ c.parts.invariant.before;
    }

pub run-parts-smaller : goal.run-parts-smaller
run-parts-smaller g x c =
    let s = c.parts.self.spot in
    let less = steps_less s s (texts_of c.parts.sources) (texts_of c.next_part.new.sources) refl c.in-Some-Called.ensures.falls in
    omega (arith, rw c.next_part.ensures.same at c.call.ensures.falls)

pub run-parts-preserved : goal.run-parts-preserved
run-parts-preserved g x c =
    let env = surroundings_of c.args.env.now in
    let room = c.args.room in
    let s = c.parts.self.spot in
    let ts = texts_of c.parts.sources in
    let us = texts_of c.next_part.new.sources in
    let e = going s.ended (sym c.parts-test.true ∙ c.is_going.ensures) in
    let call = seq (call_at env (room_in room us) (call_of c.in-Some-Called.call) s) (rest env room us) in
    let last = seq (nothing c.call.new.self.spot) (rest env room (texts_of c.call.new.sources)) in
    let reads = rw c.in-Some-Called.field-0-is at (c.in-Some-Called.ensures.reads env room s refl e (omega arith)) in
    record {
      goes = goes_then g.O.NoteOut.left _ _ _ (seq (nothing c.args.self.now.spot) (rest env room (texts_of c.args.sources.now))) (seq (nothing s) (rest env room ts)) last c.parts.invariant.goes
          (goes_then g.O.NoteOut.left _ _ _ (seq (nothing s) (rest env room ts)) call last
          (goes_same g.O.NoteOut.left _ (seq (nothing s) (rest env room ts)) call (seq_nothing s (rest env room ts) e ∙ reads)) (rw c.next_part.ensures.same at c.call.ensures.goes));
      before = (rw c.next_part.ensures.same at c.call.ensures.before) ∙ c.parts.invariant.before;
    }

pub run-returns-clause-goes : goal.run-returns-clause-goes
run-returns-clause-goes g x c =
    let env = surroundings_of c.args.env.now in
    let room = c.args.room in
    let s = c.parts.self.spot in
    let ts = texts_of c.parts.sources in
    goes_then g.O.NoteOut.left _ _ _ (seq (nothing c.args.self.now.spot) (rest env room (texts_of c.args.sources.now))) (seq (nothing s) (rest env room ts)) (nothing s) c.parts.invariant.goes
    (goes_same g.O.NoteOut.left _ (seq (nothing s) (rest env room ts)) (nothing s) (seq_ended s (rest env room ts) (gone s.ended (sym c.parts-test.false ∙ c.is_going.ensures))))
