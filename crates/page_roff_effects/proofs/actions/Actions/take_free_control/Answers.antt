use Rattle.std.proofs.Common.{◌≡◌, ℕ, ◌+◌, ◌==◌, ◌-◌, false, List, take, drop, length, length-drop, refl, sym, ap, ◌∙◌, arith}
use Rattle.std.proofs.Math.Seq.{take-length}
use Rattle.page_roff_syntax.specs.LineForms.{name_start}
use Rattle.page_roff_blocks.proofs.LinePartLemmas.{named_within}
use Rattle.page_roff_effects.specs.contracts.actions.Actions.{the_view}
use Rattle.page_roff_effects.specs.machine.Acting.{measured}
use Rattle.page_roff_effects.proofs.AtOnceLemmas.{free_control, free_named, is_pass, takes_call}
use Rattle.page_roff_effects.proofs.actions.Actions.take_free_control.Goals as goal

pub overflow_cast-name_end : goal.overflow_cast-name_end
overflow_cast-name_end c =
    let w = named_within c.args.raw.now c.args.name.now c.requires.named in
    record { fits = omega (arith, w, c.white_len.ensures.value, c.requires.short) }

pub overflow_cast-result : goal.overflow_cast-result
overflow_cast-result c =
    let w = named_within c.args.raw.now c.args.name.now c.requires.named in
    record { fits = omega (arith, w, c.white_len.ensures.value, c.requires.short) }

pub overflow_add-name_end-then-is_called : goal.overflow_add-name_end-then-is_called
overflow_add-name_end-then-is_called c =
    let w = named_within c.args.raw.now c.args.name.now c.requires.named in
    record { fits = omega (arith, w, c.white_len.ensures.value, c.requires.short) }

start_of : (raw : List ℕ) (n : ℕ) → n ≡ name_start (take (length raw - 1) (drop 1 raw)) → n ≡ name_start (drop 1 raw)
start_of raw n e =
    let bytes : take (length raw - 1) (drop 1 raw) ≡ drop 1 raw = rw (← length-drop 1 raw) (take-length (drop 1 raw)) in
    e ∙ ap name_start bytes

pub slice_bounds-call_at_once-start : goal.slice_bounds-call_at_once-start
slice_bounds-call_at_once-start c =
    let w = named_within c.args.raw.now c.args.name.now c.requires.named in
    let start = start_of c.args.raw.now c.white_len.result c.white_len.ensures.value in
    omega (arith, w, start)

pub slice_bounds-call_at_once-count : goal.slice_bounds-call_at_once-count
slice_bounds-call_at_once-count c =
    let w = named_within c.args.raw.now c.args.name.now c.requires.named in
    let start = start_of c.args.raw.now c.white_len.result c.white_len.ensures.value in
    omega (arith, w, start)

pub call_at_once-requires-clause-room : goal.call_at_once-requires-clause-room
call_at_once-requires-clause-room c =
    let w = named_within c.args.raw.now c.args.name.now c.requires.named in
    let start = start_of c.args.raw.now c.white_len.result c.white_len.ensures.value in
    omega (arith, w, start, c.requires.short)

pub returns-then-is_called : goal.returns-then-is_called
returns-then-is_called c =
    let old = the_view c.self.inside in
    let raw = c.args.raw.now in
    let name = c.args.name.now in
    let n = 1 + name_start (drop 1 raw) + length name in
    let start = start_of raw c.white_len.result c.white_len.ensures.value in
    let rest : take (length raw - n) (drop n raw) ≡ drop n raw = rw (← length-drop n raw) (take-length (drop n raw)) in
    let some : (length name == 0) ≡ false = sym c.is_empty.ensures ∙ c.if-is_empty.false in
    let ordinary = c.is_ordinary.ensures c.if-not-is_ordinary.false in
    let called = sym c.is_called.ensures.called ∙ c.if-is_called.true in
    let calls = rw (start, rest, c.is_called.ensures.same) at c.call_at_once.ensures in
    rw (← c.self.view_is)
    (takes_call c.call_at_once.result raw name old c.call_at_once.new.self c.requires.free c.requires.short c.requires.named some ordinary called calls)

pub returns : goal.returns
returns c =
    let old = the_view c.self.inside in
    let raw = c.args.raw.now in
    let name = c.args.name.now in
    let bytes : take (length raw - 1) (drop 1 raw) ≡ drop 1 raw = rw (← length-drop 1 raw) (take-length (drop 1 raw)) in
    let some : (length name == 0) ≡ false = sym c.is_empty.ensures ∙ c.if-is_empty.false in
    let ordinary = c.is_ordinary.ensures c.if-not-is_ordinary.false in
    let pass = is_pass name old.memory.definitions (sym c.is_called.ensures.called ∙ c.if-is_called.false) ordinary in
    rw (c.is_called.ensures.same, c.white_len.ensures.value, bytes, ← c.self.view_is) (record {
      leaf = free_named raw name c.requires.free c.requires.named ordinary;
      left = record { setting = refl; memory = refl };
      short = c.requires.short;
      given = free_control (measured old.setting) raw name old.memory c.requires.free c.requires.short c.requires.named some pass;
    })
