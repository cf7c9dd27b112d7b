use Rattle.std.proofs.Common.{ℕ, List, [], ◌++◌, cond, ap, sym, ◌∙◌, subst, append-nil}
use Rattle.std.specs.Prelude.{encode_utf8}
use Rattle.std.specs.List.{flat_map}
use Rattle.std.proofs.lemmas.Grind.{flat_map-append}
use Rattle.std.proofs.lemmas.Iterator.{YieldsList-from_chars}
use Rattle.std.proofs.lemmas.Iterator.Consumers.{YieldsList-end}
use Rattle.std.proofs.lemmas.List.{map-id}
use Rattle.page_core_streams.specs.laws.Views.{Grows-nil, Writes}
use Rattle.mandoc_formats.specs.ShownNames.{is_hidden}
use Rattle.mandoc_formats.proofs.Turns.{writes_on, ended_before}
use Rattle.mandoc_formats.proofs.names.put_name.Goals as goal

abbrev shown_code : ℕ → List ℕ
shown_code c = encode_utf8 (cond (is_hidden c) 63 c)

pub loop-c-init : goal.loop-c-init
loop-c-init g c = (Grows-nil (g.V.Target.contents c.args.err.now), λ e. absurd (cc))

pub loop-c-preserved-then-is_written : goal.loop-c-preserved-then-is_written
loop-c-preserved-then-is_written g c =
    let was = rw c.if-is_written.true at c.loop-c.invariant.0 in
    let a = g.V.Target.contents c.args.err.now in
    let b = g.V.Target.contents c.loop-c.err in
    let d = g.V.Target.contents c.put_char-is_written.new.err in
    let r = c.put_char-is_written.result in
    let one = subst (λ (l : List ℕ). Writes r b d l) (ap encode_utf8 c.shown_char.ensures ∙ sym (append-nil (shown_code c.in-Some.c))) c.put_char-is_written.ensures.writes in
    (rw flat_map-append (writes_on r a b d (flat_map shown_code c.loop-c.yielded) (shown_code c.in-Some.c ++ []) was one), c.put_char-is_written.ensures.failed)

pub loop-c-preserved : goal.loop-c-preserved
loop-c-preserved g c =
    let was = rw c.if-is_written.false at c.loop-c.invariant.0 in
    let a = g.V.Target.contents c.args.err.now in
    let b = g.V.Target.contents c.loop-c.err in (
      rw c.if-is_written.false (rw flat_map-append (ended_before a b (flat_map shown_code c.loop-c.yielded) (shown_code c.in-Some.c ++ []) was)),
      c.loop-c.invariant.1,
    )

pub returns-clause-writes : goal.returns-clause-writes
returns-clause-writes g c =
    let t = YieldsList-end (YieldsList-from_chars c.args.name.now c.utf8.name cc) c.loop-c.yielded _ c.loop-c.yielded_by _ _ c.in-None.is c.next.ensures.steps in
    subst (λ (l : List ℕ). Writes c.loop-c.is_written (g.V.Target.contents c.args.err.now) (g.V.Target.contents c.loop-c.err) l)
    (ap (flat_map shown_code) (sym (map-id c.loop-c.yielded) ∙ t.0)) c.loop-c.invariant.0

pub returns-clause-failed : goal.returns-clause-failed
returns-clause-failed g c = c.loop-c.invariant.1
