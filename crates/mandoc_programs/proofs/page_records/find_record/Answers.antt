use Rattle.std.proofs.Common.{[], true, false, sym, ◌∙◌, take}
use Rattle.std.proofs.KnownBytes.{Consumes-nil}
use Rattle.mandoc_programs.proofs.Parts.{head_tells, plain_good, reads_after}
use Rattle.mandoc_programs.proofs.page_records.find_record.Goals as goal

pub returns-in_default : goal.returns-in_default
returns-in_default g c =
    let s = c.plain-settings in
    let left = g.I.Read.remaining c.args.input.now in
    record { settings = s.result; plain = s.ensures; bytes = []; left = left; read = Consumes-nil left; reads = plain_good s.result s.ensures }

pub returns-then-is_compressed : goal.returns-then-is_compressed
returns-then-is_compressed g c =
    let h = c.in-Some.ensures in
    head_tells (g.I.Read.remaining c.args.input.now) (g.I.Read.remaining c.read_head.new.input) c.read_head.new.head c.in-Some.count true
    c.read_head.auto.head h.0 h.1 h.2 (sym c.is_compressed.ensures ∙ c.if-is_compressed.true)

pub returns-in-Ok-Some : goal.returns-in-Ok-Some
returns-in-Ok-Some g c =
    let h = c.in-Some.ensures in
    let before = g.I.Read.remaining c.args.input.now in
    let left = g.I.Read.remaining c.read_head.new.input in
    let read = rw c.in-Ok-Some.field-0-is at c.in-Ok-Some.ensures in (
      head_tells before left c.read_head.new.head c.in-Some.count false c.read_head.auto.head h.0 h.1 h.2 (sym c.is_compressed.ensures ∙ c.if-is_compressed.false),
      reads_after before left (take c.in-Some.count c.read_head.new.head) _ h.1 read,
    )

pub returns-in-Ok-None : goal.returns-in-Ok-None
returns-in-Ok-None g c =
    let h = c.in-Some.ensures in
    let before = g.I.Read.remaining c.args.input.now in
    let left = g.I.Read.remaining c.read_head.new.input in
    let read = rw c.in-Ok-None.field-0-is at c.in-Ok-None.ensures in (
      head_tells before left c.read_head.new.head c.in-Some.count false c.read_head.auto.head h.0 h.1 h.2 (sym c.is_compressed.ensures ∙ c.if-is_compressed.false),
      reads_after before left (take c.in-Some.count c.read_head.new.head) _ h.1 read,
    )
