use Rattle.std.proofs.Common.{sym, ◌∙◌}
use Rattle.std.proofs.lemmas.Str.{chars-nil}
use Rattle.page_core_base.proofs.LatchLemmas.{characters_of-text, characters_of-none}
use Rattle.page_fill_rows.proofs.PlainLemmas.{characters_of-plain}
use Rattle.page_fill.proofs.FilledWords.{blanks-bytes}
use Rattle.page_fill.proofs.edges.FillEdge.bytes.Goals as goal

pub returns-then-is_long_run : goal.returns-then-is_long_run
returns-then-is_long_run g c =
    let run = c.is_long_run.ensures in
    let same = blanks-bytes c.args.bytes.now (run.blanks c.if-is_long_run.true) in
    rw (characters_of-plain c.args.bytes.now (run.printable c.if-is_long_run.true), same) c.blanks.ensures

pub returns-then-is_printable_ascii : goal.returns-then-is_printable_ascii
returns-then-is_printable_ascii g c =
    rw (characters_of-plain c.args.bytes.now (sym c.is_printable_ascii.ensures ∙ c.if-is_printable_ascii.true)) c.plain.ensures

pub returns-in-Ok : goal.returns-in-Ok
returns-in-Ok g c = rw (characters_of-text c.args.bytes.now c.in-Ok.ensures.cases.1, ← c.in-Ok.ensures.cases.0) c.text.ensures

pub returns-in-Err : goal.returns-in-Err
returns-in-Err g c = rw (characters_of-none c.args.bytes.now c.in-Err.ensures.cases.0) (rw chars-nil at c.text-in-Err.ensures)
