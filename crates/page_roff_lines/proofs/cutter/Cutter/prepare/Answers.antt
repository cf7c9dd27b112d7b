use Rattle.std.proofs.Common.{◌≡◌, ◌≤◌, true, ◌++◌, length, refl, sym, ap, ◌∙◌, arith}
use Rattle.std.specs.Prelude.{◌||◌, nat_lt}
use Rattle.std.specs.List.{list_all}
use Rattle.page_roff_decoding.specs.Decoding.{line_limit, is_printable, characters, all_bytes, choice_of, characters_within, bad_notes, limit_notes}
use Rattle.page_roff_decoding.specs.laws.Views.{line_limit_is}
use Rattle.page_roff_decoding.proofs.SequenceLemmas.{plain-is_line, choice_of-plain}
use Rattle.page_roff_lines.specs.machine.Open.{Open, kept_of}
use Rattle.page_roff_lines.specs.Lines.{Line, decode_line}
use Rattle.page_roff_lines.specs.laws.Cutting.{Point, line_of}
use Rattle.page_roff_lines.proofs.PointLemmas.{waiting_point}
use Rattle.page_roff_lines.proofs.ReadLemmas.{decode_line-plain}
use Rattle.page_roff_lines.proofs.cutter.Cutter.prepare.Goals as goal
use Rattle.page_roff_lines.proofs.cutter.Cutter.prepare.Goals.{then-cut, else-cut}

pub returns-then-self-clause-text : goal.returns-then-self-clause-text
returns-then-self-clause-text g c =
    let v = c.args.self.now in
    let line = c.self.inside.line in
    let e = c.line_encoding-self-inside.result in
    let point = waiting_point v line c.self.inside.encoding c.self.inside.ready _ c.self.view_is c.requires in
    let same : line_of v.point ≡ decode_line e (kept_of line) =
    ap (λ (o : Open). decode_line v.point.encoding (kept_of o)) (ap (λ (p : Point). p.line) point)
    ∙ ap (λ e. decode_line e (kept_of line)) (sym c.line_encoding-self-inside.ensures) in
    let printable : list_all is_printable line.text.bytes ≡ true =
    sym c.is_printable-printable.ensures.value ∙ c.if-self.true in
    let limit = line_limit_is in
    let short : length line.text.bytes ≤ line_limit = omega (arith, limit, c.is_printable-printable.ensures.bound) in
    rw c.if-self.true (sym (ap (λ (l : Line). l.text) same ∙ (decode_line-plain e (kept_of line) printable short).0))

pub returns-then-self-clause-gives : goal.returns-then-self-clause-gives
returns-then-self-clause-gives g c =
    let v = c.args.self.now in
    let line = c.self.inside.line in
    let e = c.line_encoding-self-inside.result in
    let point = waiting_point v line c.self.inside.encoding c.self.inside.ready _ c.self.view_is c.requires in
    let same : line_of v.point ≡ decode_line e (kept_of line) =
    ap (λ (o : Open). decode_line v.point.encoding (kept_of o)) (ap (λ (p : Point). p.line) point)
    ∙ ap (λ e. decode_line e (kept_of line)) (sym c.line_encoding-self-inside.ensures) in
    let printable : list_all is_printable line.text.bytes ≡ true =
    sym c.is_printable-printable.ensures.value ∙ c.if-self.true in
    let limit = line_limit_is in
    let short : length line.text.bytes ≤ line_limit = omega (arith, limit, c.is_printable-printable.ensures.bound) in
    let notes : (line_of v.point).notes ≡ limit_notes c.is_cut-cut.result c.number-number.result =
    ap (λ (l : Line). l.notes) same ∙ (decode_line-plain e (kept_of line) printable short).1
    ∙ ap (λ b. limit_notes b line.number) (sym c.is_cut-cut.ensures) ∙ ap (λ n. limit_notes c.is_cut-cut.result n) (sym c.number-number.ensures) in
    rw notes c.report_limit.ensures.gives

pub returns-clause-text : goal.returns-clause-text
unfolding decode_line
returns-clause-text g c =
    let v = c.args.self.now in
    let line = c.self.inside.line in
    let e = c.line_encoding-self-inside.result in
    let point = waiting_point v line c.self.inside.encoding c.self.inside.ready _ c.self.view_is c.requires in
    let same : line_of v.point ≡ decode_line e (kept_of line) =
    ap (λ (o : Open). decode_line v.point.encoding (kept_of o)) (ap (λ (p : Point). p.line) point)
    ∙ ap (λ e. decode_line e (kept_of line)) (sym c.line_encoding-self-inside.ensures) in
    rw c.if-self.false (c.decode-passed.ensures.after ∙ ap (λ l. all_bytes (characters_within line_limit (characters e l))) c.text.ensures.value
    ∙ sym (ap (λ (l : Line). l.text) same))

pub returns-clause-gives : goal.returns-clause-gives
unfolding decode_line
returns-clause-gives g c =
    let v = c.args.self.now in
    let line = c.self.inside.line in
    let e = c.line_encoding-self-inside.result in
    let point = waiting_point v line c.self.inside.encoding c.self.inside.ready _ c.self.view_is c.requires in
    let same : line_of v.point ≡ decode_line e (kept_of line) =
    ap (λ (o : Open). decode_line v.point.encoding (kept_of o)) (ap (λ (p : Point). p.line) point)
    ∙ ap (λ e. decode_line e (kept_of line)) (sym c.line_encoding-self-inside.ensures) in
    let chars = characters e line.text.bytes in
    let passed : c.decode-passed.result ≡ nat_lt (length (characters_within line_limit chars)) (length chars) =
    c.decode-passed.ensures.passed ∙ ap (λ l. nat_lt (length (characters_within line_limit (characters e l))) (length (characters e l))) c.text.ensures.value in
    let cut : c.if-cut.report ≡ (c.is_cut-cut.result || c.decode-passed.result) =
    elim c.if-cut.branch [ then-cut w ↦ rw (w.report-is, w.if-cut.true) refl | else-cut w ↦ rw (w.report-is, w.if-cut.false) refl ] in
    let notes : (line_of v.point).notes ≡ limit_notes c.if-cut.report c.number-number.result ++ bad_notes c.number-number.result 1 (characters_within line_limit (characters e c.text-2.result.now)) =
    ap (λ (l : Line). l.notes) same ∙ rw (cut, c.is_cut-cut.ensures, passed, c.number-number.ensures, c.text-2.ensures.value) refl in
    rw notes c.report.ensures.gives

pub returns-then-self-clause-line : goal.returns-then-self-clause-line
returns-then-self-clause-line g c =
    let text = c.self.inside.line.text.bytes in
    let printable : list_all is_printable text ≡ true =
    sym c.is_printable-printable.ensures.value ∙ c.if-self.true in
    rw c.if-self.true (plain-is_line text printable (omega (arith, c.is_printable-printable.ensures.bound)))

pub returns-clause-line : goal.returns-clause-line
returns-clause-line g c = rw c.if-self.false c.decode-passed.ensures.line

pub line_encoding-self-inside-requires-clause-printable : goal.line_encoding-self-inside-requires-clause-printable
line_encoding-self-inside-requires-clause-printable g c = λ is.
    let point = waiting_point c.args.self.now c.self.inside.line c.self.inside.encoding c.self.inside.ready _ c.self.view_is c.requires in
    let printable : list_all is_printable c.self.inside.line.text.bytes ≡ true =
    sym c.is_printable-printable.ensures.value ∙ is in
    ap (λ (p : Point). choice_of p.line.text.bytes) point ∙ choice_of-plain c.self.inside.line.text.bytes printable
