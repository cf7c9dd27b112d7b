use Rattle.std.proofs.Common.{sym, ◌∙◌, append_assoc}
use Rattle.page_scopes_text.proofs.TextLemmas.{text_gap, text_indented}
use Rattle.page_scopes_text.proofs.texts.give_leading.Goals as goal

pub returns-then-is_indented-clause-came : goal.returns-then-is_indented-clause-came
returns-then-is_indented-clause-came g c = λ plan rest h.
    let w = c.give_indented.ensures in
    let parts = (text_indented c.args.style c.args.line c.args.front.now c.args.pen.now c.args.text.now (sym c.is_indented.ensures ∙ c.if-is_indented.true) c.requires.white).0 in
    rw (w.pen, w.rest.others) (w.came plan _ (rw (parts, append_assoc) at h))

pub returns-then-is_indented-clause-pen : goal.returns-then-is_indented-clause-pen
returns-then-is_indented-clause-pen g c =
    let w = c.give_indented.ensures in
    rw (w.pen, w.rest.others) (sym (text_indented c.args.style c.args.line c.args.front.now c.args.pen.now c.args.text.now (sym c.is_indented.ensures ∙ c.if-is_indented.true) c.requires.white).1)

pub returns-then-has_gap_cells-clause-came : goal.returns-then-has_gap_cells-clause-came
returns-then-has_gap_cells-clause-came g c = λ plan rest h.
    let parts = (text_gap c.args.style c.args.line c.args.front.now c.args.pen.now c.args.text.now (sym c.is_indented.ensures ∙ c.if-is_indented.false) c.requires.white).0 in
    let has = sym c.has_gap_cells.ensures ∙ c.if-has_gap_cells.true in
    (rw c.gap_column.ensures at c.give_blank_cells.ensures) plan _ (rw (parts, has, append_assoc) at h)

pub returns-then-has_gap_cells-clause-pen : goal.returns-then-has_gap_cells-clause-pen
returns-then-has_gap_cells-clause-pen g c =
    sym (text_gap c.args.style c.args.line c.args.front.now c.args.pen.now c.args.text.now (sym c.is_indented.ensures ∙ c.if-is_indented.false) c.requires.white).1

pub returns-else-has_gap_cells-clause-came : goal.returns-else-has_gap_cells-clause-came
returns-else-has_gap_cells-clause-came g c = λ plan rest h.
    let parts = (text_gap c.args.style c.args.line c.args.front.now c.args.pen.now c.args.text.now (sym c.is_indented.ensures ∙ c.if-is_indented.false) c.requires.white).0 in
    let none = sym c.has_gap_cells.ensures ∙ c.if-has_gap_cells.false in
    rw (parts, none) at h

pub returns-else-has_gap_cells-clause-pen : goal.returns-else-has_gap_cells-clause-pen
returns-else-has_gap_cells-clause-pen g c =
    sym (text_gap c.args.style c.args.line c.args.front.now c.args.pen.now c.args.text.now (sym c.is_indented.ensures ∙ c.if-is_indented.false) c.requires.white).1
