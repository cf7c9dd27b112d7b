use Rattle.std.proofs.Common.{◌≡◌, ℕ, List, ◌+◌, ◌-◌, length, take, ap, arith}
use Rattle.std.proofs.lemmas.List.{length-take}
use Rattle.page_roff_syntax.specs.LineForms.{without_comment}
use Rattle.page_roff_effects.specs.Lines.{ControlLine}
use Rattle.page_roff_effects.proofs.FreeLemmas.{uncommented_front, uncommented_short, control_whole}
use Rattle.page_roff_effects.proofs.leaves.control_line.Goals as goal

pub slice_bounds-result-end : goal.slice_bounds-result-end
slice_bounds-result-end c =
    let k = control_whole c.args.text.now c.args.name.now c.args.rest.now c.args.column c.args.rest_column c.requires.form in
    let n = k.1 in
    let s = uncommented_short c.args.text.now in
    let t = length-take (c.args.rest_column - 1 + length c.args.rest.now) c.args.text.now in
    omega arith

abbrev record_with : List ℕ → ℕ → ℕ → List ℕ → ControlLine
record_with name column name_end text = record { name = name; column = column; name_end = name_end; text = text }

pub returns-clause-value : goal.returns-clause-value
returns-clause-value c =
    let k = control_whole c.args.text.now c.args.name.now c.args.rest.now c.args.column c.args.rest_column c.requires.form in
    let f : take (c.args.rest_column - 1 + length c.args.rest.now) c.args.text.now ≡ without_comment c.args.text.now =
    rw k.1 (uncommented_front c.args.text.now) in
    ap (record_with c.args.name.now c.args.column (c.args.rest_column - 1)) f

pub returns-clause-fits : goal.returns-clause-fits
returns-clause-fits c =
    let k = control_whole c.args.text.now c.args.name.now c.args.rest.now c.args.column c.args.rest_column c.requires.form in
    let n = k.1 in
    let s = uncommented_short c.args.text.now in
    let t = c.requires.short in
    omega arith

pub returns-clause-short : goal.returns-clause-short
returns-clause-short c =
    let n = length-take (c.args.rest_column - 1 + length c.args.rest.now) c.args.text.now in
    omega (arith, n, c.requires.short)
