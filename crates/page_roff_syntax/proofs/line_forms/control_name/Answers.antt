use Rattle.std.proofs.Common.{drop, refl, sym, ◌∙◌}
use Rattle.std.proofs.lemmas.List.{take_rest}
use Rattle.page_roff_syntax.proofs.ClosedLemmas.{control_named}
use Rattle.page_roff_syntax.proofs.line_forms.control_name.Goals as goal

pub returns : goal.returns
returns c =
    let line = c.args.line.now in
    let s = c.white_len.result in
    let after = take_rest line 1 in
    let w = rw after at c.white_len.ensures.value in
    let named = take_rest (drop 1 line) s in
    let n = rw (after, named) at c.name_len.ensures.value in
    rw (control_named line (sym c.begins_control.ensures ∙ c.if-not-begins_control.false), after, named, n, w) refl
