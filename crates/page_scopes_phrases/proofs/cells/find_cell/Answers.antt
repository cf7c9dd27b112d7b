use Rattle.std.proofs.Common.{◌≡◌, ◌+◌, ◌-◌, ◌<◌, ◌≤◌, length, drop, if◌then◌else◌, sym, ap, ◌∙◌, arith, length-drop}
use Rattle.std.proofs.lemmas.Bool.Decides.{nat_tests}
use Rattle.std.proofs.lemmas.List.{take_rest}
use Rattle.page_core_escapes.specs.Tokens.{is_space, token_at, token_bytes, tokens_of}
use Rattle.page_core_escapes.specs.laws.Views.{token_view}
use Rattle.page_scopes_phrases.specs.LineWords.{before_blanks, tab_in}
use Rattle.page_scopes_phrases.proofs.NameLemmas.{blanks_found, blanks_none, end_by, end_more, end_within, span_is, tab_found, tab_more, tab_none}
use Rattle.page_scopes_phrases.specs.declared.cells.CellSpan.{CellSpan}
use Rattle.page_scopes_phrases.proofs.cells.find_cell.Goals as goal

pub returns-in-Some-clause-value : goal.returns-in-Some-clause-value
returns-in-Some-clause-value c =
    let l = c.loop-rest in
    let quoted = c.args.quoted in
    let text = c.args.text.now in
    let start = length text - length l.rest.now in
    let found = c.in-Some.ensures.value quoted in
    let blanks = ap (λ (s : CellSpan). s.end) found in
    let tab = ap (λ (s : CellSpan). s.tab) found in
    span_is quoted text l.end (start + c.in-Some.blanks) (sym (l.invariant.1 ∙ ap (end_by l.end start) blanks))
    (ap (λ k. start + k) (sym tab) ∙ sym l.invariant.0)

pub returns-in-Some-tab_in-clause-value : goal.returns-in-Some-tab_in-clause-value
returns-in-Some-tab_in-clause-value c =
    let l = c.loop-rest in
    let quoted = c.args.quoted in
    let text = c.args.text.now in
    let rest = l.rest.now in
    let some : 0 < length rest = grind (arith, nat_tests) in
    let v = c.read_token-token.ensures in
    let n = length (token_bytes (token_view c.read_token-token.result)) in
    let less : 0 < n = v.some some in
    let is = ap (λ u. length (token_bytes u)) v.value in
    let tab = ap tab_in (sym v.value) ∙ sym c.tab_in.ensures.value ∙ c.in-Some-tab_in.is in
    let found = tab_found quoted rest n c.in-Some-tab_in.before less is tab in
    let blanks = blanks_found quoted rest n c.in-Some-tab_in.before less is tab in
    let start = length text - length rest in
    span_is quoted text l.end (start + c.in-Some-tab_in.before) (sym (l.invariant.1 ∙ ap (end_by l.end start) blanks))
    (ap (λ k. start + k) (sym found) ∙ sym l.invariant.0)

pub loop-rest-preserved : goal.loop-rest-preserved
loop-rest-preserved c =
    let l = c.loop-rest in
    let quoted = c.args.quoted in
    let text = c.args.text.now in
    let rest = l.rest.now in
    let some : 0 < length rest = grind (arith, nat_tests) in
    let v = c.read_token-token.ensures in
    let n = c.len.result in
    let less : 0 < n = rw c.len.ensures (v.some some) in
    let is = c.len.ensures ∙ ap (λ u. length (token_bytes u)) v.value in
    let tab = ap tab_in (sym v.value) ∙ sym c.tab_in.ensures.value ∙ c.in-None.is in
    let start = length text - length rest in
    let next = length text - length (drop n rest) in
    let d = length-drop n rest in
    let w = rw (← c.len.ensures) at v.within in
    let r = l.invariant.2 in
    let same : start + n ≡ next = omega (arith, d, w, r) in
    let more = tab_more quoted rest n less is tab in
    let ends = end_more quoted rest n l.end start less is tab in
    let after = before_blanks (tokens_of quoted (drop n rest)) in
    let end = (rw (take_rest rest n) at c.end_after-end.ensures) ∙ ap (λ u. if is_space u then l.end else next) v.value in
    let last : l.end ≤ next = omega (arith, d, w, r) in
    let bound = end_within (is_space (token_at quoted rest)) l.end next next c.end_after-end.result end last (omega arith) in
    let tabs = l.invariant.0 in
    rw (take_rest rest n) (
      omega (arith, tabs, more, d, w, r),
      l.invariant.1 ∙ ends ∙ ap (λ m. end_by (if is_space (token_at quoted rest) then l.end else m) m after) same ∙ ap (λ m. end_by m next after) (sym end),
      omega (arith, bound, d, w, r),
      l.invariant.3,
    )

pub returns-clause-value : goal.returns-clause-value
returns-clause-value c =
    let l = c.loop-rest in
    let quoted = c.args.quoted in
    let text = c.args.text.now in
    let rest = l.rest.now in
    let none : length rest ≤ 0 = grind (arith, nat_tests) in
    let start = length text - length rest in
    let tabs = l.invariant.0 in
    let no = tab_none quoted rest none in
    span_is quoted text l.end (length text) (sym (l.invariant.1 ∙ ap (end_by l.end start) (blanks_none quoted rest none))) (omega (arith, tabs, no, none))
