use Rattle.std.proofs.Common.{◌≡◌, true, false, ◌==◌, ◌-◌, refl, arith, ◌≤◌, ◌+◌, length, rules}
use Rattle.std.specs.Prelude.{if◌then◌else◌}
use Rattle.std.proofs.lemmas.Bool.Decides.{nat_tests}
use Rattle.page_fill_cells.proofs.PlaceLemmas.{in-length}
use Rattle.page_fill_rows.proofs.GroupLemmas.{sound-words}
use Rattle.page_fill_rows.proofs.open_rows.OpenRow.add_words.Goals as goal
use Rattle.page_fill_rows.proofs.open_rows.OpenRow.add_words.Goals.{then-start-eq0, else-start-eq0}

pub invariant_of-self : goal.invariant_of-self
invariant_of-self c =
    let row = c.self.inside in
    let room : length row.row + c.args.blanks + length c.args.text.now ≤ 4096 = search rules in
    let gap : c.if-start-eq0.self ≤ length row.row + c.args.blanks + c.args.start =
    elim c.if-start-eq0.branch [
      | then-start-eq0 w ↦ omega (arith, w.self-is, c.len-end.ensures.value)
      | else-start-eq0 w ↦ omega (arith, w.self-is, c.len-end.ensures.value)
    ] in
    rw (c.add_letters.ensures, c.add_spaces.ensures, c.len-end.ensures.value)
    (sound-words row.row c.args.blanks c.args.text.now c.args.fonts.now c.args.start row.columns row.gap row.word row.tag_columns c.if-start-eq0.self _ c.self.invariant c.requires.plain c.requires.fonts room (omega arith) c.requires.start gap)

pub returns : goal.returns
returns c =
    let row = c.self.inside in
    let size = in-length c.args.text.now c.args.fonts.now c.requires.fonts in
    let gap : c.if-start-eq0.self ≡ (if c.args.start == 0 then length row.row else length row.row + c.args.blanks + (c.args.start - 1)) =
    elim c.if-start-eq0.branch [
      | then-start-eq0 w ↦
          let test = w.if-start-eq0 in
          let none : (c.args.start == 0) ≡ true = grind (arith, nat_tests, test) in
          rw none (omega (arith, w.self-is, c.len-end.ensures.value))
      | else-start-eq0 w ↦
          let test = w.if-start-eq0 in
          let some : (c.args.start == 0) ≡ false = grind (arith, nat_tests, test) in
          rw some (omega (arith, w.self-is, c.len-end.ensures.value, test))
    ] in
    rw (← c.self.view_is, c.add_letters.ensures, c.add_spaces.ensures, c.len-end.ensures.value, gap, c.min-self-inside.ensures, size) refl
