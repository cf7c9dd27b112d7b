use Rattle.std.proofs.Common.{◌≡◌, ◌==◌, true, false, sym, ◌∙◌, rules}
use Rattle.page_scopes_labels.specs.Labels.{is_margin}
use Rattle.page_scopes_tree.proofs.RunLemmas.{from_start, margin_goes_on, margin_counts, margin_found, margin_missing}
use Rattle.page_scopes_tree.proofs.ends.find_margin_of.Goals as goal
use Rattle.page_scopes_tree.proofs.ends.find_margin_of.Goals.{then-is_margin+else-more-eq1, else-is_margin}

pub loop-outside-init : goal.loop-outside-init
loop-outside-init g c = record { found = from_start _; some = c.requires.some }

pub loop-outside-preserved : goal.loop-outside-preserved
loop-outside-preserved g c =
    let l = c.loop-outside in
    let scope = c.index-scopes-outside.result in
    let here = c.index-scopes-outside.is in
    elim c.if-is_margin.branch [
      | then-is_margin+else-more-eq1 w ↦
          let margin : is_margin scope.label ≡ true = search rules in
          let other : (l.more == 1) ≡ false = search rules in
          rw w.more-is (record {
            found = l.invariant.found ∙ margin_counts c.args.scopes.now l.outside l.more scope c.loop-outside-test.true here margin other;
            some = search rules;
          })
      | else-is_margin w ↦
          let none : is_margin scope.label ≡ false = search rules in
          rw w.more-is (record {
            found = l.invariant.found ∙ margin_goes_on c.args.scopes.now l.outside l.more scope c.loop-outside-test.true here none;
            some = l.invariant.some;
          })
    ]

pub returns : goal.returns
returns g c =
    let l = c.loop-outside in
    sym (l.invariant.found ∙ margin_missing c.args.scopes.now l.outside l.more c.loop-outside-test.false)

pub returns-then-more-eq1 : goal.returns-then-more-eq1
returns-then-more-eq1 g c =
    let l = c.loop-outside in
    let scope = c.index-scopes-outside.result in
    let margin : is_margin scope.label ≡ true = search rules in
    let one : (l.more == 1) ≡ true = search rules in
    sym (l.invariant.found ∙ margin_found c.args.scopes.now l.outside l.more scope c.loop-outside-test.true c.index-scopes-outside.is margin one)
