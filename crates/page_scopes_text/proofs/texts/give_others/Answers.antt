use Rattle.std.proofs.Common.{◌≤◌, length, ap, sym, ◌∙◌, arith}
use Rattle.std.proofs.lemmas.Bool.Decides.{nat_tests}
use Rattle.page_scopes_text.proofs.TextLemmas.{no_others}
use Rattle.page_scopes_text.specs.Texts.{others_after}
use Rattle.page_scopes_text.proofs.texts.give_others.Goals as goal

pub returns : goal.returns
returns g c =
    let l = c.loop-rest in
    let none : length l.rest.now ≤ 0 = grind (arith, nat_tests) in
    record {
      came = λ plan rest h.
          let none : length l.rest.now ≤ 0 = grind (arith, nat_tests) in
          rw (no_others c.args.style.is_quoted l.rest.now none) at (l.invariant.came plan rest h);
      pen = sym (l.invariant.pen ∙ ap (others_after c.args.style l.pen) (no_others c.args.style.is_quoted l.rest.now none));
    }
