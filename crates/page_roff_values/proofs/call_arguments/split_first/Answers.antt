use Rattle.std.proofs.Common.{◌==◌, ◌∷◌, get_or, take, arith, ap, ◌∙◌, sym}
use Rattle.std.proofs.Math.Seq.{drop-length}
use Rattle.page_roff_values.specs.Values.{arguments_in}
use Rattle.page_roff_values.proofs.ArgumentLemmas.{first_of, last_of, none_in, not_true}
use Rattle.page_roff_values.proofs.call_arguments.split_first.Goals as goal

pub returns-in-Some-clause-value : goal.returns-in-Some-clause-value
returns-in-Some-clause-value c =
    let p = c.args.packed.now in
    let e = c.in-Some.end in
    let h = c.in-Some.ensures in
    first_of p e h.0.high (λ i l. not_true (get_or p i 0 == 10) (h.0.before i (omega arith) l)) h.1
    ∙ ap (λ xs. take e p ∷ arguments_in xs) (sym c.after.ensures)

pub returns-in-None-clause-value : goal.returns-in-None-clause-value
returns-in-None-clause-value c =
    let p = c.args.packed.now in
    last_of p c.requires (λ i l. not_true (get_or p i 0 == 10) (c.in-None.ensures i (omega arith) l))
    ∙ ap (λ xs. p ∷ xs) (sym (ap arguments_in (c.after-in-None.ensures ∙ drop-length p) ∙ none_in))
