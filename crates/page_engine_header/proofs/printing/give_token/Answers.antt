use Rattle.page_core_base.proofs.LatchLemmas.{characters_of-text, characters_of-none}
use Rattle.page_engine_header.proofs.printing.give_token.Goals as goal

pub returns-in-Ok : goal.returns-in-Ok
returns-in-Ok g c = λ plan rest h.
    let is = c.in-Ok.ensures.cases in
    let text = characters_of-text c.in-Plain.text.now is.1 in
    (rw is.0 at c.give_plain.ensures) plan _ (rw text at (rw c.in-Plain.is at h))

pub returns-in_default : goal.returns-in_default
returns-in_default g c = λ plan rest h.
    let none = characters_of-none c.in-Plain.text.now c.in_default.ensures.cases.0 in
    rw none at (rw c.in-Plain.is at h)
