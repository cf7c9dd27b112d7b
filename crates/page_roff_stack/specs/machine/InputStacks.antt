-- The input stack, as the code holds it: the code's own form of it. Trust needs no reading of it.
use Rattle.std.specs.Prelude.{ℕ, ◌+◌, ◌*◌, ◌≤◌, List, [], ◌∷◌, length, take, drop, reverse}
use Rattle.std.specs.Vec.{vec_capacity}
use Rattle.page_core_base.specs.Limits.{ARGS, BODY, CALLS, LINE}
use Rattle.page_roff_blocks.specs.machine.Machine.{Frame}
use Rattle.page_roff_stack.specs.declared.input_stacks.Caller.{Caller}
use Rattle.page_roff_stack.specs.declared.input_stacks.InputStack.TheInside.{Inside}
use Rattle.page_roff_stack.specs.machine.Stacks.{frame_of, IsHeld, Stack, AreStacked}

-- the sources around, from the inside out: the text of each is what comes before the source inside it
abbrev pub frames_in : List ℕ → List Caller → List Frame
frames_in text [] = []
frames_in text (c ∷ cs) = frame_of c.source (take c.end text) ∷ frames_in (take c.end text) cs

-- the body and the arguments of each macro that runs, from the inside out: what comes after the text of its caller
abbrev pub texts_in : List ℕ → List Caller → List (List ℕ)
texts_in text [] = []
texts_in text (c ∷ cs) = drop c.end text ∷ texts_in (take c.end text) cs

abbrev pub stack_of : Inside → Stack
stack_of a =
    record {
      top = frame_of a.top a.text.items;
      under = frames_in a.text.items (reverse a.callers.items);
      texts = texts_in a.text.items (reverse a.callers.items);
    }

-- the memory that is wanted for the texts: for a line of the page with its end, and for the bodies and arguments of a number of macros
abbrev pub room_for : ℕ → ℕ
room_for calls = LINE + 1 + (BODY + ARGS) * calls

-- each of them lies in its text; a macro adds no more than a body and its arguments to that of its caller, and the page has one line at most
abbrev pub AreHeld : List ℕ → List Caller → Type 0
AreHeld text [] = length text ≤ LINE + 1
AreHeld text (c ∷ cs) =
    (c.end ≤ length text) × (length text ≤ c.end + (BODY + ARGS)) × IsHeld c.source (take c.end text) × AreHeld (take c.end text) cs

-- there is room for each macro that may still be called, and the page is around all
pub record IsStack (a : Inside) : Type 0 where
  pub page : AreStacked (frame_of a.top a.text.items).kind (frames_in a.text.items (reverse a.callers.items))
  pub top : IsHeld a.top a.text.items
  pub around : AreHeld a.text.items (reverse a.callers.items)
  pub deep : length a.callers.items ≤ CALLS
  pub room : room_for CALLS ≤ vec_capacity a.text
  pub calls : CALLS ≤ vec_capacity a.callers
