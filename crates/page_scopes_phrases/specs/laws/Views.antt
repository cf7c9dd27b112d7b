-- What contracts of the code say by the definitions, and what is proved of these.
use Rattle.std.specs.Borrow.{Bor}
use Rattle.std.specs.Prelude.{◌≡◌, List, ℕ}
use Rattle.page_core_base.specs.Rows.{Item}
use Rattle.page_core_base.specs.laws.Views.{Came}
use Rattle.page_scopes_phrases.specs.Phrases.{EventOutcome}
use Rattle.page_scopes_phrases.specs.declared.formatting.Formatting.{Formatting}
use Rattle.page_scopes_phrases.specs.declared.phrases.Phrase.{Phrase}

-- a latch was given what an outcome gives, and this state is the one that it leaves
pub record GivesOutcome {P O : Type 0} (left : P → O → List Item → Type 0) (out : O) (outcome : EventOutcome) (next : O) (s : Formatting) : Type 0 where
  pub came : Came left out outcome.items next
  pub state : s ≡ outcome.state

-- a phrase of the program, with what its text holds
abbrev pub phrase_view : Phrase (Bor (List ℕ)) → Phrase (List ℕ)
phrase_view p = record {
  text = p.text.now;
  column = p.column;
  is_quoted = p.is_quoted;
  is_line = p.is_line;
  is_written = p.is_written;
  font = p.font;
  before = p.before;
  after = p.after;
}
