use Rattle.std.proofs.Common.{refl, sym, ◌∙◌}
use Rattle.page_engine_index.proofs.MatchLemmas.{begins, no_version, next_entry, no_entry}
use Rattle.page_engine_index.proofs.entries.Place.next.Goals as goal

pub returns-in-Some-version_of-clause-next : goal.returns-in-Some-version_of-clause-next
returns-in-Some-version_of-clause-next c = λ later.
    begins c.args.self.now c.args.line.now later _ c.in-None.is (sym c.version_of.ensures ∙ c.in-Some-version_of.is)

pub returns-in-None-version_of-clause-next : goal.returns-in-None-version_of-clause-next
returns-in-None-version_of-clause-next c = (
  refl,
  λ later. no_version c.args.self.now c.args.line.now later c.in-None.is (sym c.version_of.ensures ∙ c.in-None-version_of.is),
)

pub returns-in-Some-fields_of-clause-next : goal.returns-in-Some-fields_of-clause-next
returns-in-Some-fields_of-clause-next c = λ later.
    next_entry c.args.self.now c.args.line.now later c.in-Some.version _ c.in-Some.is (sym c.in-Some-fields_of.ensures)

pub returns-in-None-fields_of-clause-next : goal.returns-in-None-fields_of-clause-next
returns-in-None-fields_of-clause-next c = (
  refl,
  λ later. no_entry c.args.self.now c.args.line.now later c.in-Some.version c.in-Some.is (sym c.in-None-fields_of.ensures),
)
