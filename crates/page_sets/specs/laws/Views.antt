-- What contracts of the code say by the definitions, and what is proved of these.
use Rattle.std.specs.Prelude.{List, ℕ, ◌+◌, ◌*◌, ◌≤◌, length}
use Rattle.page_core_base.specs.Texts.{TakenLine}
use Rattle.page_sets_lines.specs.declared.events.Event.{Event}
use Rattle.page_sets.specs.Mdoc.{either_events}
use Rattle.page_sets.specs.machine.ManLaws.{HasOwnSlices, HoldsAt, IsLawful, slices_hold, man_lawful}
use Rattle.page_sets.specs.machine.MdocLaws.{mdoc_lawful}
use Rattle.page_sets.specs.declared.either.Either.{Either}
use Rattle.page_sets.specs.declared.either.Either.TheVariants.{Man, Mdoc}

-- ---- the laws of macro sets

pub either_lawful : (IsSo : Event (List ℕ) → Type 0) (set : Either) (line : TakenLine) → HoldsAt IsSo line → IsLawful IsSo line (either_events set line)
either_lawful IsSo Man line h = man_lawful IsSo line h
either_lawful IsSo Mdoc line h = mdoc_lawful IsSo line h

pub either_laws : (set : Either) (line : TakenLine) → IsLawful (HasOwnSlices line) line (either_events set line)
either_laws set line = either_lawful (HasOwnSlices line) set line (slices_hold line)

pub either_few : (set : Either) (line : TakenLine) → length (either_events set line) ≤ 2 * length line.text + 2
either_few set line = (either_laws set line).few
