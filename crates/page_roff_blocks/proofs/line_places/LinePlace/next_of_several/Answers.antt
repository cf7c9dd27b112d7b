use Rattle.std.proofs.Common.{false, ◌≤◌, length, ◌∷◌, ap, sym, ◌∙◌}
use Rattle.page_roff_blocks.specs.machine.Steps.{place_after, parts_at}
use Rattle.page_roff_blocks.proofs.LinePartLemmas.{slice_ends, slice_parts, place_within}
use Rattle.page_roff_blocks.proofs.line_places.LinePlace.next_of_several.Goals as goal

pub place_after-self-requires : goal.place_after-self-requires
place_after-self-requires c =
    let start = c.in-Some.start in
    let within : start ≤ length c.args.line.now = rw c.in-Some.is at c.requires.within in
    rw (ap (λ part. part.rest) c.part_of-part.ensures.value) (slice_ends start c.args.line.now within)

pub returns-in-Some-clause-next : goal.returns-in-Some-clause-next
returns-in-Some-clause-next c =
    let line = c.args.line.now in
    let start = c.in-Some.start in
    let within : start ≤ length line = rw c.in-Some.is at c.requires.within in
    let part = c.part_of-part.ensures.value in
    rw (c.requires.several, c.if-self.false, c.in-Some.is, c.place_after-self.ensures) (
    slice_parts start line within
    ∙ ap (λ part. part.line_part ∷ parts_at line (record { is_whole = false; is_end = part.is_end; rest = place_after line part.rest })) (sym part)
    )

pub returns-in-Some-clause-within : goal.returns-in-Some-clause-within
returns-in-Some-clause-within c = rw c.place_after-self.ensures (place_within c.args.line.now _)
