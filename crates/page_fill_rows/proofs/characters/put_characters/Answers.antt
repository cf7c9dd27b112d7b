use Rattle.std.proofs.Common.{append_assoc, refl, ap, sym, ◌∙◌}
use Rattle.std.specs.Str.Iter.{chars_rest}
use Rattle.std.proofs.lemmas.Str.{IsUtf8-past_char}
use Rattle.page_fill_rows.proofs.CharacterLemmas.{characters-more, characters-done}
use Rattle.page_fill_rows.proofs.characters.put_characters.Goals as goal

pub loop-c-init : goal.loop-c-init
loop-c-init g c =
    let same = ap chars_rest c.into_iter-c-iterator.ensures.into_iter_gives ∙ c.chars-c-items.ensures.rest in
    rw same ((λ plan rows notes h. h), refl, c.utf8.text)

pub loop-c-preserved : goal.loop-c-preserved
loop-c-preserved g c =
    let l = c.loop-c in
    let i = l.invariant in
    let parts = c.in-Some.ensures.steps.0 in
    let more = characters-more c.args.output l.row _ _ c.in-Some.c c.args.font c.args.place i.2 parts in
    rw c.put_character.ensures.1 (
      (λ plan rows notes h. c.put_character.ensures.0 plan _ _ (rw (more, append_assoc, append_assoc) at (i.0 plan rows notes h))),
      sym (ap (λ m. m.edge) more) ∙ i.1,
      IsUtf8-past_char _ _ c.in-Some.c i.2 parts,
    )

pub returns : goal.returns
returns g c =
    let l = c.loop-c in
    let done = characters-done c.args.output l.row _ c.args.font c.args.place c.in-None.ensures.steps.0.0 in
    ((λ plan rows notes h. rw done at (l.invariant.0 plan rows notes h)), rw done at l.invariant.1)
