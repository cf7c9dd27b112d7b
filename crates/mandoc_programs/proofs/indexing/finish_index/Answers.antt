use Rattle.std.proofs.Common.{◌≡◌, [], ◌++◌, Some, None, Result, refl, ap, ◌∙◌, subst, inl, inr}
use Rattle.std.specs.Prelude.{◌⊎◌}
use Rattle.page_core_base.specs.declared.faults.Fault.{Fault}
use Rattle.mandoc_programs.specs.declared.pages.Tally.{Tally}
use Rattle.mandoc_programs.specs.Indexes.{IsAnswered, first_line}
use Rattle.mandoc_programs.proofs.Parts.{answered_on, put_on, whole_index}
use Rattle.mandoc_programs.proofs.indexing.finish_index.Goals as goal

pub returns-in-Ok : goal.returns-in-Ok
returns-in-Ok g c =
    let h = c.in-Ok.ensures.came in
    let contents = g.P.File.Write.contents in
    let index = c.write_index-written.new.index in
    let came = rw (c.new-index.ensures.out, c.new-index.ensures.bytes) at (h.4 refl) in
    let whole = λ (e : contents c.args.file ≡ Some []). ap contents c.into_inner-file.ensures
    ∙ whole_index (contents c.args.file) (contents index.out) index.bytes.items (first_line ++ h.0.out) e c.in-Ok.ensures.empty came in
    let dir = c.args.pages.now.dir.now in
    let begun = g.P.IndexPlaces.begun c.args.places.now in
    let known : ((begun ≡ Some dir) × (contents c.into_inner-file.result ≡ Some (first_line ++ h.0.out))) ⊎ (g.P.IndexPlaces.put c.args.places.now ≡ None) =
    elim c.requires.begun [ inl e ↦ inl (e.0, whole e.1) | inr none ↦ inr none ] in (
      h.0,
      h.1,
      answered_on h.0.end c.in-Ok.tally c.put_whole.result h.2 c.put_whole.ensures.result,
      h.3,
      put_on c.put_whole.result _ _ begun dir (contents c.into_inner-file.result) h.0 c.put_whole.ensures.put known,
    )

pub returns-in-Err : goal.returns-in-Err
returns-in-Err g c =
    let h = c.write_index-written.ensures.came in
    (h.0, h.1, subst (λ (r : Result Tally Fault). IsAnswered _ h.0.end r) c.in-Err.is h.2, h.3, c.give_up.ensures)
