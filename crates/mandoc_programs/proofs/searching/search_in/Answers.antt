use Rattle.std.proofs.Common.{ℕ, List, refl, inl, inr, ◌∙◌, subst}
use Rattle.mandoc_command.specs.Line.{searches_of}
use Rattle.mandoc_formats.specs.Formats.{HasFailed, IsFound}
use Rattle.mandoc_formats.proofs.Turns.{reported}
use Rattle.mandoc_programs.specs.Searches.{Searched, asked_by, index_causes, index_in}
use Rattle.mandoc_programs.proofs.searching.search_in.Goals as goal

pub returns-in-Ok : goal.returns-in-Ok
returns-in-Ok g c =
    let f = c.search_named.ensures in
    let finds = g.R.Finds.finds c.args.rt.now in
    let failed = HasFailed g.V.Target.counts g.V.Target.failures in
    let why = index_causes g.R.File.Input.counts g.W.Target.counts g.R.File.Input.state g.W.Target.failures in
    let asked = asked_by (searches_of c.args.asked.now) in
    let shown = c.as_str-in-Ok.result.now in
    let named = subst (λ (n : List ℕ). IsFound finds failed (Searched failed why asked shown) n shown f.0) (c.as_str.ensures.value ∙ c.in-Ok.ensures.0) f.1 in
    let is = subst (λ (s : List ℕ). IsFound finds failed (Searched failed why asked s) (index_in c.args.dir.now) s f.0) (c.as_str-in-Ok.ensures.value ∙ c.in-Ok.ensures.1) named in
    (f.0, inr is, f.2, f.3, f.4, f.5)

pub returns-in-Err : goal.returns-in-Err
returns-in-Err g c =
    let r = c.report_fault_at in
    let line = r.ensures.line in
    reported _ r.result _ _ _ _ _ _ line
    (inl (record { out = refl; err = line.told; status = r.ensures.status; goes_on = r.ensures.stops })) r.ensures.status
