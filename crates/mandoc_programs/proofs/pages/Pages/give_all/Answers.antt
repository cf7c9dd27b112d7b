use Rattle.std.proofs.Common.{◌++◌, Result, refl, sym, subst}
use Rattle.page_core_base.specs.declared.faults.Fault.{Fault}
use Rattle.page_core_streams.specs.laws.Views.{Grows-append}
use Rattle.mandoc_programs.specs.declared.pages.Tally.{Tally}
use Rattle.mandoc_formats.specs.Formats.{HasFailed, Told, shown}
use Rattle.mandoc_programs.specs.Indexes.{compressed_in}
use Rattle.mandoc_programs.proofs.pages.Pages.give_all.Goals as goal

pub returns : goal.returns
returns g c =
    let h = c.give_folders-given.ensures in
    let line = c.report_compressed.ensures in
    let dir = shown c.args.self.now.dir.now in
    let is_line = subst (λ (end : Result Tally Fault). Told (HasFailed g.V.Target.counts g.V.Target.failures) line.part (compressed_in dir end)) (sym h.4) line.told in (
      record { out = h.0.out; err = h.0.err ++ line.part; end = h.0.end },
      record { pages = h.0; are = h.1; line = line.part; is_line = is_line; out = refl; err = refl; end = refl },
      h.2,
      Grows-append _ _ _ h.0.err line.part h.3 line.grows,
      h.4,
    )
