use Rattle.std.proofs.Common.{map, nat_cmp}
use Rattle.std.specs.Prelude.{string_bytes}
use Rattle.std.specs.Cmp.Lexicographic.{slice_cmp}
use Rattle.std.proofs.lemmas.List.Sorted.{IsPermutation-map}
use Rattle.mandoc_formats.specs.Formats.{HasFailed}
use Rattle.mandoc_programs.specs.Indexes.{IsPage, lost}
use Rattle.mandoc_programs.proofs.Parts.{sorted_map}
use Rattle.mandoc_programs.proofs.pages.Pages.give_sorted.Goals as goal

pub returns : goal.returns
returns g c path =
    let h = c.give_files.ensures in
    let sort = c.sort_unstable.ensures in
    let names = c.sort_unstable.new.self.items in
    let is = IsPage (g.R.Folders.sees c.args.self.now.files.now) (HasFailed g.V.Target.counts g.V.Target.failures) (lost c.args.self.now.form (HasFailed g.W.Target.counts g.W.Target.failures)) c.args.self.now.form c.args.self.now.dir.now c.args.folder.now in (
      h.0,
      (
        map string_bytes names,
        IsPermutation-map string_bytes c.args.names.items names sort.permutation,
        sorted_map string_bytes (slice_cmp nat_cmp) names sort.sorted,
        rw c.as_slice.ensures.value at h.1,
      ),
      h.2,
      h.3,
      h.4,
    )
