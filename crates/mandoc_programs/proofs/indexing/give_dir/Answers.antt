use Rattle.std.proofs.Common.{ℕ, List, [], refl, sym, subst}
use Rattle.page_core_streams.specs.Streams.{Grows}
use Rattle.page_core_streams.specs.laws.Views.{Grows-nil}
use Rattle.mandoc_formats.specs.Formats.{HasFailed}
use Rattle.mandoc_programs.specs.declared.pages.Form.{Form}
use Rattle.mandoc_programs.specs.Indexes.{IsDir, Makes}
use Rattle.mandoc_programs.proofs.indexing.give_dir.Goals as goal

pub returns-in-Printed-clause-came : goal.returns-in-Printed-clause-came
returns-in-Printed-clause-came g c =
    let h = c.print_dir.ensures.came in
    let end : Makes = record { done = c.print_dir.result; put = [] } in
    let is = subst (λ (f : Form). IsDir (g.R.Folders.sees c.args.pages.now.files.now) (HasFailed g.V.Target.counts g.V.Target.failures) (HasFailed g.W.Target.counts g.W.Target.failures) f c.args.pages.now.dir.now h.0) (sym c.in-Printed.is) h.1 in
    (end, (h.0, is, h.2, h.3, h.4), Grows-nil _, refl)

pub returns-in-Index-clause-came : goal.returns-in-Index-clause-came
returns-in-Index-clause-came g c =
    let h = c.make_index.ensures.came in
    let m = h.1 in
    let a = g.W.Target.contents c.args.out.now in
    let is = subst (λ (f : Form). IsDir (g.R.Folders.sees c.args.pages.now.files.now) (HasFailed g.V.Target.counts g.V.Target.failures) (HasFailed g.W.Target.counts g.W.Target.failures) f c.args.pages.now.dir.now m.0) (sym c.in-Index.is) m.1 in
    (h.0, (m.0, is, subst (λ (l : List ℕ). Grows a a l) (sym m.1.out) (Grows-nil a), m.3, m.4), h.2, h.3)
