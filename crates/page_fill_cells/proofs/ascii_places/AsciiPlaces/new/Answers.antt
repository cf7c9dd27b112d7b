use Rattle.std.proofs.Common.{◌≡◌, ℕ, length, replicate, refl, sym, ap, ◌∙◌}
use Rattle.std.proofs.lemmas.List.{length-replicate}
use Rattle.page_core_base.specs.declared.cells.Font.{Font}
use Rattle.page_core_base.specs.declared.cells.Font.TheVariants.{R}
use Rattle.page_core_base.specs.laws.Views.{is_printable, is_printable_ascii}
use Rattle.page_fill_cells.proofs.PlaceLemmas.{in-length, same-passes}
use Rattle.page_fill_cells.proofs.ascii_places.AsciiPlaces.new.Goals as goal

pub invariant_of-result : goal.invariant_of-result
invariant_of-result c =
    let b : c.resize.new.self.items ≡ replicate {A = ℕ} 4096 32 = c.in_ok-resize.ensures.items ∙ rw (c.in_ok-bytes.ensures.items, c.in_ok-bytes.ensures.len) refl in
    let f : c.resize-2.new.self.items ≡ replicate {A = Font} 4096 R = c.in_ok-resize-2.ensures.items ∙ rw (c.in_ok-fonts.ensures.items, c.in_ok-fonts.ensures.len) refl in
    (ap length b ∙ length-replicate {A = ℕ} 4096 32, ap length f ∙ length-replicate {A = Font} 4096 R, ap is_printable_ascii b ∙ same-passes is_printable 4096 32 refl)

pub returns : goal.returns
returns c =
    let b : c.resize.new.self.items ≡ replicate {A = ℕ} 4096 32 = c.in_ok-resize.ensures.items ∙ rw (c.in_ok-bytes.ensures.items, c.in_ok-bytes.ensures.len) refl in
    let f : c.resize-2.new.self.items ≡ replicate {A = Font} 4096 R = c.in_ok-resize-2.ensures.items ∙ rw (c.in_ok-fonts.ensures.items, c.in_ok-fonts.ensures.len) refl in
    let lb : length c.resize.new.self.items ≡ 4096 = ap length b ∙ length-replicate {A = ℕ} 4096 32 in
    let lf : length c.resize-2.new.self.items ≡ 4096 = ap length f ∙ length-replicate {A = Font} 4096 R in
    in-length c.resize.new.self.items c.resize-2.new.self.items (lf ∙ sym lb) ∙ lb
