use Rattle.std.proofs.Common.{append_assoc}
use Rattle.page_engine_header.proofs.PrintingLemmas.{name_items}
use Rattle.page_engine_header.proofs.parts.give_name.Goals as goal

pub returns : goal.returns
returns g c = λ plan rest h.
    let f = c.give_text-fonts.ensures in
    let s = c.give_text-fonts-2.ensures in
    let n = name_items c.args.output c.args.place c.args.title.now c.args.section.now _ _ f.fonts s.fonts in
    let a = c.give_char.ensures plan _ (f.came plan _ (rw (n, append_assoc) at h)) in
    c.give_char-2.ensures plan _ (s.came plan _ (rw append_assoc at a))
