use Rattle.std.proofs.Common.{rules, ◌≡◌, length, ap, ◌∙◌, length-append}
use Rattle.page_roff_values.specs.declared.known_widths.KnownWidth.{KnownWidth}
use Rattle.page_roff_values.proofs.ArgumentLemmas.{all_more, measured_last, measured_push}
use Rattle.page_roff_values.proofs.known_widths.KnownWidths.add.Goals as goal

pub invariant_of-self-clause-known : goal.invariant_of-self-clause-known
invariant_of-self-clause-known c =
    let old = c.make_room.new.self in
    let text = c.args.text.now in
    let texts = rw c.as_bytes.ensures.value at c.append.ensures.items in
    let end : c.len.result ≡ length c.append.new.text.items = search rules in
    let width : KnownWidth = record { start = c.len-start.result; end = c.len.result; output = c.args.output; units = c.args.units } in
    measured_push _ old.widths.items _ width (rw texts (all_more old.texts.items text old.widths.items old.known))
    (rw texts (measured_last old.texts.items text width (search rules) (end ∙ ap length texts ∙ length-append old.texts.items text) c.requires.line c.utf8.text c.requires.bound c.requires.units)) c.push_reserved.ensures.items
