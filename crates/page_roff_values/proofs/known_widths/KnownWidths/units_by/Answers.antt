use Rattle.std.proofs.Common.{rules, ◌≡◌}
use Rattle.page_core_numbers.specs.machine.Signs.{Left}
use Rattle.page_roff_values.specs.machine.Held.{units_of_text}
use Rattle.page_roff_values.proofs.ArgumentLemmas.{units_alike}
use Rattle.page_roff_values.proofs.known_widths.KnownWidths.units_by.Goals as goal

pub returns : goal.returns
returns c =
    let front = c.in_ok-front.front in
    let known = c.in_ok-known.known in
    let output = c.args.width.output in
    let same : known.rest.now ≡ front.rest.now = search rules in
    let left : Left output c.text_of.result.now known.columns front.rest.now = rw same at c.in_ok-known.ensures.columns in
    let units : c.args.width.units ≡ units_of_text output c.text_of.result.now = rw c.text_of.ensures (rw c.requires.known.4 at c.requires.known.2) in
    (units_alike output c.args.text.now c.text_of.result.now front.rest.now front.columns known.columns c.args.width.units (rw c.as_bytes-2.ensures.value at c.as_bytes-2.ensures.utf8) c.in_ok-front.ensures.columns left units).1
