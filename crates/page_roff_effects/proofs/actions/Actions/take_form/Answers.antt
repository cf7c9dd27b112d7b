use Rattle.std.proofs.Common.{◌≡◌, length, ◌∙◌, sym, arith}
use Rattle.std.specs.List.{prefix_len}
use Rattle.page_roff_syntax.specs.laws.Views.{is_plain}
use Rattle.page_roff_effects.specs.machine.Acting.{measured}
use Rattle.page_roff_effects.proofs.FreeLemmas.{plain_taken}
use Rattle.page_roff_effects.proofs.actions.Actions.take_form.Goals as goal

pub returns-then-plain_len-text : goal.returns-then-plain_len-text
returns-then-plain_len-text g c =
    let line = c.args.text.now in
    let old = c.args.self.now in
    let taken = rw c.plain_form.ensures at c.take_raw.ensures in
    let plain : prefix_len is_plain line ≡ length line = omega (arith, c.plain_len.ensures.value, c.if-plain_len-text.true) in
    let text = sym c.begins_control.ensures ∙ c.if-not-begins_control.true in
    rw (plain_taken (measured old.setting) c.args.may_call line old.memory text plain c.requires)
    (record { does = record { setting = taken.setting; memory = taken.memory; came = λ plan more h. h }; kind = taken.kind; lends = taken.lends })
