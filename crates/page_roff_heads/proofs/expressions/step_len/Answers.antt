use Rattle.std.proofs.Common.{◌≡◌, ◌+◌, drop, get_or, sym, ◌∙◌, arith, length-drop}
use Rattle.std.proofs.lemmas.List.{take_rest}
use Rattle.page_roff_heads.specs.Conditions.{argument_len}
use Rattle.page_roff_heads.proofs.Ahead.{expression_byte, expression_pair, lone_argument}
use Rattle.page_roff_heads.proofs.expressions.step_len.Goals as goal

pub returns-then-text-at-ne92 : goal.returns-then-text-at-ne92
returns-then-text-at-ne92 c =
    let text = c.args.text.now in
    let at = c.args.at in
    let below = c.requires.within in
    (omega arith, omega (arith, below), expression_byte text at (omega (arith, below)) (sym c.is_white.ensures ∙ c.if-is_white.false) c.if-text-at-ne92.true)

pub returns-then-is_lone : goal.returns-then-is_lone
returns-then-is_lone c =
    let text = c.args.text.now in
    let at = c.args.at in
    let below = c.requires.within in
    let none : 0 ≡ argument_len (get_or text (at + 1) 0) (drop (at + 2) text) = lone_argument (get_or text (at + 1) 0) (drop (at + 2) text) (c.requires.lone c.if-is_lone.true) in (
      omega arith,
      omega (arith, below),
      expression_pair text at 0 (omega (arith, below)) (sym c.is_white.ensures ∙ c.if-is_white.false) c.if-text-at-ne92.false c.if-text-at-eq123.false none (omega arith),
    )

pub returns : goal.returns
returns c =
    let text = c.args.text.now in
    let at = c.args.at in
    let below = c.requires.within in
    let value = rw (take_rest text (at + 2)) at c.argument_len.ensures.value in
    let within = rw (take_rest text (at + 2)) at c.argument_len.ensures.within in (
      omega arith,
      omega (arith, below, within, length-drop (at + 2) text),
      expression_pair text at c.argument_len.result (omega (arith, below)) (sym c.is_white.ensures ∙ c.if-is_white.false) c.if-text-at-ne92.false c.if-text-at-eq123.false value within,
    )
