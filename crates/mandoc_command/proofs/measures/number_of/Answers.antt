use Rattle.std.proofs.Common.{rules, arith, ◌∙◌, ◌≡◌, ◌<◌, ◌≤◌, length, true}
use Rattle.std.specs.List.{list_all}
use Rattle.std.specs.Char.{is_ascii_digit}
use Rattle.mandoc_command.proofs.LineLemmas.{number_of-digits}
use Rattle.mandoc_command.proofs.measures.number_of.Goals as goal

pub returns : goal.returns
returns c =
    let digits : list_all is_ascii_digit c.args.digits.now ≡ true = search rules in
    let some : 0 < length c.args.digits.now = grind arith in
    let few : length c.args.digits.now ≤ 9 = omega arith in
    c.ok.ensures.value ∙ number_of-digits c.args.digits.now c.parse.result c.parse.ensures.value.0 digits some few
