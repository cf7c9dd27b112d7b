use Rattle.std.proofs.Common.{◌∙◌, codes}
use Rattle.clap.specs.Words.{found_of}
use Rattle.clap.proofs.WalkLemmas.{first_value-rows}
use Rattle.mandoc_command.specs.Line.{values_in}
use Rattle.mandoc_command.proofs.given.Given.in_matches.Goals as goal

pub returns : goal.returns
unfolding values_in
returns c =
    let found = found_of c.args.matches.now in
    let output = c.get_str.ensures ∙ first_value-rows found (codes "output") in
    let level = c.get_str-2.ensures ∙ first_value-rows found (codes "level") in
    let measures = c.get_str-3.ensures ∙ first_value-rows found (codes "measures") in
    let encoding = c.get_str-4.ensures ∙ first_value-rows found (codes "encoding") in
    let system = c.get_str-5.ensures ∙ first_value-rows found (codes "system") in
    let language = c.get_str-6.ensures ∙ first_value-rows found (codes "language") in
    λ at. record { output = output at; level = level at; measures = measures at; encoding = encoding at; system = system at; language = language at }
