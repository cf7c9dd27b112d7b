use Rattle.std.proofs.Common.{◌≡◌, ◌∙◌, false, sym}
use Rattle.page_roff_parts.specs.machine.Verbatim.{has_bracket}
use Rattle.page_roff_parts.proofs.FrontLemmas.{lone_escape, lone_register, lone_string, lone_width}
use Rattle.page_roff_parts.proofs.fronts.has_no_end.Goals as goal
use Rattle.page_roff_parts.proofs.fronts.has_no_end.Goals.{then-letter-eq42-via-then-letter-eq42, then-letter-eq42-via-else-letter-eq42+then-letter-eq110}

pub returns-then-is_lone : goal.returns-then-is_lone
returns-then-is_lone c = λ copy h. lone_width copy c.args.letter c.args.rest.now c.if-letter-eq119.true (c.requires.lone h)

pub returns-else-is_lone : goal.returns-else-is_lone
returns-else-is_lone c = λ copy h. lone_escape copy c.args.letter c.args.rest.now c.if-letter-eq119.true (sym c.begins_escape.ensures ∙ h)

pub returns-then-is_unclosed : goal.returns-then-is_unclosed
returns-then-is_unclosed c = λ copy h.
    let known : has_bracket c.args.rest.now ≡ false = rw c.if-is_unclosed.true at c.requires.known in
    let name = c.begins_name.ensures h in
    elim c.then-letter-eq42.branch [
      | then-letter-eq42-via-then-letter-eq42 w ↦ lone_string copy c.args.letter c.args.rest.now w.if-letter-eq42.true name.0 name.1 known
      | then-letter-eq42-via-else-letter-eq42+then-letter-eq110 w ↦ lone_register copy c.args.letter c.args.rest.now w.if-letter-eq110.true name.0 name.1 known
    ]
