use Rattle.std.proofs.Common.{sym, subst, arith}
use Rattle.std.specs.Str.{IsCharBoundary}
use Rattle.page_core_escapes.specs.laws.Views.{HasTexts}
use Rattle.page_core_escapes.proofs.Boundaries.{escape_cuts, escape_has_texts}
use Rattle.page_core_escapes.proofs.escape.Goals as goal

pub returns-clause-whole_characters : goal.returns-clause-whole_characters
returns-clause-whole_characters c = λ utf8.
    subst (λ n. IsCharBoundary c.args.text.now n) (sym c.read_escape.ensures.len) (escape_cuts c.args.text.now utf8 (omega (arith, c.requires.backslash)))

pub returns-clause-texts : goal.returns-clause-texts
returns-clause-texts c = λ utf8.
    subst (λ m. HasTexts m) (sym c.read_escape.ensures.meaning) (escape_has_texts c.args.text.now utf8 (omega (arith, c.requires.backslash)))
