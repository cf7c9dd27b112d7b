use Rattle.std.proofs.Common.{◌≡◌, ℕ, List, Option, None, Some, false, ap, arith}
use Rattle.std.specs.Prelude.{is_some}
use Rattle.page_roff_syntax.specs.laws.Views.{argument_view}
use Rattle.page_roff_syntax.specs.declared.quotes.Argument.{Argument}
use Rattle.page_sets_lines.specs.declared.events.Role.TheVariants.{Name}
use Rattle.page_scopes_phrases.specs.Names.{kept_of, named}
use Rattle.page_scopes_phrases.specs.declared.kept_texts.KeptText.{KeptText}
use Rattle.page_scopes_phrases.proofs.manual_names.keep_word.Goals as goal

named_first : (column : ℕ) (argument : Argument (List ℕ)) (kept : KeptText) (name : Option KeptText) → is_some name ≡ false → kept ≡ kept_of argument
    → Some kept ≡ named (Name column) argument name
named_first column argument kept None none is = ap Some is
named_first column argument kept (Some name) none is = grind (arith, none)

pub returns-then-is_none-clause-name : goal.returns-then-is_none-clause-name
returns-then-is_none-clause-name g c = named_first c.args.place.column (argument_view c.args.argument) _ _ (rw c.if-is_none.true at c.is_none.ensures) c.of.ensures
