use Rattle.std.proofs.Common.{◌≡◌, ◌+◌, ◌≤◌, ◌++◌, length, map}
use Rattle.page_core_escapes.specs.Tokens.{tokens_len}
use Rattle.page_scopes_phrases.specs.machine.NameParts as names
use Rattle.page_scopes_phrases.proofs.kept_names.parts_of.Given as goal

abbrev pub invariant-loop-token : goal.invariant-loop-token
invariant-loop-token l = record {
  known : l.parts.items ++ map names.part_of l.tokens ≡ names.parts_of l.text;
  within : length l.parts.items + tokens_len l.tokens ≤ 256;
}

abbrev pub decreases-loop-token : goal.decreases-loop-token
decreases-loop-token l = length l.tokens
