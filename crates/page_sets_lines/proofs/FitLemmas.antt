-- The arguments of a line are in it: helpers of proofs.
use Rattle.std.proofs.Common.{◌≡◌, ℕ, ◌+◌, ◌≤◌, List, [], ◌∷◌, length}
use Rattle.page_core_base.specs.declared.limits.TheConstants.{LINE}
use Rattle.page_roff_syntax.specs.declared.quotes.Argument.{Argument}
use Rattle.page_sets_lines.specs.Lines.{arguments_after, first_of}
use Rattle.page_sets_lines.specs.laws.Views.{ArgumentFits, GivenFits}
use Rattle.page_sets_lines.proofs.ArgumentLaws.{ArgumentsFrom, all_after, argument_fits}

first_fits : (line : List ℕ) (from : ℕ) (arguments : List (Argument (List ℕ))) → length line ≤ LINE → ArgumentsFrom line from arguments
    → GivenFits (first_of arguments)
first_fits line from [] short are = tt
first_fits line from (argument ∷ arguments) short are = argument_fits line argument short are.1

-- the first argument after this many bytes
pub first_after_fits : (line : List ℕ) (start : ℕ) → length line ≤ LINE → GivenFits (first_of (arguments_after start line))
first_after_fits line start short = first_fits line (start + 1) (arguments_after start line) short (all_after line start)

pub read_fits : (line : List ℕ) (start : ℕ) (argument : Argument (List ℕ)) (others : List (Argument (List ℕ))) → length line ≤ LINE
    → arguments_after start line ≡ argument ∷ others → ArgumentFits argument
read_fits line start argument others short is = rw is at (first_after_fits line start short)
