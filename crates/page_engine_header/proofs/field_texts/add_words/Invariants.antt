use Rattle.std.proofs.Common.{◌≡◌, ◌≤◌, ◌+◌, ◌++◌, length}
use Rattle.page_engine_header.specs.Header.{words_text}
use Rattle.page_engine_header.proofs.field_texts.add_words.Given as goal

abbrev pub invariant-loop-argument : goal.invariant-loop-argument
invariant-loop-argument l =
    (l.kept.items ++ words_text l.room l.arguments ≡ l.fn.kept.items ++ words_text l.fn.room l.fn.arguments)
    × (length l.kept.items + l.room ≤ 256)

abbrev pub decreases-loop-argument : goal.decreases-loop-argument
decreases-loop-argument l = length l.arguments
