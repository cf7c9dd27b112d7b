use Rattle.std.proofs.Common.{ℕ, length, ◌≤◌}
use Rattle.std.specs.Str.Chunks.{utf8_chunks_rest}
use Rattle.page_core_streams.specs.laws.Views.{GrowsUpTo}
use Rattle.mandoc_programs.specs.Searches.{shown_parts}
use Rattle.mandoc_programs.proofs.shown_rows.put_parts.Given as goal

abbrev pub invariant-loop-part : goal.invariant-loop-part
invariant-loop-part g l = (most : ℕ) × (length (utf8_chunks_rest l.part-iterator) ≤ most)
    × GrowsUpTo (g.W.Target.contents l.fn.out) (g.W.Target.contents l.out) (shown_parts (length l.name) l.name) (shown_parts most (utf8_chunks_rest l.part-iterator))
