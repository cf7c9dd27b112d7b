use Rattle.std.proofs.Common.{◌≡◌, ◌==◌, ◌&&◌, drop}
use Rattle.std.specs.List.{list_all}
use Rattle.page_core_streams.proofs.ascii_rows.are_spaces.Given as goal

abbrev pub invariant-loop-c : goal.invariant-loop-c
invariant-loop-c l = list_all (λ c. c == 32) l.text ≡ (l.all && list_all (λ c. c == 32) (drop l.c-index l.text))
