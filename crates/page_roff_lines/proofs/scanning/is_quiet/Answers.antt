use Rattle.std.proofs.Common.{ℕ, ◌^◌, ◌/◌, ◌%◌, nat_eq, [], ◌∷◌, slice_index_or, bit_and, refl}
use Rattle.std.proofs.lemmas.Bool.{agree_below_at}
use Rattle.page_roff_lines.specs.machine.Open.{is_quiet}
use Rattle.page_roff_lines.proofs.scanning.is_quiet.Goals as goal

pub returns : goal.returns
returns c =
    agree_below_at (λ b. nat_eq (bit_and (slice_index_or {A = ℕ} (4518305595392 ∷ 2341942175245271040 ∷ 0 ∷ 0 ∷ []) (b / 64) 0 / 2 ^ (b % 64)) 1) 0)
    is_quiet 256 c.args.byte refl c.ranges.byte.fits
