use Rattle.std.proofs.Common.{[], Err, refl, inl, inr}
use Rattle.page_core_base.specs.declared.faults.Fault.TheVariants.{Memory, WriteText}
use Rattle.page_core_streams.specs.laws.Views.{Grows-nil, Grows-append}
use Rattle.mandoc_programs.proofs.indexing.put_index.Goals as goal

pub returns-in-Ok-Some : goal.returns-in-Ok-Some
returns-in-Ok-Some g c = let h = c.finish_index.ensures in (h.0, h.1, h.2, h.3, Grows-append _ _ _ [] _ c.begin.ensures.same h.4)

pub returns-in-Ok-None : goal.returns-in-Ok-None
returns-in-Ok-None g c = (
  record { out = []; err = []; end = Err WriteText },
  inr (inr (record { out = refl; err = inl refl; ended = refl })),
  inl refl,
  Grows-nil _,
  c.begin.ensures.same,
)

pub returns-in-Err : goal.returns-in-Err
returns-in-Err g c = (
  record { out = []; err = []; end = Err Memory },
  inr (inl (record { out = refl; err = inl refl; ended = refl })),
  inl refl,
  Grows-nil _,
  c.begin.ensures.same,
)
