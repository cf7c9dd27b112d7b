use Rattle.std.proofs.Common.{◌≡◌, List, [], Bool, Result, Ok, Err, MatchResult, refl}
use Rattle.page_core_base.specs.Rows.{LaidRow}
use Rattle.page_core_base.specs.declared.faults.Fault.{Fault}
use Rattle.page_engine.specs.Page.{shown_rows}
use Rattle.page_engine.specs.laws.Views.{shown_rows-nil}
use Rattle.page_engine.proofs.shown.ShownRowSink.put_out.Goals as goal

-- what waits is put out, be it shown or not
put : {R : Type 0} (rg rw_ : R → List LaidRow → R → Type 0) (res : Result (Unit {0}) Fault) (r r' : R) (silent : Bool)
    → MatchResult res (λ _. rg r [] r') (λ _. rw_ r [] r')
    → MatchResult res (λ _. rg r (shown_rows silent []) r' × (silent ≡ silent)) (λ _. rw_ r (shown_rows silent []) r')
put rg rw_ (Ok x) r r' silent g = (rw shown_rows-nil g, refl)
put rg rw_ (Err x) r r' silent g = rw shown_rows-nil g

pub returns-clause-gives : goal.returns-clause-gives
returns-clause-gives g c = put g.R.RowSink.gave g.R.RowSink.within c.put_out.result _ _ _ c.put_out.ensures.gives
