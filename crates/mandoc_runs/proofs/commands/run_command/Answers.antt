use Rattle.mandoc_programs.proofs.Parts.{all_came, front_came}
use Rattle.mandoc_runs.proofs.commands.run_command.Goals as goal

pub returns-clause-ran : goal.returns-clause-ran
returns-clause-ran g c =
    let r = c.run_command-status.ensures in
    let h = r.came in
    let out = rw c.new-out.ensures.out at h.2 in
    let err = rw c.new-err.ensures.out at h.3 in record {
      run = h.0;
      is = h.1;
      status = h.5;
      out = rw c.into_inner.ensures (front_came _ _ _ _ _ c.new-out.ensures.bytes out);
      err = rw c.into_inner-2.ensures (front_came _ _ _ _ _ c.new-err.ensures.bytes err);
      all = λ l. rw c.into_inner.ensures (all_came _ _ _ _ _ c.new-out.ensures.bytes (r.put_out c.new-out.ensures.bytes l) out);
    }
