use Rattle.page_engine_lines.proofs.bodies.Body.caps_law.Goals as goal

pub returns : goal.returns
returns c =
    rw (← c.self.view_is) record {
      fields = record {
        title = rw c.text.ensures.text at c.text.ensures.within;
        section = rw c.text-2.ensures.text at c.text-2.ensures.within;
        date = rw c.text-3.ensures.text at c.text-3.ensures.within;
        source = rw c.text-4.ensures.text at c.text-4.ensures.within;
        volume = rw c.text-5.ensures.text at c.text-5.ensures.within;
      };
      os = rw c.as_str.ensures.value at c.as_str.ensures.fits;
      scopes = c.caps_law.ensures;
    }
