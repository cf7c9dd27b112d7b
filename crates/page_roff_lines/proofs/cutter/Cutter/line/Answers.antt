use Rattle.std.proofs.Common.{refl, ap, ◌∙◌}
use Rattle.page_roff_lines.specs.Lines.{decode_line}
use Rattle.page_roff_lines.specs.laws.Cutting.{Point}
use Rattle.page_roff_lines.proofs.cutter.Cutter.line.Goals as goal

pub returns : goal.returns
unfolding decode_line
returns g c =
    let p = c.in_ok-prepare.ensures in (
      (refl, λ _. tt, (p.point, p.ready)),
      record {
        text = c.text_and_number.ensures.text ∙ p.text;
        number = c.text_and_number.ensures.number ∙ ap (λ (p : Point). p.line.number) p.point;
        line = rw c.text_and_number.ensures.text p.line;
        gives = p.gives;
        fault = p.fault;
        same = p.same;
        after = tt;
      },
    )
