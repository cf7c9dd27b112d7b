use Rattle.page_roff_lines.specs.laws.Cutting.{line_of}
use Rattle.page_engine_records.specs.machine.NameTexts.{front_of}
use Rattle.page_engine_records.proofs.NameLemmas.{line_taken}
use Rattle.page_engine_records.proofs.fronts.PageFront.read_line.Goals as goal

pub returns-in-Ok-clause-front : goal.returns-in-Ok-clause-front
returns-in-Ok-clause-front c =
    let e = c.in-Ok.ensures in
    let r = c.read_text in
    line_taken (front_of c.args.self.now) (line_of c.args.cutter.now.point) r.new.self.lines r.new.self.name c.line.new.notes c.in-Ok.number c.in-Ok.text.now
    c.requires.idle c.requires.inside e.text e.number e.gives r.ensures.lines r.ensures.name
