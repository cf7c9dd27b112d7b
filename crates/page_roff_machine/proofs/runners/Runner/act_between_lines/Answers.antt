use Rattle.std.proofs.Common.{ap, ◌∙◌}
use Rattle.page_roff_blocks.specs.Forest.{Levels}
use Rattle.page_roff_machine.proofs.ActLemmas.{room, region_line_there, region_passed, decides_region_line, decides_region_end, decides_source_end, decides_turn, decides_last_turn}
use Rattle.page_roff_syntax.specs.laws.Views.{opened_view}
use Rattle.page_roff_machine.proofs.runners.Runner.act_between_lines.Goals as goal

pub end_region-requires : goal.end_region-requires
end_region-requires g c =
    let w = c.in-RegionLine-default-default-true in
    rw c.is_page-is_page.ensures (room c.args.self.now c.requires.sound (region_line_there c.args.self.now.stack w.region.now w.line.now w.is_end w.ensures.value))

pub read_line-requires-clause-room : goal.read_line-requires-clause-room
read_line-requires-clause-room g c =
    let w = c.in-RegionLine-default-default-false in
    rw c.is_page-is_page.ensures (room c.args.self.now c.requires.sound (region_line_there c.args.self.now.stack w.region.now w.line.now w.is_end w.ensures.value))

pub read_line-requires-clause-passed : goal.read_line-requires-clause-passed
read_line-requires-clause-passed g c =
    let in_loop = c.in_loop-in_loop.ensures ∙ ap (λ (l : Levels). l.in_loop) c.levels.ensures.value in
    let w = c.in-RegionLine-default-default-false in
    region_passed c.args.self.now w.region.now w.line.now w.is_end c.in_loop-in_loop.result w.ensures.value in_loop c.requires.sound

pub returns-in-RegionLine-default-default-true : goal.returns-in-RegionLine-default-default-true
returns-in-RegionLine-default-default-true g c =
    let in_loop = c.in_loop-in_loop.ensures ∙ ap (λ (l : Levels). l.in_loop) c.levels.ensures.value in
    let w = c.in-RegionLine-default-default-true in
    decides_region_end g.O.NoteOut.left c.args.self.now c.end_region.new.self c.args.out.now c.end_region.new.out w.region.now w.line.now c.is_page-is_page.result c.in_loop-in_loop.result
    (rw w.is_end-test at w.ensures.value) c.is_page-is_page.ensures in_loop c.requires.sound.setting c.end_region.ensures

pub returns-in-RegionLine-default-default-false : goal.returns-in-RegionLine-default-default-false
returns-in-RegionLine-default-default-false g c =
    let in_loop = c.in_loop-in_loop.ensures ∙ ap (λ (l : Levels). l.in_loop) c.levels.ensures.value in
    let w = c.in-RegionLine-default-default-false in
    decides_region_line g.O.NoteOut.left c.args.self.now c.read_line.new.self c.args.out.now c.read_line.new.out w.region.now w.line.now c.is_page-is_page.result c.in_loop-in_loop.result c.read_line.result
    (rw w.is_end-test at w.ensures.value) c.is_page-is_page.ensures in_loop c.requires.sound.setting c.read_line.ensures

pub returns-then-turn : goal.returns-then-turn
returns-then-turn g c =
    let in_loop = c.in_loop-in_loop.ensures ∙ ap (λ (l : Levels). l.in_loop) c.levels.ensures.value in
    let w = c.in-Turn in
    decides_turn g.O.NoteOut.left c.args.self.now c.finish.new.self c.turn.new.self c.args.out.now c.finish.new.out c.turn.new.out (opened_view w.region) w.has_begun c.in_loop-in_loop.result w.condition.now
    w.ensures.value in_loop c.requires.sound c.finish.ensures (rw c.if-turn.true at c.turn.ensures)

pub returns-else-turn : goal.returns-else-turn
returns-else-turn g c =
    let in_loop = c.in_loop-in_loop.ensures ∙ ap (λ (l : Levels). l.in_loop) c.levels.ensures.value in
    let w = c.in-Turn in
    decides_last_turn g.O.NoteOut.left c.args.self.now c.finish.new.self c.turn.new.self c.args.out.now c.finish.new.out c.turn.new.out (opened_view w.region) w.has_begun c.in_loop-in_loop.result w.condition.now
    w.ensures.value in_loop c.requires.sound c.finish.ensures (rw c.if-turn.false at c.turn.ensures)

pub returns-in-SourceEnd : goal.returns-in-SourceEnd
returns-in-SourceEnd g c =
    let in_loop = c.in_loop-in_loop.ensures ∙ ap (λ (l : Levels). l.in_loop) c.levels.ensures.value in
    let w = c.in-SourceEnd in
    decides_source_end g.O.NoteOut.left c.args.self.now c.finish-in-SourceEnd.new.self c.args.out.now c.finish-in-SourceEnd.new.out (opened_view w.region) w.has_begun c.in_loop-in_loop.result
    w.ensures.value in_loop c.requires.sound.setting c.finish-in-SourceEnd.ensures
