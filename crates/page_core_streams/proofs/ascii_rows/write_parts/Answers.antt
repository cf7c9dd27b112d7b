use Rattle.std.proofs.Common.{◌≡◌, true, ◌++◌, ◌+◌, ◌-◌, ◌∙◌, take, drop, sym, ap, append_assoc, arith}
use Rattle.std.specs.List.{flat_map, list_all}
use Rattle.std.proofs.lemmas.List.{take_rest}
use Rattle.page_core_base.specs.laws.Views.{cells_in}
use Rattle.page_core_streams.specs.machine.PlainCells.{is_roman}
use Rattle.page_core_streams.specs.Streams.{cell_bytes_of}
use Rattle.page_core_streams.proofs.AsciiLemmas.{ascii-front, ascii-back, bytes-parts, part-more, roman-part}
use Rattle.page_core_streams.proofs.ascii_rows.write_parts.Goals as goal

pub write_each-end-requires-clause-ascii : goal.write_each-end-requires-clause-ascii
write_each-end-requires-clause-ascii c =
    let i = c.loop-i.i in
    let count : i + 4 - i ≡ 4 = omega arith in
    rw count (ascii-front (drop i c.args.text.now) (drop i c.args.fonts.now) _ 4 (ascii-back c.args.text.now c.args.fonts.now _ i c.requires.ascii))

pub loop-i-preserved-then-are_roman : goal.loop-i-preserved-then-are_roman
loop-i-preserved-then-are_roman c =
    let l = c.loop-i in
    let text = c.args.text.now in
    let fonts = c.args.fonts.now in
    let count : l.i + 4 - l.i ≡ 4 = omega arith in
    let roman : list_all is_roman (take 4 (drop l.i fonts)) ≡ true = rw count at (sym c.are_roman.ensures ∙ c.if-are_roman.true) in
    let same = roman-part (drop l.i text) (drop l.i fonts) 4 (ascii-back text fonts _ l.i c.requires.ascii) roman in
    let e = c.write_roman-end.ensures in
    let front = (rw count at e.front) ∙ ap (λ bytes. take l.end l.bytes ++ bytes) (sym same) in (
      omega (arith, c.loop-i-test.true),
      omega (arith, e.end, l.invariant.1),
      part-more (take c.args.start c.args.bytes.now) (take l.end l.bytes) _ text fonts l.i 4 l.invariant.2 front,
    )

pub loop-i-preserved : goal.loop-i-preserved
loop-i-preserved c =
    let l = c.loop-i in
    let count : l.i + 4 - l.i ≡ 4 = omega arith in
    let e = c.write_each-end.ensures in (
      omega (arith, c.loop-i-test.true),
      omega (arith, e.end, l.invariant.1),
      part-more (take c.args.start c.args.bytes.now) (take l.end l.bytes) _ c.args.text.now c.args.fonts.now l.i 4 l.invariant.2 (rw count at e.front),
    )

pub write_each-requires-clause-ascii : goal.write_each-requires-clause-ascii
write_each-requires-clause-ascii c =
    let i = c.loop-i.i in
    rw (take_rest c.args.text.now i, take_rest c.args.fonts.now i) (ascii-back c.args.text.now c.args.fonts.now _ i c.requires.ascii)

pub returns-clause-front : goal.returns-clause-front
returns-clause-front c =
    let l = c.loop-i in
    let text = c.args.text.now in
    let fonts = c.args.fonts.now in
    let front = take c.args.start c.args.bytes.now in
    let before = flat_map cell_bytes_of (cells_in (take l.i text) (take l.i fonts)) in
    let rest = flat_map cell_bytes_of (cells_in (drop l.i text) (drop l.i fonts)) in
    (rw (take_rest text l.i, take_rest fonts l.i) at c.write_each.ensures.front)
    ∙ (ap (λ bytes. bytes ++ rest) l.invariant.2
    ∙ (append_assoc front before rest ∙ ap (λ bytes. front ++ bytes) (sym (bytes-parts text fonts l.i))))
