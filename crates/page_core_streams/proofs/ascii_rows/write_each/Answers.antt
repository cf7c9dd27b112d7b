use Rattle.std.proofs.Common.{◌++◌, ◌∙◌, take, get_or, sym, ap, append_assoc, arith}
use Rattle.std.specs.List.{flat_map}
use Rattle.page_core_base.specs.declared.cells.Font.TheVariants.{R}
use Rattle.page_core_base.specs.laws.Views.{cells_in}
use Rattle.page_core_streams.specs.Streams.{cell_bytes_of}
use Rattle.page_core_streams.proofs.AsciiLemmas.{bytes-more}
use Rattle.page_core_streams.proofs.ascii_rows.write_each.Goals as goal

pub loop-i-preserved : goal.loop-i-preserved
loop-i-preserved c =
    let l = c.loop-i in
    let text = c.args.text.now in
    let fonts = c.args.fonts.now in
    let front = take c.args.start c.args.bytes.now in
    let before = flat_map cell_bytes_of (cells_in (take l.i text) (take l.i fonts)) in
    let one = cell_bytes_of (record { c = get_or text l.i 0; font = get_or fonts l.i R }) in
    let e = c.write_ascii-end.ensures in (
      e.front ∙ (ap (λ bytes. bytes ++ one) l.invariant.0 ∙ (append_assoc front before one
          ∙ ap (λ bytes. front ++ bytes) (sym (bytes-more text fonts l.i c.loop-i-test.true c.requires.ascii.sizes)))),
      omega (arith, e.end, l.invariant.1),
    )
