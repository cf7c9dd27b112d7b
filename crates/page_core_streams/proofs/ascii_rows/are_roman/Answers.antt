use Rattle.std.proofs.Common.{arith}
use Rattle.std.proofs.lemmas.Nat.{le_or_l, le_or_r}
use Rattle.page_core_streams.proofs.AsciiLemmas.{joined_none, roman-more, roman-less}
use Rattle.page_core_streams.proofs.ascii_rows.are_roman.Goals as goal

pub loop-font-preserved : goal.loop-font-preserved
loop-font-preserved c =
    let l = c.loop-font in
    let fonts = c.args.fonts.now in
    let bits = c.font_bits-bits in (
      λ none. roman-more fonts l.font-index c.loop-font-test.true (l.invariant.0 (omega (arith, le_or_l l.bits bits.result, none)))
          (bits.ensures.zero (omega (arith, le_or_r l.bits bits.result, none))),
      λ all.
          let less = roman-less fonts l.font-index c.loop-font-test.true all in
          joined_none l.bits bits.result (l.invariant.1 less.0) (bits.ensures.roman less.1),
    )
