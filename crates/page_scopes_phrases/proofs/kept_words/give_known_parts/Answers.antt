use Rattle.std.proofs.Common.{◌≡◌, ◌+◌, ◌++◌, drop, false, get_or, append-nil, append_assoc, ap, sym, ◌∙◌, arith}
use Rattle.std.proofs.lemmas.List.{drop-drop, length-drop, take_rest}
use Rattle.page_core_escapes.specs.Tokens.{token_at, tokens_of}
use Rattle.page_scopes_phrases.specs.Names.{parts_items, part_items}
use Rattle.page_scopes_phrases.specs.declared.kept_names.Known.TheVariants.{Blanks, Nothing}
use Rattle.page_scopes_phrases.specs.declared.kept_names.NamePart.{NamePart}
use Rattle.page_scopes_phrases.specs.machine.NameParts.{blank_texts, token_known}
use Rattle.page_scopes_words.specs.Fonts.{fonts_after}
use Rattle.page_scopes_words.specs.Words.{blank_text}
use Rattle.page_scopes_phrases.proofs.NameLemmas.{next-part, no-part, regroup, token-blank, token-quiet}
use Rattle.page_scopes_phrases.proofs.kept_words.give_known_parts.Goals as goal
use Rattle.page_scopes_phrases.proofs.kept_words.give_known_parts.Goals.{in-Blanks, in-Nothing, in-White}

no_blank : NamePart
no_blank = record { len = 0; known = Blanks 0 }

pub token_of-token-requires : goal.token_of-token-requires
unfolding no_blank
token_of-token-requires g c =
    let l = c.loop-part in
    let text = c.args.text.now in
    let first = next-part (drop l.at text) c.args.parts.now l.part-index no_blank c.loop-part-test.true l.invariant.known in
    let len = length-drop l.at text in
    rw (take_rest text l.at) (record { known = first.known; within = first.within; line = omega (arith, len, c.requires.within) })

pub loop-part-preserved : goal.loop-part-preserved
unfolding no_blank
loop-part-preserved g c =
    let l = c.loop-part in
    let i = l.invariant in
    let part : NamePart = get_or c.args.parts.now l.part-index no_blank in
    let first = next-part (drop l.at c.args.text.now) c.args.parts.now l.part-index no_blank c.loop-part-test.true i.known in
    let token = token_at false (drop l.at c.args.text.now) in
    let next : drop part.len (drop l.at c.args.text.now) ≡ drop (l.at + part.len) c.args.text.now = drop-drop part.len l.at c.args.text.now in
    let others = tokens_of false (drop part.len (drop l.at c.args.text.now)) in
    let waiting = blank_texts l.blanks.count l.blanks.times l.fonts.value.font c.args.place in
    let len = length-drop l.at c.args.text.now in
    rw (← next) (record {
      came = elim c.match-part.branch [
        | in-Blanks w ↦ λ plan rest h.
            let known : token_known token ≡ Blanks w.in-Blanks.count = ap (λ (p : NamePart). p.known) (sym first.known) ∙ w.in-Blanks.is in
            let b = token-blank token w.in-Blanks.count known in
            let text = blank_text w.in-Blanks.count l.fonts.value.font c.args.place in
            let items = parts_items c.args.is_literal 1 c.args.place l.fonts others in
            let came : g.O.PieceOut.left plan l.out ((waiting ++ (text ++ items)) ++ rest) =
            rw (first.tokens, b.items c.args.is_literal l.gap c.args.place l.fonts.value.font, b.fonts l.fonts) at (i.came plan rest h) in
            let given = w.with-blanks.ensures.came plan (items ++ rest) (rw (regroup waiting text items rest) at came) in
            rw (w.out-is, w.fonts-is, w.blanks-is, append_assoc) given
        | in-Nothing w ↦ λ plan rest h.
            let known : token_known token ≡ Nothing = ap (λ (p : NamePart). p.known) (sym first.known) ∙ w.in-Nothing.is in
            let q = token-quiet token known in
            let items = parts_items c.args.is_literal 1 c.args.place l.fonts others in
            let came : g.O.PieceOut.left plan l.out ((waiting ++ items) ++ rest) =
            rw (first.tokens, q.items c.args.is_literal l.gap c.args.place l.fonts.value.font, q.fonts l.fonts) at (i.came plan rest h) in
            rw (w.out-is, w.fonts-is, w.blanks-is) came
        | in-White w ↦ λ plan rest h.
            let text = part_items c.args.is_literal l.gap c.args.place l.fonts.value.font token in
            let items = parts_items c.args.is_literal 1 c.args.place (fonts_after token l.fonts) others in
            let came : g.O.PieceOut.left plan l.out ((waiting ++ (text ++ items)) ++ rest) = rw first.tokens at (i.came plan rest h) in
            let regrouped : g.O.PieceOut.left plan l.out (waiting ++ (text ++ (items ++ rest))) = rw (regroup waiting text items rest, append_assoc) at came in
            let given = w.give.ensures plan (text ++ (items ++ rest)) regrouped in
            let read = rw (take_rest c.args.text.now l.at) at w.token_of-token.ensures in
            rw (w.out-is, w.fonts-is, w.blanks-is, w.fonts_after-fonts.ensures, read)
            (w.give_part.ensures plan (items ++ rest) (rw read given))
      ];
      known = first.others;
      within = omega (arith, len, i.within, first.within);
      count = elim c.match-part.branch [
        | in-Blanks w ↦
            let known : token_known token ≡ Blanks w.in-Blanks.count = ap (λ (p : NamePart). p.known) (sym first.known) ∙ w.in-Blanks.is in
            rw (w.blanks-is, w.with-blanks.ensures.count) (token-blank token w.in-Blanks.count known).within
        | in-Nothing w ↦ rw w.blanks-is i.count
        | in-White w ↦ rw w.blanks-is (omega arith)
      ];
      times = elim c.match-part.branch [
        | in-Blanks w ↦ let more = w.with-blanks.ensures.times in rw w.blanks-is (omega (arith, more, i.times))
        | in-Nothing w ↦ rw w.blanks-is (omega (arith, i.times))
        | in-White w ↦ rw w.blanks-is (omega arith)
      ];
    })

pub returns : goal.returns
returns g c = λ plan rest h.
    let l = c.loop-part in
    let none = no-part (drop l.at c.args.text.now) c.args.parts.now l.part-index (omega (arith, c.loop-part-test.false)) l.invariant.known in
    c.give-2.ensures plan rest (rw (none, append-nil) at (l.invariant.came plan rest h))
