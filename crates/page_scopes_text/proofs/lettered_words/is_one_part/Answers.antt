use Rattle.std.proofs.Common.{◌≡◌, length, sym, ◌∙◌, arith}
use Rattle.std.proofs.lemmas.Bool.Decides.{nat_tests}
use Rattle.page_scopes_text.proofs.PartedLemmas.{one_part_of, plain_part}
use Rattle.page_scopes_text.proofs.lettered_words.is_one_part.Goals as goal

pub returns-then-are_plain : goal.returns-then-are_plain
returns-then-are_plain c = λ ok. plain_part c.args.bytes.now c.requires (sym c.are_plain.ensures ∙ c.if-are_plain.true)

pub returns : goal.returns
returns c = λ ok.
    let bytes = c.args.bytes.now in
    let all : c.first_part_len.result ≡ length bytes = grind (arith, nat_tests, ok) in
    (sym c.if-not-are_printable.ensures, one_part_of bytes c.first_part_len.result c.first_part_len.ensures.first all)
