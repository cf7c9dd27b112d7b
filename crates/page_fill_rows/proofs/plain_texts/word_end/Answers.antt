use Rattle.std.proofs.Common.{◌≡◌, ◌==◌, not, arith}
use Rattle.std.proofs.lemmas.List.Sums.{prefix_len-le-length}
use Rattle.page_fill_rows.proofs.GroupLemmas.{first-none}
use Rattle.page_fill_rows.proofs.plain_texts.word_end.Goals as goal
use Rattle.page_fill_rows.proofs.plain_texts.word_end.Goals.{then-text-ge-LANES+else-start-lt-LANES, else-text-ge-LANES}

pub end_by_bytes-requires-clause-front : goal.end_by_bytes-requires-clause-front
end_by_bytes-requires-clause-front c =
    let text = c.args.text.now in
    elim c.if-text-ge-LANES.branch [
      | then-text-ge-LANES+else-start-lt-LANES w ↦
          let found = w.vector_end-start.ensures in
          let none = first-none text (omega (arith, w.if-text-ge-LANES)) (omega (arith, found.value, found.bound, w.if-start-lt-LANES)) in
          rw w.start-is (let all : w.vector_end-start.result ≡ 16 = omega (arith, found.bound, w.if-start-lt-LANES) in rw all none)
      | else-text-ge-LANES w ↦ rw w.start-is (omega arith)
    ]

pub returns-clause-bound : goal.returns-clause-bound
returns-clause-bound c =
    let least = prefix_len-le-length (λ b. not (b == 32)) c.args.text.now in
    omega (arith, least, c.end_by_bytes.ensures)
