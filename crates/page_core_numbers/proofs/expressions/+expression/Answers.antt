use Rattle.std.proofs.Common.{◌≡◌, ◌+◌, ◌-◌, ◌≤◌, ◌∷◌, ◌∙◌, ap, sym, arith, length, take, drop, option_map, option_copied}
use Rattle.std.proofs.lemmas.List.{take_all, length-drop}
use Rattle.page_core_numbers.specs.Expressions.{first, after_operation, operand_by, in_parentheses, expression_within}
use Rattle.page_core_numbers.specs.machine.Signs.{expression_view, operand_view, found_view, count_of, inside_of}
use Rattle.page_core_numbers.proofs.ExpressionLemmas.{operand-number, operand-inside, operand-full, goes-on, goes-end, goes-first, goes-around, over-all, opening-drop, operand-signed, after_signs-front}
use Rattle.page_core_numbers.proofs.expressions.+expression.Goals as goal
use Rattle.page_core_numbers.proofs.expressions.+expression.Goals.{read_operand-in-None, read_operand-in-Some+then-room-eq0, read_operand-in-Some+else-room-eq0}

pub after_operations-loop-found-init : goal.after_operations-loop-found-init
after_operations-loop-found-init t c = (λ all g. g, omega arith)

pub after_operations-loop-found-preserved : goal.after_operations-loop-found-preserved
after_operations-loop-found-preserved t c =
    let now = c.loop-found.read in
    let i = c.loop-found.invariant in
    let more = c.after_operation-read in
    let found = c.in-Some.found in
    let rest : length more.result.rest.now ≡ length c.read_operand.result.rest.now = ap length more.ensures.rest in (
      λ all g.
          goes-on (operand_by (inside_of c.args.room c.args.scale) c.args.scale) all (expression_view now) (expression_view more.result) found.operator
          found.rest.now (i.0 all g) (sym c.in-Some.ensures.value)
          (more.ensures.value ∙ ap (after_operation (expression_view now) found.operator) c.read_operand.ensures.value)
          (omega (arith, rest, c.in-Some.ensures.bound, c.read_operand.ensures.bound)),
      omega (arith, rest, i.1, c.in-Some.ensures.bound, c.read_operand.ensures.bound, more.ensures.count),
    )

pub after_operations-after_operation-read-requires-clause-fits : goal.after_operations-after_operation-read-requires-clause-fits
after_operations-after_operation-read-requires-clause-fits t c =
    omega (arith, c.requires, c.loop-found.invariant.1, c.in-Some.ensures.bound, c.read_operand.ensures.bound)

pub after_operations-returns-clause-value : goal.after_operations-returns-clause-value
after_operations-returns-clause-value t c = λ all g.
    goes-end (operand_by (inside_of c.args.room c.args.scale) c.args.scale) all (expression_view c.loop-found.read) (c.loop-found.invariant.0 all g)
    (sym c.next_operator.ensures.value ∙ ap (option_map found_view) c.in_default.is)

pub read_expression-loop-around-init : goal.read_expression-loop-around-init
read_expression-loop-around-init t c =
    let scale = c.args.scale in
    let text = c.args.text.now in
    let opening = c.opening_count-opening.result in
    let inside = c.args.room - opening in
    let all = c.after_operations-so_far in
    let rest : take (length text - opening) (drop opening text) ≡ drop opening text = take_all (length text - opening) (drop opening text) (omega (arith, length-drop opening text)) in
    let place : opening ≡ c.args.room - inside = omega (arith, c.opening_count-opening.ensures.room) in
    let first_is = c.first.ensures.value ∙ ap first c.read_operand-operand.ensures.value ∙ ap (λ u. first (operand_by (inside_of inside scale) scale u)) rest in
    let bound : count_of c.first.result.troubles + length c.first.result.rest.now ≤ length (drop opening text) =
    rw (c.first.ensures.troubles, c.first.ensures.rest) (omega (arith, c.read_operand-operand.ensures.bound, ap length rest)) in (
      all.ensures.value (expression_within inside scale (drop opening text)) (goes-first inside scale (drop opening text) (expression_view c.first.result) first_is (omega (arith, bound)))
          ∙ ap (λ n. expression_within inside scale (drop n text)) place,
      omega (arith, all.ensures.bound, bound, ap (λ n. length (drop n text)) place),
    )

pub read_expression-loop-around-preserved : goal.read_expression-loop-around-preserved
read_expression-loop-around-preserved t c =
    let scale = c.args.scale in
    let text = c.args.text.now in
    let around = c.loop-around.around in
    let outer = c.args.room - (around + 1) in
    let all = c.after_operations-so_far-in-loop-around in
    let more = c.first-in-loop-around in
    let place : outer + 1 ≡ c.args.room - around = omega (arith, c.loop-around-test.true) in
    let front : drop outer text ≡ 40 ∷ drop (c.args.room - around) text =
    opening-drop text c.args.room outer (omega (arith, c.loop-around.auto.around, c.loop-around-test.true, c.opening_count-opening.ensures.value, c.opening_count-opening.ensures.room))
    ∙ ap (λ n. 40 ∷ drop n text) place in
    let bound : count_of more.result.troubles + length more.result.rest.now ≤ length (drop outer text) =
    rw (more.ensures.troubles, more.ensures.rest, c.in_parentheses.ensures.troubles) (omega (arith, c.in_parentheses.ensures.bound, c.loop-around.invariant.1, ap length front)) in (
      all.ensures.value (expression_within (around + 1) scale (drop outer text))
          (goes-around around scale (drop outer text) (drop (c.args.room - around) text) (expression_view c.loop-around.so_far) (expression_view more.result) front
          c.loop-around.invariant.0 (more.ensures.value ∙ ap first c.in_parentheses.ensures.value) (omega (arith, bound))),
      omega (arith, all.ensures.bound, bound),
    )

pub read_expression-returns-then-is_over-clause-value : goal.read_expression-returns-then-is_over-clause-value
read_expression-returns-then-is_over-clause-value t c =
    let around = c.loop-around.around in
    let outer = c.args.room - around in
    let all : around + outer ≡ c.args.room = omega (arith, c.loop-around-test.true) in
    over-all outer around c.args.scale c.args.text.now (expression_view c.loop-around.so_far)
    (λ k below.
    opening-drop c.args.text.now c.args.room k
    (omega (arith, below, c.loop-around.auto.around, c.opening_count-opening.ensures.value, c.opening_count-opening.ensures.room)))
    c.loop-around.invariant.0 (sym c.is_over.ensures ∙ c.if-is_over.true)
    ∙ ap (λ n. expression_within n c.args.scale c.args.text.now) all

pub read_operand-returns-clause-value : goal.read_operand-returns-clause-value
read_operand-returns-clause-value t c =
    let room = c.args.room in
    let scale = c.args.scale in
    let signs = c.split_signs-minuses in
    let unsigned = signs.result.1.now in
    let same : operand_view c.match-after_open.operand ≡ operand_by (inside_of room scale) scale unsigned =
    elim c.match-after_open.branch [
      | read_operand-in-None w ↦
          ap operand_view w.operand-is ∙ w.read_number_operand-operand.ensures.value
          ∙ sym (operand-number (inside_of room scale) scale unsigned (rw signs.ensures.rest (after_signs-front c.args.text.now).0) (rw signs.ensures.rest (after_signs-front c.args.text.now).1)
          (sym c.after_open.ensures.value ∙ ap option_copied w.in-None.is))
      | read_operand-in-Some+then-room-eq0 w ↦
          ap operand_view w.operand-is ∙ w.no_operand.ensures.value
          ∙ sym (operand-full room scale unsigned w.in-Some.after.now (sym c.after_open.ensures.value ∙ ap option_copied w.in-Some.is) (omega arith))
      | read_operand-in-Some+else-room-eq0 w ↦
          ap operand_view w.operand-is ∙ w.in_parentheses.ensures.value ∙ ap in_parentheses w.read_expression.ensures.value
          ∙ sym (operand-inside room scale unsigned w.in-Some.after.now (sym c.after_open.ensures.value ∙ ap option_copied w.in-Some.is) (omega arith))
    ] in
    operand-signed (inside_of room scale) scale c.args.text.now signs.result.0 unsigned _ _ signs.ensures.minuses signs.ensures.rest same c.negate_operand.ensures.value
