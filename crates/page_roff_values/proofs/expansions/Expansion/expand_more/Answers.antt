use Rattle.std.proofs.Common.{◌≡◌, ◌<◌, ◌==◌, false, [], ◌∷◌, length, ◌∙◌, sym, arith, rules}
use Rattle.std.proofs.lemmas.Bool.Decides.{nat_tests}
use Rattle.page_roff_values.specs.machine.Rest.{surroundings_of, rest}
use Rattle.page_roff_values.specs.Values.{NEST, after_bytes, nothing, seq, value}
use Rattle.page_roff_values.proofs.LineLemmas.{begins, nest_is, plain_value}
use Rattle.page_roff_values.proofs.ArgumentLemmas.{goes_same, goes_then}
use Rattle.page_roff_values.proofs.expansions.Expansion.expand_more.Goals as goal

pub returns : goal.returns
returns g c =
    let env = surroundings_of c.args.env.now in
    let s = after_bytes c.args.bytes_before c.args.self.now in
    let t = c.args.text.now in
    goes_then g.O.NoteOut.left _ _ _ (value env NEST t s) (seq (nothing s) (rest env 16 (t ∷ []))) (nothing c.run.new.self.spot)
    (goes_same g.O.NoteOut.left _ (value env NEST t s) (seq (nothing s) (rest env 16 (t ∷ []))) (rw nest_is (begins env 16 t s c.requires.going)))
    (rw (c.set_bytes_before.ensures, c.new-sources.ensures, c.self.view_is) at c.run.ensures.goes)

pub returns-then-is_none : goal.returns-then-is_none
returns-then-is_none g c =
    let env = surroundings_of c.args.env.now in
    let s = after_bytes c.args.bytes_before c.args.self.now in
    let t = c.args.text.now in
    let full : (length t == 0) ≡ false = sym c.is_empty.ensures ∙ c.if-not-is_empty.true in
    let some : 0 < length t = grind (arith, nat_tests) in
    rw (plain_value env NEST t s c.memchr.result c.memchr.ensures (search rules) some) (rw (c.set_bytes_before.ensures, c.self.view_is) at c.put.ensures.goes)
