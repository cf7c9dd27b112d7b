use Rattle.page_roff_values.specs.machine.Rest.{surroundings_of}
use Rattle.page_roff_values.specs.Values.{nothing, adds, start, expanded}
use Rattle.page_roff_values.proofs.ArgumentLemmas.{goes_same}
use Rattle.page_roff_values.proofs.LineLemmas.{verbatim_line}
use Rattle.page_roff_values.proofs.expansions.Expansion.expand.Goals as goal

pub returns-then-is_verbatim : goal.returns-then-is_verbatim
returns-then-is_verbatim g c =
    let env = surroundings_of c.args.env.now in
    let t = c.args.text.now in
    goes_same g.O.NoteOut.left _ (expanded env c.args.line t) (nothing (adds t (start c.args.line)))
    (verbatim_line env c.args.line t (c.is_verbatim.ensures c.if-is_verbatim.true) c.requires)
