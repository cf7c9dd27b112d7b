use Rattle.page_scopes_tree.proofs.EdgeLemmas.{events_items-append, events_edge-append, events_edge-fits, page_items-append}
use Rattle.page_scopes_tree.proofs.laws.events_law.Goals as goal

pub returns : goal.returns
returns g c = record {
  given = λ d events more. events_items-append g.Y.Renderer.tables d events more;
  edge = λ d events more. events_edge-append g.Y.Renderer.tables d events more;
  page = λ d events line. page_items-append g.Y.Renderer.tables d events line;
  depth = λ d events h. events_edge-fits g.Y.Renderer.tables d events h;
}
