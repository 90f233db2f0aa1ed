use Rattle.std.proofs.Common.{ap, sym, length, ◌∙◌}
use Rattle.mono_graph.specs.Digraph.{Digraph}
use Rattle.mono_acyclic.proofs.OrderStays.{edges_none}
use Rattle.mono_acyclic.proofs.ordered_edges.OrderedEdgesRowsAcyclic.of_frame.Goals as goal

pub returns : goal.returns
returns c =
    let f = c.args.frame.now in
    let same = c.graph-graph.ensures.graph in
    let nodes = c.nodes.ensures.count ∙ ap (λ (g : Digraph). g.nodes) same in
    let o = c.in_ok-ordered.ensures in
    edges_none f c.in_ok-ordered.ordered (o.size ∙ nodes) (o.part_size ∙ c.edge_count.ensures ∙ ap (λ (g : Digraph). length g.edges) same) o.none (o.order f.graph (sym nodes))
