use Rattle.std.proofs.Common.{◌<◌, ◌∙◌, sym, ap, subst}
use Rattle.mono_graph.specs.Digraph.{Digraph, entering}
use Rattle.mono_graph.proofs.NodeLists.{places_by-known, length-places_by}
use Rattle.mono_graph.proofs.graph.Graph.entering.Goals as goal

pub returns-clause-places : goal.returns-clause-places
returns-clause-places c =
    let below : c.args.node < c.self.inside.nodes = subst (λ (g : Digraph). c.args.node < g.nodes) (sym c.self.view_is) c.requires in
    c.list.ensures ∙ (c.self.invariant.entering.each c.args.node below ∙ ap (λ (g : Digraph). entering g c.args.node) c.self.view_is)

pub returns-clause-known : goal.returns-clause-known
returns-clause-known c = rw (returns-clause-places c) (places_by-known (λ e. e.to) c.args.self.now c.args.node)

pub returns-clause-few : goal.returns-clause-few
returns-clause-few c = rw (returns-clause-places c) (length-places_by (λ e. e.to) c.args.self.now c.args.node)
