use Rattle.std.proofs.Common.{◌≡◌, ◌∷◌, ◌++◌, [], ◌<◌, length, get_or, set, ◌∙◌, sym, ap, subst, arith}
use Rattle.std.specs.Prelude.{All}
use Rattle.std.proofs.lemmas.Grind.{common_steps}
use Rattle.mono_base.specs.declared.limits.TheConstants.{MAX_EDGES}
use Rattle.mono_graph.specs.declared.edge.Edge.{Edge}
use Rattle.mono_graph.specs.Digraph.{Digraph, IsNewEdge}
use Rattle.mono_graph.specs.Kept.{shown}
use Rattle.mono_graph.proofs.GraphGrown.{IsGraph-with_edge}
use Rattle.mono_graph.proofs.NodeLists.{listed-with_edge}
use Rattle.mono_graph.proofs.graph.Graph.add_edge.Goals as goal

pub invariant_of-self-2 : goal.invariant_of-self-2
invariant_of-self-2 c =
    let g : Digraph = shown c.self.inside in
    let e : Edge = c.args.edge in
    let edges : c.push-3.new.self.items ≡ g.edges ++ e ∷ [] = grind (arith, common_steps) in
    let place : c.edge_count-place.result ≡ length g.edges = c.edge_count-place.ensures ∙ ap (λ (h : Digraph). length h.edges) (sym c.self.view_is) in
    let leaving : c.push.new.self ≡ set c.self.inside.leaving e.from (get_or c.self.inside.leaving e.from [] ++ length g.edges ∷ []) = grind (arith, common_steps) in
    let entering : c.push-2.new.self ≡ set c.self.inside.entering e.to (get_or c.self.inside.entering e.to [] ++ length g.edges ∷ []) = grind (arith, common_steps) in
    let from : e.from < g.nodes = omega arith in
    let to : e.to < g.nodes = omega arith in
    let new : IsNewEdge g e = record {
      from = from;
      to = to;
      room = subst (λ (h : Digraph). length h.edges < MAX_EDGES) (sym c.self.view_is) c.requires.room;
      rising = subst (λ (h : Digraph). All (λ f. f.number < e.number) h.edges) (sym c.self.view_is) c.requires.rising;
      number = c.requires.number;
      var = c.requires.var;
      weight = c.requires.weight;
    } in
    record {
      graph = rw edges (IsGraph-with_edge g e c.self.invariant.graph new);
      leaving = rw (edges, leaving) (listed-with_edge (λ f. f.from) g e c.self.inside.leaving c.self.invariant.leaving from);
      entering = rw (edges, entering) (listed-with_edge (λ f. f.to) g e c.self.inside.entering c.self.invariant.entering to);
    }
