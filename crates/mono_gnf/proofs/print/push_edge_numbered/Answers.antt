use Rattle.std.proofs.Common.{◌≡◌, Some, ℕ, sym, ◌∙◌, ap, subst}
use Rattle.mono_graph.specs.declared.edge.Edge.{Edge}
use Rattle.mono_graph.specs.Digraph.{Digraph, IsGraph, edge_at, place_of}
use Rattle.mono_problem.specs.Instance.{graph_at}
use Rattle.mono_gnf.specs.Printed.{edge_numbered}
use Rattle.mono_gnf.proofs.EdgesByNumber.{some_place, edge_at_place, graph_known, home_has}
use Rattle.mono_gnf.proofs.print.push_edge_numbered.Goals as goal

pub place_near-requires : goal.place_near-requires
place_near-requires c =
    let home = c.edge_home-home in
    subst IsGraph (sym c.graph-graph.ensures) (graph_known c.args.problem.now home.result c.requires.instance home.ensures.held)

pub unreachable-requires : goal.unreachable-requires
unreachable-requires c =
    let home = c.edge_home-home in
    let read = ap (λ (g : Digraph). place_of g c.args.number) c.graph-graph.ensures in
    some_place c.args.problem.now c.requires.instance home.result c.args.number home.ensures.held c.requires.low c.requires.high (home_has c.args.problem.now home.result c.args.number home.ensures.exact home.ensures.held)
    (sym read ∙ (sym c.place_near.ensures.place ∙ c.in-None.is))

pub returns-clause-line : goal.returns-clause-line
returns-clause-line c =
    let p = c.args.problem.now in
    let n = c.args.number in
    let home = c.edge_home-home in
    let place = c.in-Some.place in
    let at : place_of (graph_at p home.result) n ≡ Some place = sym (ap (λ (g : Digraph). place_of g n) c.graph-graph.ensures) ∙ (sym c.place_near.ensures.place ∙ c.in-Some.is) in
    let edge : c.edge.result ≡ edge_at (graph_at p home.result) place = c.edge.ensures.edge ∙ ap (λ (g : Digraph). edge_at g place) c.graph-graph.ensures in
    let same : edge_numbered p n ≡ (c.graph_id.result, c.edge.result) =
    edge_at_place p c.requires.instance home.result n home.ensures.held c.requires.low c.requires.high (home_has c.args.problem.now home.result c.args.number home.ensures.exact home.ensures.held) place at
    ∙ (ap (λ (id : ℕ). (id, edge_at (graph_at p home.result) place)) (sym c.graph_id.ensures) ∙ ap (λ (e : Edge). (c.graph_id.result, e)) (sym edge)) in
    rw same c.push_edge.ensures
