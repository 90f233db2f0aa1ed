use Rattle.std.proofs.Common.{◌≡◌, ◌<◌, ◌∙◌, sym, ap, length, arith}
use Rattle.mono_graph.specs.declared.edge.Edge.{Edge}
use Rattle.mono_graph.specs.Digraph.{edge_at}
use Rattle.mono_graph.proofs.EdgeNumbers.{place_of-number}
use Rattle.mono_gnf.proofs.print.place_near.Goals as goal

pub returns-then-edge-number-clause-place : goal.returns-then-edge-number-clause-place
returns-then-edge-number-clause-place c =
    let low : c.args.near < length c.args.graph.now.edges = omega (arith, c.if-near-edge_count.true, c.edge_count.ensures) in
    let number : (edge_at c.args.graph.now c.args.near).number ≡ c.args.number = ap (λ (e : Edge). e.number) (sym c.edge.ensures.edge) ∙ c.if-edge-number.true in
    sym (place_of-number c.args.graph.now c.args.number c.args.near c.requires.rising low number)
