use Rattle.std.proofs.Common.{◌≡◌, length, arith}
use Rattle.mono_base.specs.Literal.{value_in}
use Rattle.mono_graph.proofs.Told.{all_told}
use Rattle.mono_graph.proofs.enabled.enabled_edges.Goals as goal

pub returns : goal.returns
returns c =
    let all : c.loop-place.place ≡ length c.args.graph.now.edges = omega (arith, c.loop-place-test.false, c.edge_count-place-end.ensures, c.loop-place.auto.place-end) in
    all_told (value_in c.args.model.now) c.args.graph.now c.loop-place.place c.loop-place.part c.loop-place.invariant all
