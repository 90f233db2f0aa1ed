use Rattle.std.proofs.Common.{◌≡◌, ap, ◌∙◌, arith, length}
use Rattle.mono_gen.specs.Board.{edges_of}
use Rattle.mono_gen.proofs.Sizes.{few_edges}
use Rattle.mono_gen.proofs.board.Board.edges.Goals as goal

pub returns-clause-few : goal.returns-clause-few
returns-clause-few c =
    let few = few_edges c.self.inside.size c.self.invariant.1 in
    let same : length c.as_slice.result.now ≡ length (edges_of c.self.inside.size) = ap length (c.as_slice.ensures.value ∙ c.self.invariant.2) in
    omega (arith, few, same)
