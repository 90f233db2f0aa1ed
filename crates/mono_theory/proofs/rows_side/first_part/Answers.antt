use Rattle.std.proofs.Common.{◌∙◌, arith}
use Rattle.mono_theory.proofs.PartsFollow.{first_all, first_none}
use Rattle.mono_theory.proofs.rows_side.first_part.Goals as goal

pub returns-then-possible : goal.returns-then-possible
returns-then-possible c =
    let part = c.in_ok-whole.ensures in
    rw c.if-possible.true (first_all c.args.graph.now c.in_ok-whole.whole (part.size ∙ c.edge_count-edges.ensures) (λ k lt. part.places k (omega (arith, lt, c.edge_count-edges.ensures))))

pub returns : goal.returns
returns c =
    let part = c.in_ok-none.ensures in
    rw c.if-possible.false (first_none c.args.graph.now c.in_ok-none.none (part.size ∙ c.edge_count-edges.ensures) part.places)
