-- Rows of the numbers of edges.
use Rattle.std.proofs.Common.{zero, suc, ℕ, ◌<◌, [], ◌∷◌, arith}
use Rattle.mono_graph.specs.declared.edge.Edge.{Edge}
use Rattle.mono_graph.specs.Digraph.{IsRising}

-- of two edges the numbers rise where the second one's is greater
pub two_numbers_rise : (n : ℕ) (e f : Edge) → e.number < f.number → IsRising (record { nodes = n; edges = e ∷ f ∷ [] })
two_numbers_rise n e f rise zero zero lt within = absurd (omega (arith, lt))
two_numbers_rise n e f rise zero (suc zero) lt within = rise
two_numbers_rise n e f rise zero (suc (suc j)) lt within = absurd (omega (arith, within))
two_numbers_rise n e f rise (suc i) j lt within = absurd (omega (arith, lt, within))
