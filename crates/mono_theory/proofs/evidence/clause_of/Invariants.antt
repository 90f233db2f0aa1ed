use Rattle.std.proofs.Common.{◌≡◌, ◌∷◌, map, take}
use Rattle.mono_graph.specs.Digraph.{edge_at}
use Rattle.mono_steps.specs.Switching.{literal_of}
use Rattle.mono_theory.proofs.evidence.clause_of.Given as goal

abbrev pub invariant-loop-place : goal.invariant-loop-place
invariant-loop-place l = l.lits.items ≡ l.fn.head ∷ map (λ k. literal_of l.value (edge_at l.graph k).var) (take l.place-index l.places)
