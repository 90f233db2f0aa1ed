-- The predicate on cycles, and cycles and orders as evidence.
use Rattle.std.specs.Prelude.{◌≡◌, ◌<◌, ℕ, Bool, true, false, not, ◌&&◌, List, filter}
use Rattle.mono_graph.specs.Digraph.{Digraph, edge_at, places, present}
use Rattle.mono_graph.specs.Cycles.{rank_in, rises}
use Rattle.mono_problem.specs.declared.atom.Predicate.{Predicate}
use Rattle.mono_problem.specs.declared.atom.Predicate.TheVariants as kind
use Rattle.mono_steps.specs.declared.lemma.Witness.TheVariants as by
use Rattle.mono_theory.specs.declared.evidence.Evidence.{Evidence}
use Rattle.mono_theory.specs.Walked.{numbers_of}

abbrev pub is_cycle_predicate : Predicate → Bool
is_cycle_predicate kind.Acyclic = true
is_cycle_predicate q = false

-- a cycle rests on its edges
abbrev pub cycle_evidence : Digraph → List ℕ → Evidence
cycle_evidence g ks = record { witness = by.Cycle (numbers_of g ks); edges = ks }

-- the absent edges that don't lead to a greater rank
abbrev pub absent_falling : Digraph → List Bool → (ℕ → ℕ) → List ℕ
absent_falling g P rank = filter (λ k. not (present P k) && not (rises rank (edge_at g k))) (places g)

-- an order rests on the absent edges that don't rise in it
pub record IsOrderEvidence (g : Digraph) (P : List Bool) (ns : List ℕ) (e : Evidence) : Type 0 where
  pub rank : ℕ → ℕ
  pub ranks : (u : ℕ) → u < g.nodes → rank u ≡ rank_in ns u
  pub is : e ≡ record { witness = by.Order ns; edges = absent_falling g P rank }
