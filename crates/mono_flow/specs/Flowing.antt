-- Predicates on flows, and flows and sets of nodes as evidence.
use Rattle.std.specs.Prelude.{◌≡◌, ℕ, ◌+◌, ◌<◌, ◌≤◌, Bool, true, false, not, IsTrue, nat_lt, List, map, filter}
use Rattle.mono_graph.specs.declared.amount.Amount.{Amount}
use Rattle.mono_graph.specs.Digraph.{Digraph, edge_at, has, weight_of}
use Rattle.mono_problem.specs.declared.atom.Predicate.{Predicate}
use Rattle.mono_problem.specs.declared.atom.Predicate.TheVariants as kind
use Rattle.mono_steps.specs.declared.lemma.Witness.TheVariants as by
use Rattle.mono_theory.specs.declared.evidence.Evidence.{Evidence}
use Rattle.mono_theory.specs.Resting.{absent_out}

abbrev pub is_flow_predicate : Predicate → Bool
is_flow_predicate (kind.Flow s t least) = true
is_flow_predicate q = false

-- the amounts with edges named by their numbers
abbrev pub numbered : Digraph → List Amount → List Amount
numbered g amounts = map (λ a. record { edge = (edge_at g a.edge).number; amount = a.amount }) amounts

-- the edges that carry something
abbrev pub carrying : List Amount → List ℕ
carrying amounts = map (λ a. a.edge) (filter (λ a. nat_lt 0 a.amount) amounts)

-- a flow rests on them
abbrev pub flow_evidence : Digraph → List Amount → Evidence
flow_evidence g amounts = record { witness = by.Flow (numbered g amounts); edges = carrying amounts }

-- edges that have to stay absent: those of the absent edges that aren't named weigh at most this in sum
pub record AreNeeded (g : Digraph) (slack : ℕ) (absent named : List ℕ) : Type 0 where
  pub listed : (k : ℕ) → IsTrue (has named k) → IsTrue (has absent k)
  pub others : weight_of g (filter (λ k. not (has named k)) absent) ≤ slack

-- each of them has to: if it could come too, those that aren't named would weigh more
abbrev pub EachIsNeeded : Digraph → ℕ → List ℕ → List ℕ → Type 0
EachIsNeeded g slack absent named = (k : ℕ) → IsTrue (has named k) → slack < weight_of g (filter (λ j. not (has named j)) absent) + (edge_at g k).weight

-- a set of nodes rests on the absent edges that leave it, but for some that weigh at most this in sum
pub record IsCutEvidence (g : Digraph) (P : List Bool) (slack : ℕ) (set : List ℕ) (e : Evidence) : Type 0 where
  pub witness : e.witness ≡ by.FlowCut set
  pub edges : AreNeeded g slack (absent_out g P set) e.edges
