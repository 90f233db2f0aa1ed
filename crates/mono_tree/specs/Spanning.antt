-- Predicates on spanning trees, and trees and splits as evidence.
use Rattle.std.specs.Prelude.{◌≡◌, ℕ, Bool, true, false, not, List}
use Rattle.mono_graph.specs.declared.edge.Edge.{Edge}
use Rattle.mono_graph.specs.Digraph.{Digraph}
use Rattle.mono_graph.specs.Trees.{is_bridged}
use Rattle.mono_problem.specs.declared.atom.Predicate.{Predicate}
use Rattle.mono_problem.specs.declared.atom.Predicate.TheVariants as kind
use Rattle.mono_steps.specs.declared.lemma.Witness.TheVariants as by
use Rattle.mono_trees.specs.Unbridged.{AreUnbridged}
use Rattle.mono_theory.specs.declared.evidence.Evidence.{Evidence}
use Rattle.mono_theory.specs.Resting.{absent_across}
use Rattle.mono_theory.specs.Walked.{numbers_of}

abbrev pub is_tree_predicate : Predicate → Bool
is_tree_predicate (kind.Tree most) = true
is_tree_predicate q = false

-- a tree within the bound rests on its edges
abbrev pub tree_evidence : Digraph → List ℕ → Evidence
tree_evidence g ks = record { witness = by.Tree (numbers_of g ks); edges = ks }

-- a split rests on the absent edges that join its set with the rest
abbrev pub split_evidence : Digraph → List Bool → List ℕ → Evidence
split_evidence g P s = record { witness = by.Split s; edges = absent_across g P s }

-- the tree doesn't join the ends of the edge by edges no heavier than it
abbrev pub is_unbridged : Digraph → List ℕ → Edge → Bool
is_unbridged g ks e = not (is_bridged g ks e)

-- a lightest tree above the bound rests on the absent edges that it doesn't bridge
pub record IsLeastEvidence (g : Digraph) (P : List Bool) (ks : List ℕ) (e : Evidence) : Type 0 where
  pub witness : e.witness ≡ by.Least (numbers_of g ks)
  pub edges : AreUnbridged g P ks e.edges
