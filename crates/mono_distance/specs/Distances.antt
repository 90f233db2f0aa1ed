-- Predicates on walks within a limit, and labels as evidence against one.
use Rattle.std.specs.Prelude.{◌≡◌, Bool, true, false, List}
use Rattle.mono_graph.specs.declared.label.Label.{Label}
use Rattle.mono_graph.specs.declared.limit.Limit.{Limit}
use Rattle.mono_graph.specs.Digraph.{Digraph}
use Rattle.mono_graph.specs.Walks.{is_tense, label_at, bound_of}
use Rattle.mono_problem.specs.declared.atom.Predicate.{Predicate}
use Rattle.mono_problem.specs.declared.atom.Predicate.TheVariants as kind
use Rattle.mono_steps.specs.declared.lemma.Witness.TheVariants as by
use Rattle.mono_theory.specs.declared.evidence.Evidence.{Evidence}
pub use Rattle.mono_theory.specs.Asked.{predicate_of}
use Rattle.mono_theory.specs.Resting.{AreAbsent}

abbrev pub is_distance : Predicate → Bool
is_distance (kind.Steps u v most) = true
is_distance (kind.Distance u v most) = true
is_distance q = false

-- labels rest on absent edges: on each along which they rise by more than the edge costs
pub record IsLabelEvidence (g : Digraph) (P : List Bool) (l : Limit) (ls : List Label) (e : Evidence) : Type 0 where
  pub witness : e.witness ≡ by.Label ls
  pub edges : AreAbsent (is_tense (label_at ls (bound_of l)) l) g P e.edges
