-- What shows that a predicate fails in a small graph.
use Rattle.std.proofs.Common.{zero, suc, ℕ, ◌<◌, Bool, List, [], ◌∷◌, arith, ℤ, All}
use Rattle.std.specs.Prelude.{IsTrue}
use Rattle.std.proofs.lemmas.Bool.{and_parts}
use Rattle.mono_graph.specs.declared.label.Label.{Label}
use Rattle.mono_graph.specs.Digraph.{Digraph, HasEnds}
use Rattle.mono_graph.specs.Worked.{pipe}
use Rattle.mono_graph.specs.Walks.{is_walk, is_cut, is_light, is_labelling}
use Rattle.mono_graph.specs.declared.limit.Limit.TheVariants as limit
use Rattle.mono_graph.specs.Flows.{is_flow_cut}
use Rattle.mono_graph.specs.Trees.{is_split, is_least}
use Rattle.mono_graph.proofs.CutsBoundWalks.{cut_excludes, labelling_excludes}
use Rattle.mono_graph.proofs.CutsBoundFlows.{flow_cut_excludes}
use Rattle.mono_graph.proofs.UncrossedSets.{split_excludes}
use Rattle.mono_graph.proofs.LeastTrees.{least_excludes}
use Rattle.mono_problem.specs.declared.atom.Predicate.TheVariants as kind
use Rattle.mono_problem.specs.Holds.{Holds}

pub cut_fails : (g : Digraph) (P : List Bool) (u v : ℕ) (set : List ℕ) → IsTrue (is_cut g P u v set) → Holds g P (kind.Reach u v) → ⊥
cut_fails g P u v set cut h = cut_excludes g P u v set h.0 cut (and_parts (is_walk g P u v h.0) (is_light limit.Free g h.0) h.1).0

pub steps_fail : (g : Digraph) (P : List Bool) (u v : ℕ) (most : ℤ) (ls : List Label) → IsTrue (is_labelling g P u v (limit.Steps most) ls) → Holds g P (kind.Steps u v most) → ⊥
steps_fail g P u v most ls passes h = labelling_excludes g P u v (limit.Steps most) ls h.0 (λ e. cc) passes h.1

pub distance_fails : (g : Digraph) (P : List Bool) (u v : ℕ) (most : ℤ) (ls : List Label) → IsTrue (is_labelling g P u v (limit.Weight most) ls) → Holds g P (kind.Distance u v most) → ⊥
distance_fails g P u v most ls passes h = labelling_excludes g P u v (limit.Weight most) ls h.0 (λ e. cc) passes h.1

pub flow_fails : (g : Digraph) (P : List Bool) (s t : ℕ) (least : ℤ) (set : List ℕ) → HasEnds g → s < g.nodes → IsTrue (is_flow_cut g P s t least set) → Holds g P (kind.Flow s t least) → ⊥
flow_fails g P s t least set ends within cut h = flow_cut_excludes g P s t least h.0 set ends within cut h.1

pub split_fails : (g : Digraph) (P : List Bool) (most : ℤ) (set : List ℕ) → IsTrue (is_split g P set) → Holds g P (kind.Tree most) → ⊥
split_fails g P most set split h = split_excludes g P most set h.0 split h.1

pub least_fails : (g : Digraph) (P : List Bool) (most : ℤ) (tree : List ℕ) → IsTrue (is_least g P most tree) → Holds g P (kind.Tree most) → ⊥
least_fails g P most tree least h = least_excludes g P most tree h.0 least h.1

-- no walk leads through the two edges from node 0 over node 1 to node 2 where the second one is absent
pub not_through : (P : List Bool) → IsTrue (is_cut (pipe 3 2) P 0 2 (0 ∷ 1 ∷ [])) → Holds (pipe 3 2) P (kind.Reach 0 2) → ⊥
not_through P cut h = cut_fails (pipe 3 2) P 0 2 (0 ∷ 1 ∷ []) cut h

-- what holds of one item, or of two, holds of all
pub all_one : {A : Type 0} (P : A → Type 0) (x : A) → P x → All P (x ∷ [])
all_one P x p zero d lt = p
all_one P x p (suc k) d lt = absurd (omega arith)

pub all_two : {A : Type 0} (P : A → Type 0) (x y : A) → P x → P y → All P (x ∷ y ∷ [])
all_two P x y p q zero d lt = p
all_two P x y p q (suc zero) d lt = q
all_two P x y p q (suc (suc k)) d lt = absurd (omega arith)
