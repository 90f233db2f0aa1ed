-- Walks as evidence: edges by their numbers, and the part of the walk's own edges.
use Rattle.std.proofs.Common.{◌≡◌, ℕ, suc, ◌<◌, Bool, true, ◌&&◌, List, [], ◌∷◌, length, get_or, refl, ap, ◌∙◌, arith, All, lt-ltb}
use Rattle.std.specs.Prelude.{IsTrue, Some, is_some, unwrap_or}
use Rattle.std.specs.List.{list_all}
use Rattle.std.proofs.lemmas.Bool.{and_parts, and_from}
use Rattle.mono_graph.specs.Digraph.{Digraph, IsGraph, edge_at, place_of, present, has, is_place}
use Rattle.mono_graph.specs.declared.limit.Limit.{Limit}
use Rattle.mono_graph.specs.declared.limit.Limit.TheVariants as limit
use Rattle.mono_graph.specs.Walks.{is_walk, is_path, is_light, leads}
use Rattle.mono_graph.proofs.EdgeNumbers.{place_of-number}
use Rattle.mono_graph.proofs.Membership.{all_at, all_from, has_get_or}
use Rattle.mono_problem.specs.declared.atom.Predicate.{Predicate}
use Rattle.mono_problem.specs.declared.atom.Predicate.TheVariants as kind
use Rattle.mono_steps.specs.declared.lemma.Witness.TheVariants as by
use Rattle.mono_steps.specs.Witnesses.{names_edges, names_nodes, placed, passes}
use Rattle.mono_theory.specs.Asked.{asks_walk, first_node, last_node, limit_of}
use Rattle.mono_theory.specs.Evidences.{only, IsEvidence}
use Rattle.mono_theory.specs.Walked.{numbers_of, walk_evidence}
use Rattle.mono_graph.proofs.Pigeons.{all_has}
use Rattle.mono_theory.proofs.EvidenceDecides.{in_only}

pub All-tail : {X : Type 0} (P : X → Type 0) (x : X) (xs : List X) → All P (x ∷ xs) → All P xs
All-tail P x xs h k d lt = h (suc k) d (omega arith)

-- what holds of each place that a list has holds of all
pub all_by : (P : ℕ → Type 0) (ks : List ℕ) → ((k : ℕ) → IsTrue (has ks k) → P k) → All P ks
all_by P ks h = λ i d lt. h (get_or ks i d) (has_get_or ks i d lt)

-- ---- edges by their numbers

pub own_place : (g : Digraph) (k : ℕ) → IsGraph g → k < length g.edges → place_of g (edge_at g k).number ≡ Some k
own_place g k ok lt = place_of-number g (edge_at g k).number k ok.rising lt refl

pub placed-numbers : (g : Digraph) (ks : List ℕ) → IsGraph g → All (λ k. k < length g.edges) ks → placed g (numbers_of g ks) ≡ ks
placed-numbers g [] ok h = refl
placed-numbers g (k ∷ ks) ok h =
    ap (λ o. unwrap_or o (length g.edges) ∷ placed g (numbers_of g ks)) (own_place g k ok (h 0 k (omega arith))) ∙ ap (λ js. k ∷ js) (placed-numbers g ks ok (All-tail (λ j. j < length g.edges) k ks h))

pub numbers-known : (g : Digraph) (ks : List ℕ) → IsGraph g → All (λ k. k < length g.edges) ks → IsTrue (names_edges g (numbers_of g ks))
numbers-known g [] ok h = refl
numbers-known g (k ∷ ks) ok h =
    and_from (is_some (place_of g (edge_at g k).number)) (names_edges g (numbers_of g ks)) (ap is_some (own_place g k ok (h 0 k (omega arith)))) (numbers-known g ks ok (All-tail (λ j. j < length g.edges) k ks h))

pub nodes-known : (g : Digraph) (s : List ℕ) → All (λ u. u < g.nodes) s → IsTrue (names_nodes g s)
nodes-known g [] h = refl
nodes-known g (u ∷ us) h = and_from _ (names_nodes g us) (lt-ltb u g.nodes (h 0 u (omega arith))) (nodes-known g us (All-tail (λ w. w < g.nodes) u us h))

-- ---- walks

-- a walk within a limit is one in the part of its own edges
pub own_path : (g : Digraph) (P : List Bool) (u v : ℕ) (limit : Limit) (ks : List ℕ) → All (λ k. k < length g.edges) ks → IsTrue (is_path g P u v limit ks) → IsTrue (is_path g (only g ks) u v limit ks)
own_path g P u v limit ks known h =
    let a = and_parts (is_walk g P u v ks) (is_light limit g ks) h in
    let b = and_parts (list_all (is_place g) ks && list_all (present P) ks) (leads g u ks v) a.0 in
    let held = (and_parts (list_all (is_place g) ks) (list_all (present P) ks) b.0).0 in
    and_from (is_walk g (only g ks) u v ks) (is_light limit g ks)
    (and_from (list_all (is_place g) ks && list_all (present (only g ks)) ks) (leads g u ks v) (and_from (list_all (is_place g) ks) (list_all (present (only g ks)) ks) held (all_from (present (only g ks)) ks (λ k t. in_only g ks k (all_has (λ j. j < length g.edges) ks k known t) t))) b.1) a.1

-- a walk within the limit of a predicate that speaks of walks is evidence for it
pub walk_is_evidence : (g : Digraph) (P : List Bool) (q : Predicate) (u v : ℕ) (limit : Limit) (ks : List ℕ) → ((Q : List Bool) (es : List ℕ) → passes g Q q (by.Path es) ≡ is_path g Q u v limit (placed g es))
    → IsGraph g → All (λ k. k < length g.edges) ks → IsTrue (is_path g P u v limit ks) → IsEvidence g P q (walk_evidence g ks)
walk_is_evidence g P q u v limit ks serves ok known h =
    let a = and_parts (is_walk g P u v ks) (is_light limit g ks) h in
    let b = and_parts (list_all (is_place g) ks && list_all (present P) ks) (leads g u ks v) a.0 in
    let there = (and_parts (list_all (is_place g) ks) (list_all (present P) ks) b.0).1 in
    record {
      known = numbers-known g ks ok known;
      small = refl;
      sided = all_by (λ k. (k < length g.edges) × (present P k ≡ true)) ks (λ k t. (all_has (λ j. j < length g.edges) ks k known t, all_at (present P) ks k there t));
      used = λ i d lt. refl;
      passes = serves (only g ks) (numbers_of g ks) ∙ ap (is_path g (only g ks) u v limit) (placed-numbers g ks ok known) ∙ own_path g P u v limit ks known h;
    }

-- so a walk as a predicate asks for it is evidence for it
pub walk_shows : (g : Digraph) (P : List Bool) (q : Predicate) (ks : List ℕ) → IsTrue (asks_walk q) → IsGraph g → All (λ k. k < length g.edges) ks → IsTrue (is_path g P (first_node q) (last_node q) (limit_of q) ks) → IsEvidence g P q (walk_evidence g ks)
walk_shows g P (kind.Reach u v) ks asks = walk_is_evidence g P (kind.Reach u v) u v limit.Free ks (λ Q es. refl)
walk_shows g P (kind.Steps u v most) ks asks = walk_is_evidence g P (kind.Steps u v most) u v (limit.Steps most) ks (λ Q es. refl)
walk_shows g P (kind.Distance u v most) ks asks = walk_is_evidence g P (kind.Distance u v most) u v (limit.Weight most) ks (λ Q es. refl)
walk_shows g P (kind.Flow u v least) ks asks = absurd cc
walk_shows g P (kind.Tree most) ks asks = absurd cc
walk_shows g P kind.Acyclic ks asks = absurd cc
