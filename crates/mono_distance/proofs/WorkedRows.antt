-- Worked rows of labels.
use Rattle.std.proofs.Common.{◌≡◌, ℕ, zero, suc, ◌+◌, ◌<◌, ◌≤◌, ◌&&◌, Bool, true, false, List, [], ◌∷◌, length, refl, subst, arith, pos, Option, Some, None}
use Rattle.std.specs.Prelude.{IsTrue, slice_index_or}
use Rattle.std.specs.List.{list_all}
use Rattle.std.proofs.lemmas.Bool.{and_parts, ltb-true}
use Rattle.std.proofs.lemmas.List.Sums.{sum_by-cons}
use Rattle.mono_graph.specs.declared.limit.Limit.TheVariants as limit
use Rattle.mono_graph.specs.Digraph.{Digraph, edge_at, is_place, present}
use Rattle.mono_graph.specs.Walks.{cost_of, is_path, is_walk, leads, cost_along}
use Rattle.mono_graph.specs.Worked.{edge, single}
use Rattle.mono_graph.proofs.CutsBoundWalks.{cut_excludes}
use Rattle.mono_dynamic.specs.declared.arrival.Arrival.{Arrival}
use Rattle.mono_dynamic.specs.declared.walk_target.WalkTarget.{WalkTarget}
use Rattle.mono_dynamic.specs.Arrivals.{arrival_at, IsLed, IsTree}
use Rattle.mono_dynamic.specs.Costs.{label_of}
use Rattle.mono_dynamic.specs.Targets.{Targets, targets_at, AreTold}
use Rattle.mono_dynamic.specs.Ways.{Ways, has_target, IsTarget, IsTargetOf}
use Rattle.mono_dynamic.proofs.Lacking.{told_first}
use Rattle.mono_dynamic.proofs.Rows.{tree_alone}
use Rattle.mono_problem.specs.declared.atom.Atom.{Atom}
use Rattle.mono_problem.specs.declared.atom.Predicate.{Predicate}
use Rattle.mono_problem.specs.declared.atom.Predicate.TheVariants as kind
use Rattle.mono_theory.specs.Asked.{asks_walk, HasTarget}
use Rattle.mono_theory.specs.PossibleRows.{possible_parts, target_at, AreTargetsOf, IsRowFor}
use Rattle.mono_theory.specs.Supports.{atom_at}
use Rattle.mono_distance.specs.Readings.{IsBelowEachWalk, IsReached}
use Rattle.mono_distance.specs.Worked.{along_the_edge, facts_with, to_node_1, tree_rows, tree_view, ways_from, within_7}

abbrev edge_of_5 : Digraph
edge_of_5 = single (edge 1 0 1 5)

-- each walk to node 1 goes along the edge
each_costs : (P : List Bool) (ks : List ℕ) → IsTrue (is_walk edge_of_5 P 0 1 ks) → 5 ≤ cost_along (limit.Weight (pos 7)) edge_of_5 ks
each_costs P [] h = absurd cc
each_costs P (zero ∷ ks) h = let sums = sum_by-cons (λ k. cost_of (limit.Weight (pos 7)) (edge_at edge_of_5 k)) 0 ks in omega (arith, sums)
each_costs P (suc k ∷ ks) h =
    let g = edge_of_5 in
    let known = and_parts (list_all (is_place g) (suc k ∷ ks) && list_all (present P) (suc k ∷ ks)) (leads g 0 (suc k ∷ ks) 1) h in
    let places = and_parts (list_all (is_place g) (suc k ∷ ks)) (list_all (present P) (suc k ∷ ks)) known.0 in
    let below = ltb-true (suc k) 1 (and_parts (is_place g (suc k)) (list_all (is_place g) ks) places.0).0 in
    absurd (omega (arith, below))

pub never_below : IsReached edge_of_5 (true ∷ []) (kind.Distance 0 1 (pos 7)) 1 4 → ⊥
never_below h = let least = each_costs (true ∷ []) h.walk h.leads in let cost = h.cost in omega (arith, least, cost)

none_leads : (ks : List ℕ) → IsTrue (is_walk edge_of_5 (false ∷ []) 0 1 ks) → ⊥
none_leads ks h = cut_excludes edge_of_5 (false ∷ []) 0 1 (0 ∷ []) ks refl h

pub never_absent : IsReached edge_of_5 (false ∷ []) (kind.Distance 0 1 (pos 7)) 1 5 → ⊥
never_absent h = none_leads h.walk h.leads

pub below_at_5 : IsBelowEachWalk edge_of_5 (true ∷ []) (kind.Distance 0 1 (pos 7)) 1 5
below_at_5 = record { below = λ ks h. each_costs (true ∷ []) ks h; most = refl }

pub below_at_8 : IsBelowEachWalk edge_of_5 (false ∷ []) (kind.Distance 0 1 (pos 7)) 1 8
below_at_8 = record { below = λ ks h. absurd (none_leads ks h); most = refl }

pub never_above : IsBelowEachWalk edge_of_5 (true ∷ []) (kind.Distance 0 1 (pos 7)) 1 6 → ⊥
never_above h = let most = h.below (0 ∷ []) refl in omega (arith, most)

-- ---- rows of the possibly present edges

one_only : (P : ℕ → Type 0) → P 0 → (a : ℕ) → a < 1 → P a
one_only P h zero lt = h
one_only P h (suc a) lt = absurd (omega (arith, lt))

one_atom : (P : Predicate → Type 0) (q : Predicate) → P q → (a : ℕ) (d : Atom) → a < 1 → P (slice_index_or (facts_with q (pos 1)).atoms a d).predicate
one_atom P q h zero d lt = h
one_atom P q h (suc a) d lt = absurd (omega (arith, lt))

one_target : (a : ℕ) (d : WalkTarget) → a < 1 → HasTarget (atom_at (facts_with within_7 (pos 1)).atoms a).predicate (slice_index_or (to_node_1 ∷ []) a d)
one_target zero d lt = record { asks = refl; is = refl }
one_target (suc a) d lt = absurd (omega (arith, lt))

two_told : (g : Digraph) (parts : ℕ → List Bool) (n : ℕ) (r s : Targets) → AreTold g parts n r → AreTold g parts n s → (i : ℕ) → i < length (r ∷ s ∷ []) → AreTold g parts n (targets_at (r ∷ s ∷ []) i)
two_told g parts n r s first second zero lt = first
two_told g parts n r s first second (suc zero) lt = second
two_told g parts n r s first second (suc (suc i)) lt = absurd (omega (arith, lt))

-- a row that is asked for nothing
none_asked : (parts : ℕ → List Bool) → AreTold edge_of_5 parts 1 (record { ways = ways_from 1 [] (8 ∷ 0 ∷ []); targets = []; since = Some 0; lost = None })
none_asked parts = record {
  tree = λ m le before. tree_alone edge_of_5 (parts m) 1;
  priced = record { each = λ k e. absurd (let some = e.1 in let lt = e.2 in omega (arith, some, lt)) };
  past = tt;
  early = omega arith;
  lacking = λ k d lt. absurd (omega (arith, lt));
}

rows_told : (ways : Ways) (since : Option ℕ) → AreTold edge_of_5 (possible_parts (facts_with within_7 (pos 1))) 1 (record { ways = ways; targets = to_node_1 ∷ []; since = since; lost = None }) → ways.tree.source ≡ 0 → IsTargetOf ways to_node_1
    → AreTargetsOf (tree_view 1 (tree_rows (to_node_1 ∷ []) since None ways)) (facts_with within_7 (pos 1))
rows_told ways since told source target = record {
  asks = record { each = one_atom (λ q. IsTrue (asks_walk q)) within_7 refl };
  nodes = refl;
  few = omega arith;
  told = two_told edge_of_5 (possible_parts (facts_with within_7 (pos 1))) 1 _ _ (none_asked (possible_parts (facts_with within_7 (pos 1)))) told;
  row_len = refl;
  targets = record { len = refl; each = one_target };
  own = one_only (λ a. IsRowFor (tree_rows (to_node_1 ∷ []) since None ways) (slice_index_or (1 ∷ []) a 0) (atom_at (facts_with within_7 (pos 1)).atoms a).predicate) (record { held = omega arith; source = source; target = target });
  asked = record {
    each = one_only (λ a. IsTarget (targets_at (tree_rows (to_node_1 ∷ []) since None ways) (slice_index_or (1 ∷ []) a 0)).targets (target_at (to_node_1 ∷ []) a)) (0, omega arith, refl);
  };
}

pub unsearched_rows : AreTargetsOf (tree_view 1 (tree_rows (to_node_1 ∷ []) None None (ways_from 0 [] (0 ∷ 8 ∷ [])))) (facts_with within_7 (pos 1))
unsearched_rows = rows_told (ways_from 0 [] (0 ∷ 8 ∷ [])) None (told_first edge_of_5 (possible_parts (facts_with within_7 (pos 1))) 1 2 0 (record { ways = ways_from 0 [] (0 ∷ 8 ∷ []); targets = to_node_1 ∷ []; since = None; lost = None }) refl refl refl) refl (record { known = omega arith; alike = refl; below = refl })

abbrev edge_arrivals : List Arrival
edge_arrivals = (ways_from 0 along_the_edge (0 ∷ 5 ∷ [])).tree.arrivals

edge_leads : (P : List Bool) → IsTrue (present P 0) → (i : ℕ) → 0 < i → i < 2 → IsLed edge_of_5 P edge_arrivals (arrival_at edge_arrivals i) i
edge_leads P here zero some lt = absurd (omega (arith, some))
edge_leads P here (suc zero) some lt = record { before = omega arith; known = omega arith; present = here; from = refl; to = refl }
edge_leads P here (suc (suc i)) some lt = absurd (omega (arith, lt))

edge_tree : (m : ℕ) → m ≤ 1 → IsTree edge_of_5 (possible_parts (facts_with within_7 (pos 1)) m) 0 edge_arrivals
edge_tree zero le = record { some = omega arith; source = refl; led = edge_leads _ refl }
edge_tree (suc zero) le = record { some = omega arith; source = refl; led = edge_leads _ refl }
edge_tree (suc (suc m)) le = absurd (omega (arith, le))

edge_priced : (i k : ℕ) → 0 < i → i < 2 → (arrival_at edge_arrivals i).place ≡ k → label_of (0 ∷ 5 ∷ []) (edge_at edge_of_5 k).from + cost_of (limit.Weight (pos 7)) (edge_at edge_of_5 k) ≤ label_of (0 ∷ 5 ∷ []) (edge_at edge_of_5 k).to
edge_priced zero k some lt e = absurd (omega (arith, some))
edge_priced (suc zero) k some lt e = subst (λ (j : ℕ). label_of (0 ∷ 5 ∷ []) (edge_at edge_of_5 j).from + cost_of (limit.Weight (pos 7)) (edge_at edge_of_5 j) ≤ label_of (0 ∷ 5 ∷ []) (edge_at edge_of_5 j).to) e (omega arith)
edge_priced (suc (suc i)) k some lt e = absurd (omega (arith, lt))

edge_reached : (P : List Bool) (i : ℕ) (d : WalkTarget) → i < 1 → has_target (ways_from 0 along_the_edge (0 ∷ 5 ∷ [])) (slice_index_or (to_node_1 ∷ []) i d) ≡ false → (ks : List ℕ) → IsTrue (is_path edge_of_5 P 0 (slice_index_or (to_node_1 ∷ []) i d).node (slice_index_or (to_node_1 ∷ []) i d).limit ks) → ⊥
edge_reached P zero d lt none ks h = absurd cc
edge_reached P (suc i) d lt none ks h = absurd (omega (arith, lt))

pub found_rows : AreTargetsOf (tree_view 1 (tree_rows (to_node_1 ∷ []) (Some 0) None (ways_from 0 along_the_edge (0 ∷ 5 ∷ [])))) (facts_with within_7 (pos 1))
found_rows = rows_told (ways_from 0 along_the_edge (0 ∷ 5 ∷ [])) (Some 0) (record {
  tree = λ m le before. edge_tree m le;
  priced = record { each = λ k e. edge_priced e.0 k e.1 e.2 e.3 };
  past = tt;
  early = omega arith;
  lacking = edge_reached (possible_parts (facts_with within_7 (pos 1)) 0);
}) refl (record { known = omega arith; alike = refl; below = refl })
