-- Small graphs: a test of each edge shows that none leads on.
use Rattle.std.proofs.Common.{◌≡◌, ℕ, zero, suc, ◌+◌, ◌≤◌, Bool, true, false, not, ◌&&◌, List, [], ◌∷◌, length, refl, inl, arith}
use Rattle.std.specs.Prelude.{IsTrue, nat_le}
use Rattle.std.specs.List.{list_all}
use Rattle.std.proofs.lemmas.Bool.{lt-ltb, leb-true, and_parts}
use Rattle.mono_graph.specs.Digraph.{Digraph, edge_at, present, places}
use Rattle.mono_graph.proofs.Places.{at_place}
use Rattle.mono_dynamic.specs.declared.arrival.Arrival.{Arrival}
use Rattle.mono_dynamic.specs.Arrivals.{at_source, is_reached, IsTree, AreReached}
use Rattle.mono_dynamic.specs.Costs.{label_of, AreAttained, AreLeast}
use Rattle.mono_dynamic.proofs.Exact.{are_reached}
use Rattle.mono_dynamic.proofs.LeastExact.{least_of}
use Rattle.mono_graph.specs.declared.limit.Limit.{Limit}
use Rattle.mono_graph.specs.Walks.{cost_of}

leads_on : (p a b : Bool) → IsTrue (not (p && (a && not b))) → IsTrue p → IsTrue a → IsTrue b
leads_on p a true h e f = refl
leads_on true true false h e f = absurd cc
leads_on false a false h e f = absurd cc
leads_on true false false h e f = absurd cc

pub reached_by_test : (g : Digraph) (P : List Bool) (u : ℕ) (xs : List Arrival) → IsTree g P u xs
    → IsTrue (list_all (λ k. not (present P k && (is_reached xs (edge_at g k).from && not (is_reached xs (edge_at g k).to)))) (places g)) → AreReached g P u xs
reached_by_test g P u xs t h = are_reached g P u (length xs) xs t (omega arith) (record {
  each = λ k lt here from.
      inl (inl (leads_on (present P k) (is_reached xs (edge_at g k).from) (is_reached xs (edge_at g k).to)
      (at_place (λ j. not (present P j && (is_reached xs (edge_at g j).from && not (is_reached xs (edge_at g j).to)))) g h k (lt-ltb k (length g.edges) lt)) here from));
})

pub tree_alone : (g : Digraph) (P : List Bool) (u : ℕ) → IsTree g P u (at_source u ∷ [])
tree_alone g P u = record { some = omega arith; source = refl; led = λ i pos lt. absurd (omega arith) }

-- ---- least costs

most_by_test : (cap : ℕ) (labels : List ℕ) → IsTrue (list_all (λ l. nat_le l cap) labels) → (v : ℕ) → label_of labels v ≤ cap
most_by_test cap [] h v = omega arith
most_by_test cap (l ∷ ls) h zero = leb-true l cap (and_parts (nat_le l cap) (list_all (λ l. nat_le l cap) ls) h).0
most_by_test cap (l ∷ ls) h (suc v) = most_by_test cap ls (and_parts (nat_le l cap) (list_all (λ l. nat_le l cap) ls) h).1 v

falls_by_most : (p b : Bool) → IsTrue (not (p && not b)) → IsTrue p → IsTrue b
falls_by_most p true h e = refl
falls_by_most true false h e = absurd cc
falls_by_most false false h e = absurd cc

pub least_by_test : (g : Digraph) (P : List Bool) (limit : Limit) (u cap : ℕ) (labels : List ℕ) → length labels ≡ g.nodes → IsTrue (list_all (λ l. nat_le l cap) labels) → label_of labels u ≡ 0
    → IsTrue (list_all (λ k. not (present P k && not (nat_le (label_of labels (edge_at g k).to) (label_of labels (edge_at g k).from + cost_of limit (edge_at g k))))) (places g))
    → AreAttained g P limit u cap labels → AreLeast g P limit u cap labels
least_by_test g P limit u cap labels len most source h a = least_of g P limit u cap labels len (most_by_test cap labels most) source (record {
  each = λ k lt here.
      leb-true (label_of labels (edge_at g k).to) (label_of labels (edge_at g k).from + cost_of limit (edge_at g k))
      (falls_by_most (present P k) (nat_le (label_of labels (edge_at g k).to) (label_of labels (edge_at g k).from + cost_of limit (edge_at g k)))
      (at_place (λ j. not (present P j && not (nat_le (label_of labels (edge_at g j).to) (label_of labels (edge_at g j).from + cost_of limit (edge_at g j))))) g h k (lt-ltb k (length g.edges) lt)) here);
}) a
