-- What a part by a test has.
use Rattle.std.proofs.Common.{◌≡◌, ℕ, zero, suc, ◌<◌, Bool, false, List, [], ◌∷◌, length, map, get_or, refl, arith}
use Rattle.std.specs.Prelude.{IsTrue}
use Rattle.std.specs.List.{list_all}
use Rattle.std.proofs.lemmas.List.{length-map}
use Rattle.std.proofs.lemmas.Bool.{and_parts, and_from}
use Rattle.mono_graph.specs.declared.edge.Edge.{Edge}
use Rattle.mono_graph.specs.Digraph.{Digraph, present, edge_at, part_by, no_edge, IsSubpart}
use Rattle.mono_graph.proofs.Places.{present_below}

pub list_all_weaker : {X : Type 0} (p q : X → Bool) → ((x : X) → IsTrue (p x) → IsTrue (q x)) → (xs : List X) → IsTrue (list_all p xs) → IsTrue (list_all q xs)
list_all_weaker p q w [] h = refl
list_all_weaker p q w (x ∷ xs) h = let a = and_parts (p x) (list_all p xs) h in and_from (q x) (list_all q xs) (w x a.0) (list_all_weaker p q w xs a.1)

-- ---- parts by a test

map_at : (test : Edge → Bool) (es : List Edge) (k : ℕ) → IsTrue (get_or (map test es) k false) → IsTrue (test (get_or es k no_edge))
map_at test [] k h = absurd cc
map_at test (e ∷ es) zero h = h
map_at test (e ∷ es) (suc k) h = map_at test es k h

at_map : (test : Edge → Bool) (es : List Edge) (k : ℕ) → k < length es → IsTrue (test (get_or es k no_edge)) → IsTrue (get_or (map test es) k false)
at_map test [] k lt h = absurd (omega arith)
at_map test (e ∷ es) zero lt h = h
at_map test (e ∷ es) (suc k) lt h = at_map test es k (omega arith) h

pub length-part_by : (test : Edge → Bool) (g : Digraph) → length (part_by test g) ≡ length g.edges
length-part_by test g = length-map g.edges test

pub in_part_by : (test : Edge → Bool) (g : Digraph) (k : ℕ) → IsTrue (present (part_by test g) k) → IsTrue (test (edge_at g k))
in_part_by test g k h = map_at test g.edges k h

pub part_by-has : (test : Edge → Bool) (g : Digraph) (k : ℕ) → k < length g.edges → IsTrue (test (edge_at g k)) → IsTrue (present (part_by test g) k)
part_by-has test g k lt h = at_map test g.edges k lt h

-- a test that passes wherever another does has the larger part
pub part_by-larger : (test wider : Edge → Bool) (g : Digraph) → ((e : Edge) → IsTrue (test e) → IsTrue (wider e)) → IsSubpart (part_by test g) (part_by wider g)
part_by-larger test wider g w = record {
  keeps = λ k here.
      let lt : k < length (part_by test g) = present_below (part_by test g) k here in
      part_by-has wider g k (omega (arith, length-part_by test g)) (w (edge_at g k) (in_part_by test g k here));
}
