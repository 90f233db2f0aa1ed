-- What marks and a list of nodes say of a split.
use Rattle.std.proofs.Common.{◌≡◌, ℕ, zero, suc, ◌+◌, ◌<◌, ◌≤◌, Bool, true, false, not, ◌&&◌, ◌==◌, List, [], ◌∷◌, length, map, get_or, refl, sym, ap, subst, ◌∙◌, inl, inr, arith, ◌⊎◌, zero-add, All}
use Rattle.std.specs.Prelude.{IsTrue}
use Rattle.std.specs.List.{list_all, list_any, range_with_len}
use Rattle.std.proofs.lemmas.Bool.{and_parts, and_from, and_right, or_cases, or_left, or_right, cases_Bool, false_from_ne_true}
use Rattle.mono_graph.specs.Digraph.{Digraph, edge_at, has, nodes_of, places, present, crosses, leaving, entering}
use Rattle.mono_graph.specs.Trees.{is_split}
use Rattle.mono_graph.proofs.Places.{all_of, all_below}
use Rattle.mono_graph.proofs.Membership.{all_at, all_from, has_cons, has_range, has_get_or, at_places, places_at, same_truth}
use Rattle.mono_graph.proofs.Components.{listed-enough}
use Rattle.mono_trees.specs.Crossing.{crosses_by, is_closed_at}

-- ---- the marks of a list are its members

marks_from : (p : ℕ → Bool) (a n : ℕ) (ms : List Bool) → length ms ≡ n → ((u : ℕ) → u < n → get_or ms u false ≡ p (a + u)) → ms ≡ map p (range_with_len a n)
marks_from p a zero [] len h = refl
marks_from p a zero (m ∷ ms) len h = absurd (omega arith)
marks_from p a (suc n) [] len h = absurd (omega arith)
marks_from p a (suc n) (m ∷ ms) len h =
    let first : m ≡ p a = h 0 (omega arith) ∙ ap p (let e : a + 0 ≡ a = omega arith in e) in
    let later : ms ≡ map p (range_with_len (a + 1) n) = marks_from p (a + 1) n ms (omega arith) (λ u lt. h (suc u) (omega arith) ∙ ap p (let e : a + suc u ≡ (a + 1) + u = omega arith in e)) in
    rw (first, later) refl

list_all-map_id : (p : ℕ → Bool) (xs : List ℕ) → list_all (λ m. m) (map p xs) ≡ list_all p xs
list_all-map_id p [] = refl
list_all-map_id p (x ∷ xs) = ap (λ (b : Bool). p x && b) (list_all-map_id p xs)

pub all_marked : (s : List ℕ) (ms : List Bool) → ((u : ℕ) → get_or ms u false ≡ has s u) → list_all (λ m. m) ms ≡ list_all (has s) (range_with_len 0 (length ms))
all_marked s ms marked =
    let e : ms ≡ map (has s) (range_with_len 0 (length ms)) = marks_from (has s) 0 (length ms) ms refl (λ u lt. marked u ∙ ap (λ (k : ℕ). has s k) (sym (zero-add u))) in
    ap (λ (xs : List Bool). list_all (λ m. m) xs) e ∙ list_all-map_id (has s) (range_with_len 0 (length ms))

-- a list that is shorter than a range lacks a number of it
pub short_lacks : (s : List ℕ) (n : ℕ) → length s < n → list_all (has s) (range_with_len 0 n) ≡ false
short_lacks s n lt = false_from_ne_true (list_all (has s) (range_with_len 0 n)) (λ t. let many : n ≤ length s = listed-enough s n t in omega (arith, many, lt))

-- ---- no edge crosses

any_from : (p : ℕ → Bool) (ks : List ℕ) (j : ℕ) → IsTrue (has ks j) → IsTrue (p j) → IsTrue (list_any p ks)
any_from p [] j h t = absurd cc
any_from p (k ∷ ks) j h t = elim (has_cons k j ks h) [
  | inl e ↦ or_left (p k) (list_any p ks) (subst (λ (i : ℕ). IsTrue (p i)) (sym e) t)
  | inr there ↦ or_right (p k) (list_any p ks) (any_from p ks j there t)
]

-- what the marks say of an edge
crosses_is : (g : Digraph) (P inside : List Bool) (s : List ℕ) → ((u : ℕ) → get_or inside u false ≡ has s u) → (k : ℕ) → crosses_by inside g P k ≡ (present P k && crosses s (edge_at g k))
crosses_is g P inside s marked k = rw (marked (edge_at g k).from, marked (edge_at g k).to) refl

-- an edge that crosses is at a node of the set
pub closed_is : (g : Digraph) (P inside : List Bool) (s : List ℕ) → ((u : ℕ) → get_or inside u false ≡ has s u)
    → list_all (is_closed_at inside g P) s ≡ list_all (λ k. not (present P k && crosses s (edge_at g k))) (places g)
closed_is g P inside s marked = same_truth (list_all (is_closed_at inside g P) s) (list_all (λ k. not (present P k && crosses s (edge_at g k))) (places g))
    (λ h. all_of (λ k. not (present P k && crosses s (edge_at g k))) 0 (length g.edges) (λ k low high. ap not (sym (crosses_is g P inside s marked k)) ∙ stays h k (omega arith) (cases_Bool (crosses_by inside g P k))))
    (λ h. all_from (is_closed_at inside g P) s (λ u there.
    and_from (list_all (λ k. not (crosses_by inside g P k)) (leaving g u)) (list_all (λ k. not (crosses_by inside g P k)) (entering g u))
    (all_from (λ k. not (crosses_by inside g P k)) (leaving g u) (λ k at. none h k (places_at (λ e. e.from) g u k at).0))
    (all_from (λ k. not (crosses_by inside g P k)) (entering g u) (λ k at. none h k (places_at (λ e. e.to) g u k at).0))))
  where
    none : IsTrue (list_all (λ k. not (present P k && crosses s (edge_at g k))) (places g)) → (k : ℕ) → k < length g.edges → IsTrue (not (crosses_by inside g P k))
    none h k lt = ap not (crosses_is g P inside s marked k) ∙ all_below (λ j. not (present P j && crosses s (edge_at g j))) 0 (length g.edges) h k (omega arith) (omega arith)

    closed_parts : IsTrue (list_all (is_closed_at inside g P) s) → (u : ℕ) → IsTrue (has s u)
        → IsTrue (list_all (λ k. not (crosses_by inside g P k)) (leaving g u)) × IsTrue (list_all (λ k. not (crosses_by inside g P k)) (entering g u))
    closed_parts h u there = and_parts (list_all (λ k. not (crosses_by inside g P k)) (leaving g u)) (list_all (λ k. not (crosses_by inside g P k)) (entering g u)) (all_at (is_closed_at inside g P) s u h there)

    stays : IsTrue (list_all (is_closed_at inside g P) s) → (k : ℕ) → k < length g.edges → (crosses_by inside g P k ≡ true) ⊎ (crosses_by inside g P k ≡ false) → IsTrue (not (crosses_by inside g P k))
    stays h k lt (inr off) = ap not off
    stays h k lt (inl on) =
        let x = and_parts (present P k) (crosses s (edge_at g k)) (sym (crosses_is g P inside s marked k) ∙ on) in
        elim (or_cases (has s (edge_at g k).from && not (has s (edge_at g k).to)) (has s (edge_at g k).to && not (has s (edge_at g k).from)) x.1) [
          | inl out ↦ all_at (λ j. not (crosses_by inside g P j)) (leaving g (edge_at g k).from) k
              (closed_parts h (edge_at g k).from (and_parts (has s (edge_at g k).from) (not (has s (edge_at g k).to)) out).0).0 (at_places (λ e. e.from) g (edge_at g k).from k lt refl)
          | inr into ↦ all_at (λ j. not (crosses_by inside g P j)) (entering g (edge_at g k).to) k
              (closed_parts h (edge_at g k).to (and_parts (has s (edge_at g k).to) (not (has s (edge_at g k).from)) into).0).1 (at_places (λ e. e.to) g (edge_at g k).to k lt refl)
        ]

-- ---- the test

pub some_of : (n : ℕ) → (n == 0) ≡ false → 0 < n
some_of zero h = absurd cc
some_of (suc n) h = omega arith

-- a set with a node and without one is a split where it is closed
pub split_closed : (g : Digraph) (P inside : List Bool) (s : List ℕ) (r : Bool) → 0 < length s → All (λ u. u < g.nodes) s → length inside ≡ g.nodes → ((u : ℕ) → get_or inside u false ≡ has s u)
    → IsTrue (not (list_all (has s) (range_with_len 0 (length inside)))) → r ≡ list_all (is_closed_at inside g P) s → r ≡ is_split g P s
split_closed g P inside s r some fits len marked lacks is =
    let first : IsTrue (list_any (has s) (nodes_of g)) = any_from (has s) (nodes_of g) (get_or s 0 0) (has_range 0 g.nodes (get_or s 0 0) (omega arith) (let f = fits 0 0 some in omega (arith, f))) (has_get_or s 0 0 some) in
    let missing : IsTrue (not (list_all (has s) (nodes_of g))) = subst (λ (n : ℕ). IsTrue (not (list_all (has s) (range_with_len 0 n)))) len lacks in
    let both : (list_any (has s) (nodes_of g) && not (list_all (has s) (nodes_of g))) ≡ true = and_from (list_any (has s) (nodes_of g)) (not (list_all (has s) (nodes_of g))) first missing in
    is ∙ (closed_is g P inside s marked ∙ sym (ap (λ (t : Bool). t && list_all (λ k. not (present P k && crosses s (edge_at g k))) (places g)) both))

-- a set without a node, and one with all, is none
pub split_empty : (g : Digraph) (P : List Bool) (s : List ℕ) → length s ≡ 0 → false ≡ is_split g P s
split_empty g P [] e =
    let none : list_any (has []) (nodes_of g) ≡ false = any_none (nodes_of g) in
    sym (ap (λ (t : Bool). (t && not (list_all (has []) (nodes_of g))) && list_all (λ k. not (present P k && crosses [] (edge_at g k))) (places g)) none)
  where
    any_none : (us : List ℕ) → list_any (has []) us ≡ false
    any_none [] = refl
    any_none (u ∷ us) = any_none us
split_empty g P (x ∷ xs) e = absurd (omega arith)

pub split_whole : (g : Digraph) (P inside : List Bool) (s : List ℕ) → length inside ≡ g.nodes → not (list_all (has s) (range_with_len 0 (length inside))) ≡ false → false ≡ is_split g P s
split_whole g P inside s len whole =
    let missing : not (list_all (has s) (nodes_of g)) ≡ false = subst (λ (n : ℕ). not (list_all (has s) (range_with_len 0 n)) ≡ false) len whole in
    let off : (list_any (has s) (nodes_of g) && not (list_all (has s) (nodes_of g))) ≡ false = and_right (list_any (has s) (nodes_of g)) (not (list_all (has s) (nodes_of g))) missing in
    sym (ap (λ (t : Bool). t && list_all (λ k. not (present P k && crosses s (edge_at g k))) (places g)) off)
