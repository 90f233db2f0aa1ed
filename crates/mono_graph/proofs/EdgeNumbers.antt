-- Where the edge of a number stands, when the numbers rise.
use Rattle.std.proofs.Common.{◌≡◌, ◌≢◌, ℕ, ◌+◌, ◌<◌, ◌≤◌, Option, Some, None, Result, Ok, Err, [], ◌∷◌, length, refl, sym, subst, inl, inr, arith, length-append}
use Rattle.std.specs.Prelude.{All, ◌==◌}
use Rattle.std.specs.List.{position_or_len}
use Rattle.std.specs.List.Sorted.{IsSearchInRange, IsBinarySearchResult, IsNonDecreasingBy}
use Rattle.std.specs.Ordering.{nat_cmp, ordering_index}
use Rattle.std.proofs.lemmas.Cmp.{ranked}
use Rattle.std.proofs.lemmas.Bool.{cases_lt, cases_eq, eq-eqb, ne_eqb, lt-ltb, le-ltb}
use Rattle.std.proofs.lemmas.Bool.Decides.{nat_tests}
use Rattle.std.proofs.lemmas.List.{get_or_append_left, get_or_push}
use Rattle.std.proofs.lemmas.List.Sums.{position_or_len_is}
use Rattle.std.proofs.lemmas.List.Sorted.{IsNonDecreasingBy-from_default}
use Rattle.mono_graph.specs.declared.edge.Edge.{Edge}
use Rattle.mono_graph.specs.Digraph.{Digraph, edge_at, no_edge, place_of, with_edge, IsRising}

-- the edge at a place is the one of its number
pub place_of-number : (g : Digraph) (n k : ℕ) → IsRising g → k < length g.edges → (edge_at g k).number ≡ n → place_of g n ≡ Some k
place_of-number g n k rising lt is =
    let here : position_or_len (λ e. e.number == n) g.edges ≡ k =
    position_or_len_is (λ e. e.number == n) g.edges k no_edge (omega arith)
    (λ j below. ne_eqb (edge_at g j).number n (λ same. let less = rising j k below lt in omega (arith, less, same, is)))
    (λ _. eq-eqb (edge_at g k).number n is) in
    rw (here, lt-ltb k (length g.edges) lt) refl

-- a number that no edge has
pub place_of-none : (g : Digraph) (n : ℕ) → ((k : ℕ) → k < length g.edges → (edge_at g k).number ≢ n) → place_of g n ≡ None
place_of-none g n absent =
    let here : position_or_len (λ e. e.number == n) g.edges ≡ length g.edges =
    position_or_len_is (λ e. e.number == n) g.edges (length g.edges) no_edge (omega arith)
    (λ j below. ne_eqb (edge_at g j).number n (absent j below)) (λ lt. absurd (omega arith)) in
    rw (here, le-ltb (length g.edges) (length g.edges) (omega arith)) refl

-- what a binary search by number answers
abbrev pub answer : Result ℕ ℕ → Option ℕ
answer (Ok k) = Some k
answer (Err k) = None

pub searched : (g : Digraph) → IsRising g → (n : ℕ) (r : Result ℕ ℕ) → IsSearchInRange r (length g.edges) → IsBinarySearchResult (λ e. nat_cmp e.number n) g.edges r → place_of g n ≡ answer r
searched g rising n (Ok k) in_range equal = place_of-number g n k rising in_range (ranked (edge_at g k).number n _ (sym (equal no_edge)))
searched g rising n (Err k) in_range parted = place_of-none g n each
  where
    number-le : (i j : ℕ) → i ≤ j → j < length g.edges → (edge_at g i).number ≤ (edge_at g j).number
    number-le i j le lt = elim (cases_eq i j) [
      | inl e ↦ subst (λ (m : ℕ). (edge_at g i).number ≤ (edge_at g m).number) e (omega arith)
      | inr ne ↦ let less = rising i j (omega arith) lt in omega (arith, less)
    ]

    rise : IsNonDecreasingBy (λ e. ordering_index (nat_cmp e.number n)) g.edges
    rise = IsNonDecreasingBy-from_default (λ e. ordering_index (nat_cmp e.number n)) g.edges no_edge (λ i j le lt.
        let at = number-le i j le lt in grind (arith, nat_tests))

    each : (j : ℕ) → j < length g.edges → (edge_at g j).number ≢ n
    each j lt = elim (cases_lt j k) [
      | inl below ↦ let less : (edge_at g j).number < n = ranked (edge_at g j).number n _ (sym ((parted rise).0 j no_edge (omega arith) below)) in λ same. omega (arith, less, same)
      | inr above ↦ let more : n < (edge_at g j).number = ranked (edge_at g j).number n _ (sym ((parted rise).1 j no_edge above lt)) in λ same. omega (arith, more, same)
    ]

-- a greater number keeps them rising
pub IsRising-with_edge : (g : Digraph) (e : Edge) → IsRising g → All (λ f. f.number < e.number) g.edges → IsRising (with_edge g e)
IsRising-with_edge g e rising above i j lt below =
    let more : j < length g.edges + 1 = omega (arith, length-append g.edges (e ∷ [])) in
    let left : edge_at (with_edge g e) i ≡ edge_at g i = get_or_append_left g.edges (e ∷ []) no_edge i (omega arith) in
    elim (cases_lt j (length g.edges)) [
      | inl inside ↦ rw (left, get_or_append_left g.edges (e ∷ []) no_edge j inside) (rising i j lt inside)
      | inr past ↦ rw (left, get_or_push g.edges e no_edge j (omega arith)) (above i no_edge (omega arith))
    ]
