-- Lists of different numbers, told apart by a table that names their places.
use Rattle.std.proofs.Common.{◌≡◌, ℕ, suc, ◌+◌, ◌<◌, ◌≤◌, true, false, List, [], ◌∷◌, length, get_or, sym, subst, inl, inr, arith, eqb}
use Rattle.std.specs.Prelude.{IsTrue, ◌==◌}
use Rattle.std.specs.List.{list_any, IsDistinct, AllByRecursion}
use Rattle.std.proofs.lemmas.Bool.{or_cases, or_left, or_right, eq-eqb, eqb-true, ne_eqb, both_ways}
use Rattle.std.proofs.lemmas.Map.Keys.{IsDistinct-cons}
use Rattle.std.proofs.lemmas.Map.Steps.{length-le_from_distinct_below}
use Rattle.mono_graph.specs.Digraph.{has}
use Rattle.mono_graph.proofs.Membership.{has_cons, has_here, has_there}

pub index_of : (ks : List ℕ) (v : ℕ) → IsTrue (has ks v) → (i : ℕ) × (i < length ks) × (get_or ks i 0 ≡ v)
index_of [] v h = absurd cc
index_of (k ∷ ks) v h = elim (has_cons k v ks h) [
  | inl e ↦ (0, omega arith, e)
  | inr t ↦ let r = index_of ks v t in (suc r.0, omega (arith, r.1), r.2)
]

has_flipped : (ks : List ℕ) (q : ℕ) → list_any (eqb q) ks ≡ true → IsTrue (has ks q)
has_flipped [] q h = absurd cc
has_flipped (k ∷ ks) q h = elim (or_cases (eqb q k) (list_any (eqb q) ks) h) [
  | inl e ↦ or_left (k == q) (has ks q) (eq-eqb k q (sym (eqb-true q k e)))
  | inr t ↦ or_right (k == q) (has ks q) (has_flipped ks q t)
]

all_others : (ks : List ℕ) (k : ℕ) → (IsTrue (has ks k) → ⊥) → AllByRecursion (λ y. eqb k y ≡ false) ks
all_others [] k none = tt
all_others (j ∷ ks) k none = (ne_eqb k j (λ e. none (subst (λ (i : ℕ). IsTrue (has (j ∷ ks) i)) (sym e) (has_here j ks))), all_others ks k (λ t. none (has_there j k ks t)))

pub all_differ : (ps ks : List ℕ) (n : ℕ) → ((i : ℕ) → i < length ks → get_or ps (get_or ks i 0) 0 ≡ i + n) → IsDistinct eqb ks
unfolding IsDistinct
all_differ ps [] n h = tt
all_differ ps (k ∷ ks) n h =
    let rest : (i : ℕ) → i < length ks → get_or ps (get_or ks i 0) 0 ≡ i + suc n = λ i lt. (let e : get_or ps (get_or ks i 0) 0 ≡ suc i + n = h (suc i) (omega arith) in omega (arith, e)) in (
      all_others ks k (λ t.
          let r = index_of ks k t in
          let later : get_or ps k 0 ≡ r.0 + suc n = subst (λ (j : ℕ). get_or ps j 0 ≡ r.0 + suc n) r.2 (rest r.0 r.1) in
          let here : get_or ps k 0 ≡ 0 + n = h 0 (omega arith) in
          omega (arith, later, here)),
      all_differ ps ks (suc n) rest,
    )

-- the table names the place of each number of the list
pub record NamesPlaces (ps ks : List ℕ) : Type 0 where
  pub held : (i : ℕ) → i < length ks → get_or ks i 0 < length ps
  pub is : (i : ℕ) → i < length ks → get_or ps (get_or ks i 0) 0 ≡ i

below : (ps ks : List ℕ) → NamesPlaces ps ks → (q : ℕ) → IsTrue (has ks q) → q < length ps
below ps ks h q t = let r = index_of ks q t in subst (λ (j : ℕ). j < length ps) r.2 (h.held r.0 r.1)

pub no_more : (ps ks : List ℕ) → NamesPlaces ps ks → length ks ≤ length ps
no_more ps ks h = length-le_from_distinct_below ks (length ps) (all_differ ps ks 0 (λ i lt. (let e = h.is i lt in omega (arith, e)))) (λ q t. below ps ks h q (has_flipped ks q t))

pub has_room : (ps ks : List ℕ) (v : ℕ) → NamesPlaces ps ks → v < length ps → has ks v ≡ false → length ks < length ps
has_room ps ks v h lt none =
    let all : length (v ∷ ks) ≤ length ps =
    length-le_from_distinct_below (v ∷ ks) (length ps)
    (IsDistinct-cons eqb v ks (all_others ks v (both_ways (has ks v) none)) (all_differ ps ks 0 (λ i below. (let e = h.is i below in omega (arith, e)))))
    (λ q t. elim (or_cases (eqb q v) (list_any (eqb q) ks) t) [
      | inl e ↦ subst (λ (j : ℕ). j < length ps) (sym (eqb-true q v e)) lt
      | inr there ↦ below ps ks h q (has_flipped ks q there)
    ])
    in omega (arith, all)
