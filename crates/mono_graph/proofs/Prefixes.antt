-- Lists that are gone through from the front, and the marks that are set and cleared on the way.
use Rattle.std.proofs.Common.{◌≡◌, ◌≢◌, ℕ, zero, suc, ◌<◌, ◌≤◌, Bool, true, false, not, ◌||◌, ◌⊎◌, List, [], ◌∷◌, ◌++◌, length, get_or, set, take, refl, sym, ap, subst, ◌∙◌, inl, inr, arith}
use Rattle.std.specs.Prelude.{IsTrue, ◌==◌}
use Rattle.std.proofs.lemmas.Bool.{and_from, and_parts, or_left, or_right, cases_eq, cases_lt, both_ways, eq-eqb, ne_eqb, false_from_ne_true, not-true, not_from_false}
use Rattle.std.proofs.lemmas.List.{get_or-set_same, get_or-set_other, get_or_past, length-set}
use Rattle.mono_graph.specs.Digraph.{has, is_distinct}
use Rattle.mono_graph.proofs.Membership.{has_cons, has_here, has_there}

pub has_push : (xs : List ℕ) (x k : ℕ) → has (xs ++ x ∷ []) k ≡ (has xs k || x == k)
has_push [] x k = by_test (x == k)
  where
    by_test : (b : Bool) → (b || false) ≡ (false || b)
    by_test true = refl
    by_test false = refl
has_push (y ∷ xs) x k = ap (λ (b : Bool). y == k || b) (has_push xs x k) ∙ regroup (y == k) (has xs k) (x == k)
  where
    regroup : (a b c : Bool) → (a || (b || c)) ≡ ((a || b) || c)
    regroup true b c = refl
    regroup false b c = refl

-- what a list has, after one more
pub has_old : (xs : List ℕ) (x k : ℕ) → IsTrue (has xs k) → IsTrue (has (xs ++ x ∷ []) k)
has_old xs x k h = has_push xs x k ∙ or_left (has xs k) (x == k) h

pub has_new : (xs : List ℕ) (x : ℕ) → IsTrue (has (xs ++ x ∷ []) x)
has_new xs x = has_push xs x x ∙ or_right (has xs x) (x == x) (eq-eqb x x refl)

pub has_other : (xs : List ℕ) (x k : ℕ) → (x ≢ k) → has (xs ++ x ∷ []) k ≡ has xs k
has_other xs x k ne = has_push xs x k ∙ (ap (λ (b : Bool). has xs k || b) (ne_eqb x k ne) ∙ off (has xs k))
  where
    off : (b : Bool) → (b || false) ≡ b
    off true = refl
    off false = refl

pub has_again : (xs : List ℕ) (x k : ℕ) → IsTrue (has xs x) → has (xs ++ x ∷ []) k ≡ has xs k
has_again xs x k h = elim (cases_eq x k) [
  | inl e ↦ subst (λ (j : ℕ). has (xs ++ x ∷ []) j ≡ has xs j) e (has_new xs x ∙ sym h)
  | inr ne ↦ has_other xs x k ne
]

-- a list with no number twice stays one by a new number, and by none that it has
pub distinct_new : (xs : List ℕ) (x : ℕ) → IsTrue (is_distinct xs) → has xs x ≡ false → IsTrue (is_distinct (xs ++ x ∷ []))
distinct_new [] x d n = refl
distinct_new (y ∷ xs) x d n =
    let parts = and_parts (not (has xs y)) (is_distinct xs) d in
    let apart : x ≢ y = λ e. both_ways (has (y ∷ xs) x) n (subst (λ (k : ℕ). IsTrue (has (y ∷ xs) k)) (sym e) (has_here y xs)) in
    let absent : has xs x ≡ false = false_from_ne_true (has xs x) (λ t. both_ways (has (y ∷ xs) x) n (has_there y x xs t)) in
    and_from (not (has (xs ++ x ∷ []) y)) (is_distinct (xs ++ x ∷ []))
    (not_from_false (has (xs ++ x ∷ []) y) (has_other xs x y apart ∙ not-true (has xs y) parts.0))
    (distinct_new xs x parts.1 absent)

pub not_distinct : (xs : List ℕ) (x : ℕ) → IsTrue (has xs x) → IsTrue (is_distinct (xs ++ x ∷ [])) → ⊥
not_distinct [] x h d = absurd cc
not_distinct (y ∷ xs) x h d =
    let parts = and_parts (not (has (xs ++ x ∷ []) y)) (is_distinct (xs ++ x ∷ [])) d in
    elim (has_cons y x xs h) [
      | inl e ↦ both_ways (has (xs ++ x ∷ []) y) (not-true (has (xs ++ x ∷ []) y) parts.0) (subst (λ (k : ℕ). IsTrue (has (xs ++ x ∷ []) k)) (sym e) (has_new xs x))
      | inr t ↦ not_distinct xs x t parts.1
    ]

pub take_has : (xs : List ℕ) (n x : ℕ) → IsTrue (has (take n xs) x) → IsTrue (has xs x)
take_has xs zero x h = absurd cc
take_has [] (suc n) x h = absurd cc
take_has (y ∷ xs) (suc n) x h = elim (has_cons y x (take n xs) h) [
  | inl e ↦ subst (λ (k : ℕ). IsTrue (has (y ∷ xs) k)) e (has_here y xs)
  | inr t ↦ has_there y x xs (take_has xs n x t)
]

pub distinct_take : (xs : List ℕ) (n : ℕ) → IsTrue (is_distinct xs) → IsTrue (is_distinct (take n xs))
distinct_take xs zero d = refl
distinct_take [] (suc n) d = refl
distinct_take (y ∷ xs) (suc n) d =
    let parts = and_parts (not (has xs y)) (is_distinct xs) d in
    and_from (not (has (take n xs) y)) (is_distinct (take n xs))
    (not_from_false (has (take n xs) y) (false_from_ne_true (has (take n xs) y) (λ t. both_ways (has xs y) (not-true (has xs y) parts.0) (take_has xs n y t))))
    (distinct_take xs n parts.1)

-- ---- cleared

-- at the numbers of the list there is the value, elsewhere what was there or the value
pub record Cleared {T : Type 0} (value : T) (was now : List T) (ks : List ℕ) : Type 0 where
  pub len : length now ≡ length was
  pub each : (k : ℕ) → (get_or now k value ≡ value) ⊎ ((get_or now k value ≡ get_or was k value) × (has ks k ≡ false))

pub cleared_none : {T : Type 0} (value : T) (was : List T) → Cleared value was was []
cleared_none value was = record { len = refl; each = λ k. inr (refl, refl) }

pub cleared_more : {T : Type 0} (value : T) (was now : List T) (ks : List ℕ) (j : ℕ) → Cleared value was now ks → Cleared value was (set now j value) (ks ++ j ∷ [])
cleared_more value was now ks j c = record {
  len = length-set now j value ∙ c.len;
  each = λ k. elim (cases_eq j k) [
    | inl e ↦ inl (subst (λ (i : ℕ). get_or (set now j value) i value ≡ value) e (here (cases_lt j (length now))))
    | inr ne ↦
        let same : get_or (set now j value) k value ≡ get_or now k value = get_or-set_other now j k value value (λ q. ne (sym q)) in
        elim (c.each k) [
          | inl v ↦ inl (same ∙ v)
          | inr w ↦ inr (same ∙ w.0, has_other ks j k ne ∙ w.1)
        ]
  ];
}
  where
    here : (j < length now) ⊎ (length now ≤ j) → get_or (set now j value) j value ≡ value
    here (inl lt) = get_or-set_same now j value value lt
    here (inr le) = get_or_past (set now j value) j value (omega (arith, length-set now j value))

-- where the list has each number at which there was something else, nothing else is left
pub cleared_all : {T : Type 0} (value : T) (was now : List T) (ks : List ℕ) → Cleared value was now ks → (k : ℕ) → (has ks k ≡ false → get_or was k value ≡ value) → get_or now k value ≡ value
cleared_all value was now ks c k h = elim (c.each k) [ inl v ↦ v | inr w ↦ w.0 ∙ h w.1 ]

-- ---- marked

pub marked_more : (now : List Bool) (ks : List ℕ) (j : ℕ) → j < length now → ((k : ℕ) → get_or now k false ≡ has ks k) → (k : ℕ) → get_or (set now j true) k false ≡ has (ks ++ j ∷ []) k
marked_more now ks j lt h k = elim (cases_eq j k) [
  | inl e ↦ subst (λ (i : ℕ). get_or (set now j true) i false ≡ has (ks ++ j ∷ []) i) e (get_or-set_same now j true false lt ∙ sym (has_new ks j))
  | inr ne ↦ get_or-set_other now j k true false (λ q. ne (sym q)) ∙ (h k ∙ sym (has_other ks j k ne))
]
