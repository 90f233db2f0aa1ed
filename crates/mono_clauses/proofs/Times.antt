-- How often a number stands in lists.
use Rattle.std.proofs.Common.{◌≡◌, ◌≢◌, ℕ, zero, suc, ◌<◌, true, false, List, [], ◌∷◌, ◌++◌, length, get_or, set, arith, refl, sym, ◌∙◌, ap, subst, eqb, eq-eqb, get_or-set_other, get_or-set_same, ◌⊎◌, inl, inr}
use Rattle.std.specs.Prelude.{ℤ, Option, None}
use Rattle.std.proofs.lemmas.Bool.Decides.{eqb_tells}
use Rattle.mono_clauses.specs.Lists.{times, list_at}

pub times_same : (w : ℕ) (xs : List ℕ) → times w (w ∷ xs) ≡ suc (times w xs)
times_same w xs = let t : eqb w w ≡ true = eq-eqb w w refl in rw t (omega arith)

pub times_other : (v w : ℕ) (xs : List ℕ) → v ≢ w → times v (w ∷ xs) ≡ times v xs
times_other v w xs n = by_test (eqb_tells w v)
  where
    by_test : ((eqb w v ≡ true) × (w ≡ v)) ⊎ ((eqb w v ≡ false) × (w ≢ v)) → times v (w ∷ xs) ≡ times v xs
    by_test (inl s) = absurd (n (sym s.1))
    by_test (inr o) = rw o.0 (omega arith)

-- other watchers of a list to whose front one joins
pub joins_other : (ls : List (List ℕ)) (c w v k : ℕ) → c < length ls → v ≢ w → times v (list_at (set ls c (w ∷ list_at ls c)) k) ≡ times v (list_at ls k)
joins_other ls c w v k lt n = by_test (eqb_tells c k)
  where
    by_test : ((eqb c k ≡ true) × (c ≡ k)) ⊎ ((eqb c k ≡ false) × (c ≢ k)) → times v (list_at (set ls c (w ∷ list_at ls c)) k) ≡ times v (list_at ls k)
    by_test (inl s) = subst (λ (j : ℕ). times v (list_at (set ls c (w ∷ list_at ls c)) j) ≡ times v (list_at ls j)) s.1 (ap (times v) (get_or-set_same ls c (w ∷ list_at ls c) [] lt) ∙ times_other v w (list_at ls c) n)
    by_test (inr o) = ap (times v) (get_or-set_other ls c k (w ∷ list_at ls c) [] (λ e. o.1 (sym e)))

pub none_more : (xs : List (Option ℤ)) (k : ℕ) → get_or (xs ++ None ∷ []) k None ≡ get_or xs k None
none_more [] zero = refl
none_more [] (suc k) = refl
none_more (x ∷ xs) zero = refl
none_more (x ∷ xs) (suc k) = none_more xs k
