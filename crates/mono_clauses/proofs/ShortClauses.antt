-- Clauses of two and of three literals, all of which are known.
use Rattle.std.proofs.Common.{◌≡◌, ◌≢◌, ℕ, zero, suc, ◌<◌, true, false, List, length, get_or, arith, refl, sym, ◌∙◌, ap, eqb, ◌⊎◌, inl, inr}
use Rattle.std.specs.Prelude.{ℤ, pos}
use Rattle.std.proofs.lemmas.Bool.Decides.{eqb_tells}
use Rattle.mono_base.specs.Literal.{lit_at}
use Rattle.mono_base.specs.Partial.{value_by}
use Rattle.mono_base.specs.declared.value.Value.TheVariants.{No}
use Rattle.mono_clauses.specs.ClauseValues.{FalseBut}
use Rattle.mono_clauses.specs.Lists.{Stands}

two : (i j k : ℕ) → i < 2 → j < 2 → k < 2 → i ≢ j → k ≢ i → k ≢ j → ⊥
two zero zero k a b c d e f = d refl
two zero (suc zero) zero a b c d e f = e refl
two zero (suc zero) (suc zero) a b c d e f = f refl
two zero (suc zero) (suc (suc k)) a b c d e f = omega (arith, c)
two zero (suc (suc j)) k a b c d e f = omega (arith, b)
two (suc zero) zero zero a b c d e f = f refl
two (suc zero) zero (suc zero) a b c d e f = e refl
two (suc zero) zero (suc (suc k)) a b c d e f = omega (arith, c)
two (suc zero) (suc zero) k a b c d e f = d refl
two (suc zero) (suc (suc j)) k a b c d e f = omega (arith, b)
two (suc (suc i)) j k a b c d e f = omega (arith, a)

-- below 3, what is not zero is one more than something below 2
down : (n m : ℕ) → suc n ≢ suc m → n ≢ m
down n m d e = d (ap suc e)

three : (i j m k : ℕ) → i < 3 → j < 3 → m < 3 → k < 3 → i ≢ j → i ≢ m → j ≢ m → k ≢ i → k ≢ j → k ≢ m → ⊥
three i j m zero a b c d ij im jm ki kj km = below i j m a b c ij im jm ki kj km
  where
    below : (i j m : ℕ) → i < 3 → j < 3 → m < 3 → i ≢ j → i ≢ m → j ≢ m → zero ≢ i → zero ≢ j → zero ≢ m → ⊥
    below zero j m a b c ij im jm ki kj km = ki refl
    below (suc i) zero m a b c ij im jm ki kj km = kj refl
    below (suc i) (suc j) zero a b c ij im jm ki kj km = km refl
    below (suc i) (suc j) (suc m) a b c ij im jm ki kj km = two i j m (omega (arith, a)) (omega (arith, b)) (omega (arith, c)) (down i j ij) (λ e. down i m im (sym e)) (λ e. down j m jm (sym e))
three zero j m (suc k) a b c d ij im jm ki kj km = below j m b c d ij im jm kj km
  where
    below : (j m : ℕ) → j < 3 → m < 3 → suc k < 3 → zero ≢ j → zero ≢ m → j ≢ m → suc k ≢ j → suc k ≢ m → ⊥
    below zero m b c d ij im jm kj km = ij refl
    below (suc j) zero b c d ij im jm kj km = im refl
    below (suc j) (suc m) b c d ij im jm kj km = two j m k (omega (arith, b)) (omega (arith, c)) (omega (arith, d)) (down j m jm) (down k j kj) (down k m km)
three (suc i) zero m (suc k) a b c d ij im jm ki kj km = below m c im jm km
  where
    below : (m : ℕ) → m < 3 → suc i ≢ m → zero ≢ m → suc k ≢ m → ⊥
    below zero c im jm km = jm refl
    below (suc m) c im jm km = two i m k (omega (arith, a)) (omega (arith, c)) (omega (arith, d)) (down i m im) (down k i ki) (down k m km)
three (suc i) (suc j) zero (suc k) a b c d ij im jm ki kj km = two i j k (omega (arith, a)) (omega (arith, b)) (omega (arith, d)) (down i j ij) (down k i ki) (down k j kj)
three (suc i) (suc j) (suc m) (suc k) a b c d ij im jm ki kj km = two i j m (omega (arith, a)) (omega (arith, b)) (omega (arith, c)) (down i j ij) (λ e. down i m im (sym e)) (λ e. down j m jm (sym e))

places_differ : (c : List ℤ) (a b : ℤ) (s : Stands c a) (r : Stands c b) → a ≢ b → s.place ≢ r.place
places_differ c a b s r d e = d (sym s.there ∙ ap (λ (k : ℕ). get_or c k (pos 0)) e ∙ r.there)

other_place : (c : List ℤ) (k : ℕ) (a : ℤ) (s : Stands c a) → lit_at c k ≢ a → k ≢ s.place
other_place c k a s d e = d (ap (λ (j : ℕ). get_or c j (pos 0)) e ∙ s.there)

-- both are known
pub cover_two : (t c : List ℤ) (a b : ℤ) → length c ≡ 2 → Stands c a → Stands c b → a ≢ b → value_by t a ≡ No → FalseBut t c b
cover_two t c a b n s r d f = record { at = λ k lt o. by_place k lt o (eqb_tells k s.place) }
  where
    by_place : (k : ℕ) → k < length c → lit_at c k ≢ b → ((eqb k s.place ≡ true) × (k ≡ s.place)) ⊎ ((eqb k s.place ≡ false) × (k ≢ s.place)) → value_by t (lit_at c k) ≡ No
    by_place k lt o (inl q) = ap (value_by t) (ap (λ (j : ℕ). get_or c j (pos 0)) q.1 ∙ s.there) ∙ f
    by_place k lt o (inr q) = absurd (two s.place r.place k (omega (arith, s.within, n)) (omega (arith, r.within, n)) (omega (arith, lt, n)) (places_differ c a b s r d) q.1 (other_place c k b r o))

-- all three are known
pub cover_three : (t c : List ℤ) (a b x : ℤ) → length c ≡ 3 → Stands c a → Stands c b → Stands c x → a ≢ b → x ≢ a → x ≢ b → value_by t a ≡ No → value_by t x ≡ No → FalseBut t c b
cover_three t c a b x n s r q d e g f h = record { at = λ k lt o. by_place k lt o (eqb_tells k s.place) (eqb_tells k q.place) }
  where
    by_place : (k : ℕ) → k < length c → lit_at c k ≢ b → ((eqb k s.place ≡ true) × (k ≡ s.place)) ⊎ ((eqb k s.place ≡ false) × (k ≢ s.place)) → ((eqb k q.place ≡ true) × (k ≡ q.place)) ⊎ ((eqb k q.place ≡ false) × (k ≢ q.place)) → value_by t (lit_at c k) ≡ No
    by_place k lt o (inl u) v = ap (value_by t) (ap (λ (j : ℕ). get_or c j (pos 0)) u.1 ∙ s.there) ∙ f
    by_place k lt o (inr u) (inl v) = ap (value_by t) (ap (λ (j : ℕ). get_or c j (pos 0)) v.1 ∙ q.there) ∙ h
    by_place k lt o (inr u) (inr v) = absurd (three s.place q.place r.place k (omega (arith, s.within, n)) (omega (arith, q.within, n)) (omega (arith, r.within, n)) (omega (arith, lt, n)) (places_differ c a x s q (λ z. e (sym z))) (places_differ c a b s r d) (places_differ c x b q r g) u.1 v.1 (other_place c k b r o))
