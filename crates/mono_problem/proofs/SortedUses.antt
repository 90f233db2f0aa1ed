-- The uses of a variable, in a list that is sorted by variable.
use Rattle.std.proofs.Common.{◌≡◌, ℕ, zero, suc, ◌-◌, ◌<◌, ◌≤◌, ◌==◌, Bool, true, false, cond, not, List, [], ◌∷◌, length, map, filter, take, drop, refl, sym, ap, ◌∙◌, inl, inr, arith}
use Rattle.std.specs.Prelude.{◌&&◌}
use Rattle.std.specs.Ordering.{nat_cmp, is_lt}
use Rattle.std.specs.List.Sorted.{IsNonDecreasingBy}
use Rattle.std.proofs.lemmas.List.{length-map, get_or-map}
use Rattle.std.proofs.lemmas.Bool.{cases_order, eq-eqb, ne_eqb, lt-ltb, le-ltb}
use Rattle.mono_problem.specs.declared.uses.Use.{Use}
use Rattle.mono_problem.specs.declared.uses.Use.TheVariants as use_of
use Rattle.mono_problem.specs.declared.uses.VarUse.{VarUse}
use Rattle.mono_problem.specs.Uses.{chosen, picked, IsRangeOf}

pub filter-same : (p q : VarUse → Bool) → ((u : VarUse) → p u ≡ q u) → (us : List VarUse) → filter p us ≡ filter q us
filter-same p q same [] = refl
filter-same p q same (u ∷ us) = rw (same u, filter-same p q same us) refl

-- uses tie exactly where their variables are the same
pub ties-var : (x : ℕ) (u : VarUse) → (not (is_lt (nat_cmp x u.var)) && not (is_lt (nat_cmp u.var x))) ≡ (u.var == x)
ties-var x u = elim (cases_order x u.var) [
  | inl same ↦ rw (le-ltb x u.var (omega arith), le-ltb u.var x (omega arith), eq-eqb x u.var same, eq-eqb u.var x (sym same)) refl
  | inr (inl less) ↦ rw (lt-ltb x u.var less, ne_eqb u.var x (λ e. absurd (omega arith))) refl
  | inr (inr more) ↦ rw (le-ltb x u.var (omega arith), lt-ltb u.var x more, ne_eqb x u.var (λ e. absurd (omega arith)), ne_eqb u.var x (λ e. absurd (omega arith))) refl
]

at-cond : (b : Bool) (u : VarUse) (us : List VarUse) → map (λ (u : VarUse). u.at) (cond b (u ∷ us) us) ≡ cond b (u.at ∷ map (λ (u : VarUse). u.at) us) (map (λ (u : VarUse). u.at) us)
at-cond true u us = refl
at-cond false u us = refl

pub chosen-map : (x : ℕ) (us : List VarUse) → chosen x (map (λ (u : VarUse). u.var) us) (map (λ (u : VarUse). u.at) us) ≡ picked x us
chosen-map x [] = refl
chosen-map x (u ∷ us) = ap (λ (ws : List Use). cond (u.var == x) (u.at ∷ ws) ws) (chosen-map x us) ∙ sym (at-cond (u.var == x) u (filter (λ (u : VarUse). u.var == x) us))

shifted : (v x s e : ℕ) (vs : List ℕ) → IsRangeOf (v ∷ vs) x (suc s) (suc e) → IsRangeOf vs x s e
shifted v x s e vs r = record {
  below = λ k low. r.below (suc k) (omega arith);
  at = λ k low high. r.at (suc k) (omega arith) (omega arith);
  above = λ k low high. r.above (suc k) (omega arith) (omega arith);
}

shifted_end : (v x e : ℕ) (vs : List ℕ) → IsRangeOf (v ∷ vs) x 0 (suc e) → IsRangeOf vs x 0 e
shifted_end v x e vs r = record {
  below = λ k low. absurd (omega arith);
  at = λ k low high. r.at (suc k) (omega arith) (omega arith);
  above = λ k low high. r.above (suc k) (omega arith) (omega arith);
}

shifted_past : (v x : ℕ) (vs : List ℕ) → IsRangeOf (v ∷ vs) x 0 0 → IsRangeOf vs x 0 0
shifted_past v x vs r = record {
  below = λ k low. absurd (omega arith);
  at = λ k low high. absurd (omega arith);
  above = λ k low high. r.above (suc k) (omega arith) (omega arith);
}

pub range-is : (vs : List ℕ) (us : List Use) (x s e : ℕ) → length vs ≡ length us → s ≤ e → e ≤ length vs → IsRangeOf vs x s e → take (e - s) (drop s us) ≡ chosen x vs us
range-is [] [] x s e same rises within r = let none : e ≡ 0 = omega (arith, within) in let first : s ≡ 0 = omega (arith, rises, within) in rw (none, first) refl
range-is [] (u ∷ us) x s e same rises within r = absurd (omega (arith, same))
range-is (v ∷ vs) [] x s e same rises within r = absurd (omega (arith, same))
range-is (v ∷ vs) (u ∷ us) x (suc s) zero same rises within r = absurd (omega (arith, rises))
range-is (v ∷ vs) (u ∷ us) x (suc s) (suc e) same rises within r =
    let less : v < x = r.below 0 (omega arith) in
    let other : (v == x) ≡ false = ne_eqb v x (λ is. absurd (omega (arith, is, less))) in
    let width : suc e - suc s ≡ e - s = omega arith in
    rw (other, width) (range-is vs us x s e (omega (arith, same)) (omega (arith, rises)) (omega (arith, within)) (shifted v x s e vs r))
range-is (v ∷ vs) (u ∷ us) x zero (suc e) same rises within r =
    let here : (v == x) ≡ true = eq-eqb v x (r.at 0 (omega arith) (omega arith)) in
    let tail = range-is vs us x 0 e (omega (arith, same)) (omega arith) (omega (arith, within)) (shifted_end v x e vs r) in
    let width : suc e - 0 ≡ suc (e - 0) = omega arith in
    rw (here, width) (ap (λ (ws : List Use). u ∷ ws) tail)
range-is (v ∷ vs) (u ∷ us) x zero zero same rises within r =
    let more : x < v = r.above 0 (omega arith) (omega arith) in
    let other : (v == x) ≡ false = ne_eqb v x (λ is. absurd (omega (arith, is, more))) in
    rw other (range-is vs us x 0 0 (omega (arith, same)) (omega arith) (omega arith) (shifted_past v x vs r))

pub rising-map : (us : List VarUse) → IsNonDecreasingBy (λ (u : VarUse). u.var) us → IsNonDecreasingBy (λ (v : ℕ). v) (map (λ (u : VarUse). u.var) us)
rising-map us rises i j d low high =
    let none : VarUse = record { var = 0; at = use_of.Atom 0 } in
    let within : j < length us = omega (arith, length-map us (λ (u : VarUse). u.var)) in
    let first = get_or-map (λ (u : VarUse). u.var) us i none d (omega arith) in
    let second = get_or-map (λ (u : VarUse). u.var) us j none d within in
    omega (arith, first, second, rises i j none low within)
