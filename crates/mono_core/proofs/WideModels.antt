-- Models with values for more variables than a problem has.
use Rattle.std.proofs.Common.{◌≡◌, ℕ, zero, suc, ◌≤◌, max, Bool, false, List, [], ◌∷◌, map, take, All, refl, sym, subst, arith, ℤ, length-take}
use Rattle.std.specs.Prelude.{IsTrue, nat_abs}
use Rattle.std.proofs.lemmas.List.{get_or-take}
use Rattle.std.proofs.lemmas.List.Elements.{All-append, All-cons, All-nil}
use Rattle.mono_base.specs.Literal.{all_true, value_in}
use Rattle.mono_problem.specs.Assuming.{assuming}
use Rattle.mono_problem.specs.Growth.{greatest_var}
use Rattle.mono_problem.specs.Instance.{Instance}
use Rattle.mono_problem.specs.WellFormed.{IsInstance}
use Rattle.mono_problem.proofs.Assumed.{greatest_low}
use Rattle.mono_problem.proofs.SameValues.{IsLow, all_same, agrees_same}
use Rattle.mono_search.specs.Outcomes.{HasModel}
use Rattle.mono_core.specs.Cores.{IsWideModel}

-- the clauses of a problem under assumptions are over its variables
units_low : (v n : ℕ) (xs : List ℤ) → greatest_var v xs ≤ n → All (All (IsLow n)) (map (λ l. l ∷ []) xs)
units_low v n [] h = λ k d lt. absurd (omega (arith, lt))
units_low v n (x ∷ xs) h =
    let first : nat_abs x ≤ n = omega (arith, greatest_low (max v (nat_abs x)) xs, h) in
    All-cons (All (IsLow n)) (x ∷ []) (map (λ l. l ∷ []) xs) (All-cons (IsLow n) x [] first (All-nil (IsLow n))) (units_low (max v (nat_abs x)) n xs h)

clauses_low : (p : Instance) (xs : List ℤ) (n : ℕ) → IsInstance p → greatest_var p.vars xs ≤ n → All (All (IsLow n)) (assuming p xs).clauses
clauses_low p xs n ok h =
    All-append (All (IsLow n)) p.clauses (map (λ l. l ∷ []) xs) (λ k d lt i e low. omega (arith, (ok.clauses k d lt i e low).1, greatest_low p.vars xs, h)) (units_low p.vars n xs h)

-- a model with values for more variables, cut
value_cut : (values : List Bool) (n v : ℕ) → v ≤ n → value_in values v ≡ value_in (take n values) v
value_cut values n zero h = refl
value_cut values n (suc k) h = sym (get_or-take n values k false (omega (arith, h)))

pub wide_cut : (p : Instance) (xs : List ℤ) (values : List Bool) → IsInstance p → IsWideModel (assuming p xs) values → HasModel (assuming p xs) (take (greatest_var p.vars xs) values)
wide_cut p xs values ok h =
    let n = greatest_var p.vars xs in
    let a = value_in values in
    let b = value_in (take n values) in
    let same = value_cut values n in
    let clauses : all_true a (assuming p xs).clauses ≡ all_true b (assuming p xs).clauses = all_same a b n same (assuming p xs).clauses (clauses_low p xs n ok (omega arith)) in
    record {
      len = simp length-take (omega (arith, h.enough));
      satisfies = (subst (λ (v : Bool). IsTrue v) clauses h.satisfies.0, agrees_same a b n same p ok (greatest_low p.vars xs) h.satisfies.1);
    }
