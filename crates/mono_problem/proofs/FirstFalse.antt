-- The first false clause, after a look at the clauses in order.
use Rattle.std.proofs.Common.{◌≡◌, ℕ, ◌+◌, ◌<◌, Bool, true, false, List, [], length, get_or, Some, None, refl, ap, arith}
use Rattle.std.specs.Prelude.{ℤ, not}
use Rattle.std.proofs.lemmas.List.Sums.{position_or_len_is}
use Rattle.std.proofs.lemmas.Bool.{lt-ltb, le-ltb}
use Rattle.mono_base.specs.Literal.{clause_true, first_false}

-- every clause before the place is true
abbrev pub AreTrueBelow : (ℕ → Bool) → List (List ℤ) → ℕ → Type 0
AreTrueBelow a cs i = (k : ℕ) → k < i → clause_true a (get_or cs k []) ≡ true

pub first_false-found : (a : ℕ → Bool) (cs : List (List ℤ)) (i : ℕ) → i < length cs → AreTrueBelow a cs i → clause_true a (get_or cs i []) ≡ false → first_false a cs ≡ Some (i + 1)
first_false-found a cs i low before here =
    let at = position_or_len_is (λ c. not (clause_true a c)) cs i [] (omega arith) (λ k below. ap not (before k below)) (λ _. ap not here) in
    rw (at, lt-ltb i (length cs) low) refl

pub first_false-none : (a : ℕ → Bool) (cs : List (List ℤ)) → AreTrueBelow a cs (length cs) → first_false a cs ≡ None
first_false-none a cs before =
    let at = position_or_len_is (λ c. not (clause_true a c)) cs (length cs) [] (omega arith) (λ k below. ap not (before k below)) (λ low. absurd (omega arith)) in
    rw (at, le-ltb (length cs) (length cs) (omega arith)) refl
