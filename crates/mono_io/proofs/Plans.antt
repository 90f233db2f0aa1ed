-- A plan with no call still to come stays one.
use Rattle.std.proofs.Common.{◌≡◌, ℕ, ◌+◌, ◌≤◌, ◌==◌, true, false, nat_le, List, [], ◌∷◌, refl, arith}
use Rattle.std.proofs.lemmas.Bool.{and_parts, and_from}
use Rattle.std.proofs.lemmas.Bool.Decides.{nat_tests}
use Rattle.std.specs.List.{list_any, list_all}

later : (call calls now : ℕ) → calls ≤ now → nat_le call calls ≡ true → nat_le call now ≡ true
later call calls now more h = grind (arith, nat_tests)

pub still_over : (calls now : ℕ) (listed : List ℕ) → calls ≤ now → list_all (λ call. nat_le call calls) listed ≡ true → list_all (λ call. nat_le call now) listed ≡ true
still_over calls now [] more h = refl
still_over calls now (x ∷ xs) more h =
    let both = and_parts (nat_le x calls) (list_all (λ call. nat_le call calls) xs) h in
    and_from (nat_le x now) (list_all (λ call. nat_le call now) xs) (later x calls now more both.0) (still_over calls now xs more both.1)

not_next : (call calls : ℕ) → nat_le call calls ≡ true → (call == (calls + 1)) ≡ false
not_next call calls h = grind (arith, nat_tests)

pub none_listed : (calls : ℕ) (listed : List ℕ) → list_all (λ call. nat_le call calls) listed ≡ true → list_any (λ call. call == (calls + 1)) listed ≡ false
none_listed calls [] h = refl
none_listed calls (x ∷ xs) h =
    let both = and_parts (nat_le x calls) (list_all (λ call. nat_le call calls) xs) h in
    rw (not_next x calls both.0) (none_listed calls xs both.1)
