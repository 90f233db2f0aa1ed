use Rattle.std.proofs.Common.{◌≡◌, ℕ, suc, zero, [], ◌∷◌, true, false, refl, arith}
use Rattle.mono_steps.specs.Needed.{is_set}
use Rattle.mono_search_rows.proofs.worked_outcomes.needs_of_both_kinds.Goals as goal

pub returns-clause-model : goal.returns-clause-model
returns-clause-model c = tt

pub returns-clause-tried : goal.returns-clause-tried
returns-clause-tried c = record {
  flags = false ∷ [];
  as_many = refl;
  is = refl;
  without = refl;
  others = λ i other on. no_other i other on;
  progress = record { justified = refl; new = record { chains = tt; none_empty = refl }; chains = refl; few = omega arith; short = omega arith };
}
  where
    no_other : (i : ℕ) → (i ≡ 0 → ⊥) → is_set (true ∷ []) i ≡ true → is_set (false ∷ []) i ≡ true
    no_other zero other on = absurd (other refl)
    no_other (suc i) other on = cc
