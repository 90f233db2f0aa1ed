-- What the clause store holds of a search first: the problem's clauses by their numbers.
use Rattle.std.specs.Prelude.{ℕ, suc, ℤ, List, [], ◌∷◌}
use Rattle.mono_clauses.specs.Store.{Held}

-- clauses numbered from n + 1
abbrev pub inputs_from : ℕ → List (List ℤ) → List Held
inputs_from n [] = []
inputs_from n (c ∷ cs) = record { number = suc n; lits = c } ∷ inputs_from (suc n) cs
