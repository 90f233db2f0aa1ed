-- Tokens read one after the other.
use Rattle.std.proofs.Common.{ℕ, List, ◌++◌, Option, option_map, ℤ}

-- what is read of a line, behind the literals that were read before
abbrev pub behind_lits : List ℤ → Option (List ℤ × List (List ℕ)) → Option (List ℤ × List (List ℕ))
behind_lits xs o = option_map (λ p. (xs ++ p.0, p.1)) o

-- a list that is read, behind what was read of it before
abbrev pub behind_list : {A : Type 0} → List A → Option (List A) → Option (List A)
behind_list xs o = option_map (λ ys. xs ++ ys) o
