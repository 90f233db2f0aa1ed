-- The clause that a chain has come to, kept as a set of literals.
use Rattle.std.specs.Prelude.{◌≡◌, Bool, true, false, ℤ, List, Option, Some, None}
use Rattle.mono_base.specs.Literal.{has_lit}

-- the set has the literals of the clause
abbrev pub IsSetOf : List ℤ → List ℤ → Type 0
IsSetOf s c = (l : ℤ) → has_lit s l ≡ has_lit c l

-- whether there is a clause, and then the set is that clause
abbrev pub HasCome : Option (List ℤ) → Bool → List ℤ → Type 0
HasCome None came s = came ≡ false
HasCome (Some c) came s = (came ≡ true) × IsSetOf s c
