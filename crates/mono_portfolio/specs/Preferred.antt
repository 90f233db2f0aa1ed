-- The literals that a worker prefers.
use Rattle.std.specs.Prelude.{ℕ, zero, suc, ◌+◌, ◌%◌, Bool, ◌&&◌, ◌==◌, nat_le, if◌then◌else◌, ℤ, pos, List, [], ◌∷◌, ◌++◌}

-- worker w prefers the variable to be true: w is at least 1, and w + 1 divides the variable
abbrev pub prefers : ℕ → ℕ → Bool
prefers w v = nat_le 1 w && (v % (w + 1) == 0)

-- of the first variables
abbrev pub preferred : ℕ → ℕ → List ℤ
preferred w zero = []
preferred w (suc v) = if prefers w (suc v) then preferred w v ++ pos (suc v) ∷ [] else preferred w v
