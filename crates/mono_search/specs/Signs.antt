-- The literals that are true in a model.
use Rattle.std.specs.Prelude.{◌≡◌, ℕ, ◌+◌, ◌<◌, ℤ, pos, Bool, false, List, length, get_or}
use Rattle.mono_steps.specs.Switching.{literal_of}

-- the literals of the first n variables that are true in the model, variable 1 first
pub record AreSigns (model : List Bool) (n : ℕ) (lits : List ℤ) : Type 0 where
  pub count : length lits ≡ n
  pub each : (k : ℕ) → k < n → get_or lits k (pos 0) ≡ literal_of (get_or model k false) (k + 1)
