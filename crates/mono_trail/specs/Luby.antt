-- Luby's sequence (Luby, Sinclair and Zuckerman, 1993): 1, 1, 2, 1, 1, 2, 4, 1, 1, 2, 1, 1, 2, 4, 8 and so on.
use Rattle.std.specs.Prelude.{ℕ, suc, ◌+◌, ◌-◌, ◌^◌, ◌<◌, ◌≤◌}

-- the k-th term, from the first. The first 2^(i+1) - 1 terms end with 2^i, and those before the end are the first 2^i - 1 terms, twice
pub data Luby : ℕ → ℕ → Type 0 where
  whole : (i : ℕ) → Luby (2 ^ suc i - 1) (2 ^ i)
  again : (i k v : ℕ) → 2 ^ i ≤ k → k < 2 ^ suc i - 1 → Luby (k - 2 ^ i + 1) v → Luby k v
