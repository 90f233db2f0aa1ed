-- How a heap holds which variables wait. Variables are counted from 0 here.
use Rattle.std.specs.Prelude.{◌≡◌, ℕ, ◌≤◌, nat_lt, Bool, List, length, map}
use Rattle.mono_base.specs.declared.limits.TheConstants.{MAX_VARS}
use Rattle.mono_base.specs.Ranking.{RankingView, AreInverse}

-- the variables at the first `count` places wait
abbrev pub waits_of : ℕ → List ℕ → List Bool
waits_of count places = map (λ p. nat_lt p count) places

-- what the fields of a heap keep
pub record IsHeap (r : RankingView) (count activities : ℕ) : Type 0 where
  pub inverse : AreInverse r.items r.places
  pub within : count ≤ length r.items
  pub scored : activities ≡ length r.items
  pub few : length r.items ≤ MAX_VARS
