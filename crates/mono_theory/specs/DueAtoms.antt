-- The atoms of a side that are due: the side may show of them what their variables don't say yet.
use Rattle.std.specs.Prelude.{◌≡◌, ℕ, ◌<◌, Bool, true, false, List, length}
use Rattle.mono_base.specs.Worklist.{is_listed}

-- What a side shows has changed: each of the n atoms of which it shows something new is due then, and those that were due
-- still are.
pub record PutsDue (n : ℕ) (shown_before shown_after : ℕ → Bool) (before after : List Bool) : Type 0 where
  pub size : length after ≡ length before
  pub stay : (a : ℕ) → is_listed after a ≡ false → is_listed before a ≡ false
  pub newly : (a : ℕ) → a < n → is_listed after a ≡ false → shown_after a ≡ true → shown_before a ≡ true
