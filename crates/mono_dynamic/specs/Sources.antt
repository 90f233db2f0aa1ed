-- The rows that are asked for: one for each slot, with the greatest amount that is asked for.
use Rattle.std.specs.Prelude.{◌≡◌, ℕ, ◌<◌, ◌≤◌, List, Option, Some, None, IfSome, length, slice_index_or}

-- no two rows have the same slot
pub record AreApart {X : Type 0} (slot : X → ℕ) (rows : List X) : Type 0 where
  pub same : (i j : ℕ) (d e : X) → i < length rows → j < length rows → slot (slice_index_or rows i d) ≡ slot (slice_index_or rows j e) → i ≡ j

-- the row is of the slot of what is asked, and has as much
pub record IsServed {X : Type 0} (slot amount : X → ℕ) (asked : X) (rows : List X) (r : ℕ) : Type 0 where
  pub held : r < length rows
  pub slot_is : (d : X) → slot (slice_index_or rows r d) ≡ slot asked
  pub enough : (d : X) → amount asked ≤ amount (slice_index_or rows r d)

-- each of the first n that are asked has a row that serves it
pub record HaveRows {X : Type 0} (slot amount : X → ℕ) (asked : List X) (n : ℕ) (row_of : List ℕ) (rows : List X) : Type 0 where
  pub len : length row_of ≡ n
  pub each : (i : ℕ) (d : X) → i < n → IsServed slot amount (slice_index_or asked i d) rows (slice_index_or row_of i 0)

-- there are more rows, and none has less than before
pub record AreMore {X : Type 0} (slot amount : X → ℕ) (olds news : List X) : Type 0 where
  pub len : length olds ≤ length news
  pub slot_is : (i : ℕ) (d : X) → i < length olds → slot (slice_index_or news i d) ≡ slot (slice_index_or olds i d)
  pub enough : (i : ℕ) (d : X) → i < length olds → amount (slice_index_or olds i d) ≤ amount (slice_index_or news i d)

-- by slot its row, if it has one
pub record IsRowTable {X : Type 0} (slot : X → ℕ) (table : List (Option ℕ)) (rows : List X) : Type 0 where
  pub each : (t : ℕ) → t < length table → IfSome (slice_index_or table t None) (λ r. (r < length rows) × ((d : X) → slot (slice_index_or rows r d) ≡ t))
  pub listed : (r : ℕ) (d : X) → r < length rows → slice_index_or table (slot (slice_index_or rows r d)) None ≡ Some r
