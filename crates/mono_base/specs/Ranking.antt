-- Numbers in an order, and the place of each.
use Rattle.std.specs.Prelude.{◌≡◌, ℕ, ◌<◌, ◌^◌, List, length, slice_index_or, slice_set}
use Rattle.std.specs.List.{range_with_len}

pub record RankingView : Type 0 where
  pub items : List ℕ
  pub places : List ℕ

-- the numbers from 0 up, in their own order
abbrev pub in_order : ℕ → RankingView
in_order count = record { items = range_with_len 0 count; places = range_with_len 0 count }

-- the items by place and the places by item are inverse to one another
pub record AreInverse (items places : List ℕ) : Type 0 where
  pub as_many : length places ≡ length items
  pub listed : (k : ℕ) → k < length items → (slice_index_or items k 0 < length items) × (slice_index_or places (slice_index_or items k 0) 0 ≡ k)
  pub stands : (i : ℕ) → i < length items → (slice_index_or places i 0 < length items) × (slice_index_or items (slice_index_or places i 0) 0 ≡ i)

-- what the fields of a ranking keep
pub record IsRanking (items places : List ℕ) : Type 0 where
  pub inverse : AreInverse items places
  pub few : length items < 2 ^ 32

-- the list with the items at two places exchanged
abbrev pub exchanged : List ℕ → ℕ → ℕ → List ℕ
exchanged items first second = slice_set (slice_set items first (slice_index_or items second 0)) second (slice_index_or items first 0)

-- the items at two places change places
abbrev pub with_exchange : RankingView → ℕ → ℕ → RankingView
with_exchange r first second = record {
  items = exchanged r.items first second;
  places = slice_set (slice_set r.places (slice_index_or r.items second 0) first) (slice_index_or r.items first 0) second;
}
