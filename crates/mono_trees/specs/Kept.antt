-- What the labels keep.
use Rattle.std.specs.Prelude.{◌≡◌, ℕ, ◌^◌, ◌==◌, if◌then◌else◌, ◌<◌, ◌⊎◌, List, [], length, slice_index, slice_index_or, IsTrue}
use Rattle.mono_graph.specs.Digraph.{has}

-- Each label is a node with that label. A label's list has the nodes with it, its own node perhaps left out.
pub record AreLists (labels : List ℕ) (lists : List (List ℕ)) : Type 0 where
  pub few : length labels < 2 ^ 32
  pub len : length lists ≡ length labels
  pub label : (u : ℕ) → u < length labels → slice_index labels u < length labels
  pub own : (u : ℕ) → u < length labels → slice_index labels (slice_index labels u) ≡ slice_index labels u
  pub held : (u : ℕ) → u < length labels → (u ≡ slice_index labels u) ⊎ IsTrue (has (slice_index_or lists (slice_index labels u) []) u)
  pub only : (l u : ℕ) → l < length labels → IsTrue (has (slice_index_or lists l []) u) → (u < length labels) × (slice_index labels u ≡ l)

-- the label small became large
abbrev pub moved_label : ℕ → ℕ → ℕ → ℕ
moved_label small large l = if l == small then large else l
