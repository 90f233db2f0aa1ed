-- Places that are listed since something new is known of their keys: atoms that are due, by their nodes.
use Rattle.std.specs.Prelude.{◌≡◌, ℕ, ◌<◌, Bool, true, false, List, length, slice_index, slice_index_or, IsTrue}
use Rattle.mono_graph.specs.Digraph.{has}
use Rattle.mono_base.specs.Worklist.{is_listed}

-- the atoms of these nodes are due, and those that were due still are
pub record PutsNodes (node_of : List ℕ) (nodes : List ℕ) (before after : List Bool) : Type 0 where
  pub size : length after ≡ length before
  pub stay : (a : ℕ) → is_listed after a ≡ false → is_listed before a ≡ false
  pub each : (a : ℕ) → a < length node_of → IsTrue (has nodes (slice_index node_of a)) → is_listed after a ≡ true

-- the atoms of the nodes that the first n rows have are due, and those that were due still are
pub record PutsRows {R : Type 0} (node_of : List ℕ) (nodes : R → List ℕ) (rows : List R) (n : ℕ) (before after : List Bool) : Type 0 where
  pub size : length after ≡ length before
  pub stay : (a : ℕ) → is_listed after a ≡ false → is_listed before a ≡ false
  pub each : (i a : ℕ) (d : R) → i < n → a < length node_of → IsTrue (has (nodes (slice_index_or rows i d)) (slice_index node_of a))
      → is_listed after a ≡ true
