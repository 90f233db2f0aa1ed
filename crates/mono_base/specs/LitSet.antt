-- Sets of literals over the variables from 1 to a fixed number, and how a sparse set holds one.
use Rattle.std.specs.Prelude.{◌≡◌, ◌≢◌, ℕ, ◌+◌, ◌-◌, ◌*◌, ◌<◌, ◌≤◌, ℤ, pos, List, [], length, slice_index_or}
use Rattle.mono_base.specs.declared.limits.TheConstants.{MAX_VARS}
use Rattle.mono_base.specs.Literal.{IsLitWithin, slot}

-- a set of literals, as contracts see it: the greatest variable, and the members, each once, in any order
pub record LiteralSet : Type 0 where
  pub vars : ℕ
  pub members : List ℤ

abbrev pub empty_set : ℕ → LiteralSet
empty_set vars = record { vars = vars; members = [] }

-- the table says of each member its place plus 1, and of no other literal anything but 0
pub record IsIndexOf (places : List ℕ) (members : List ℤ) : Type 0 where
  pub listed : (k : ℕ) → k < length members → slice_index_or places (slot (slice_index_or members k (pos 0))) 0 ≡ k + 1
  pub stands : (i : ℕ) → slice_index_or places i 0 ≢ 0
      → (slice_index_or places i 0 ≤ length members) × (slot (slice_index_or members (slice_index_or places i 0 - 1) (pos 0)) ≡ i)

-- a sparse set with room for as many members as there are literals
pub record IsSparse (vars : ℕ) (places : List ℕ) (members : List ℤ) (room : ℕ) : Type 0 where
  pub few : vars ≤ MAX_VARS
  pub slots : length places ≡ 2 * vars + 2
  pub fits : length places ≤ room
  pub within : (k : ℕ) → k < length members → IsLitWithin vars (slice_index_or members k (pos 0))
  pub indexed : IsIndexOf places members
