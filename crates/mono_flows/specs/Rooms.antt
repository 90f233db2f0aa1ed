-- Room by edge, which is clear between two searches.
use Rattle.std.specs.Prelude.{◌≡◌, ℕ, length}
use Rattle.mono_flows.specs.declared.edge_room.EdgeRoom.{EdgeRoom}
use Rattle.mono_flows.specs.Checker.{AreUnmarked}
use Rattle.mono_flows.specs.Residual.{amount_of}

-- no edge carries anything, and none is listed
pub record IsClearRoom (r : EdgeRoom) : Type 0 where
  pub amounts : (k : ℕ) → amount_of r.amounts.items k ≡ 0
  pub listed : AreUnmarked r.listed.items

-- it is for this many edges
pub record HasRoomFor (edges : ℕ) (r : EdgeRoom) : Type 0 where
  pub amounts : length r.amounts.items ≡ edges
  pub listed : length r.listed.items ≡ edges
