-- What a finder keeps between two calls: room for a search in a graph of as many nodes.
use Rattle.std.specs.Prelude.{ℕ, length}
use Rattle.mono_flows.specs.declared.finder.FlowFinder.TheInside.{Inside}
use Rattle.mono_flows.specs.Visits.{IsFlowSearch}
use Rattle.mono_flows.specs.Levels.{AreLevels}
use Rattle.mono_flows.specs.Rooms.{IsClearRoom}
use Rattle.mono_flows.specs.Sums.{AreZero}

abbrev pub node_count : Inside → ℕ
node_count f = length f.search.marks.items

pub record IsReady (f : Inside) : Type 0 where
  pub search : IsFlowSearch (node_count f) f.search
  pub levels : AreLevels (node_count f) f.levels
  pub sums : AreZero (node_count f) f.sums
  pub room : IsClearRoom f.room
