use Rattle.std.proofs.Common.{◌+◌, ◌-◌, not, length}
use Rattle.std.specs.Prelude.{count_by}
use Rattle.mono_flows.specs.Residual.{amount_of}
use Rattle.mono_flows.proofs.Searches.{Searching, IsSpread}
use Rattle.mono_flows.proofs.search.AugmentingSearch.find_path.Given as goal

abbrev pub invariant-loop-head : goal.invariant-loop-head
invariant-loop-head l = record {
  searching : Searching l.network.graph.now l.network.part.now (amount_of l.amounts) l.network.source l.network.sink l.most l.self.marks.items l.self.visits.items;
  spread : IsSpread l.network.graph.now l.network.part.now (amount_of l.amounts) l.self.marks.items l.self.visits.items l.head;
}

abbrev pub decreases-loop-head : goal.decreases-loop-head
decreases-loop-head l = (count_by (λ b. not b) l.self.marks.items + length l.self.visits.items) - l.head
