use Rattle.std.proofs.Common.{take}
use Rattle.mono_flows.specs.Residual.{amount_of}
use Rattle.mono_flows.proofs.Expand.{Expanding}
use Rattle.mono_flows.proofs.search.AugmentingSearch.expand.Given as goal

abbrev pub invariant-loop-place : goal.invariant-loop-place
invariant-loop-place l = Expanding l.network.graph.now l.network.part.now (amount_of l.amounts) l.network.sink l.initial.self.marks.items l.self.marks.items l.initial.self.visits.items l.self.visits.items l.back (take l.place-index l.places)
