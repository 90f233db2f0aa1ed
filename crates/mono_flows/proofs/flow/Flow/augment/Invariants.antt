use Rattle.std.proofs.Common.{◌≡◌, ◌<◌, All, ℕ, length}
use Rattle.mono_flows.specs.Residual.{amount_of}
use Rattle.mono_flows.proofs.Augmenting.{AreTouched, Moving}
use Rattle.mono_flows.proofs.flow.Flow.augment.Given as goal

abbrev pub invariant-loop-at : goal.invariant-loop-at
invariant-loop-at l = record {
  len : length l.self.amounts.items ≡ length l.network.graph.now.edges;
  value : l.self.value ≡ l.initial.self.value;
  known : All (λ (k : ℕ). k < length l.network.graph.now.edges) l.self.touched.items;
  touched : AreTouched l.self.amounts.items l.self.touched.items;
  moving : Moving l.network.graph.now l.network.part.now l.network.sink l.extra l.path (amount_of l.initial.self.amounts.items) (amount_of l.self.amounts.items) l.at;
}

abbrev pub decreases-loop-at : goal.decreases-loop-at
decreases-loop-at l = l.at
