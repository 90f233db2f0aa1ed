use Rattle.std.proofs.Common.{ℕ, ◌<◌, ◌≤◌, length}
use Rattle.mono_dynamic.specs.Arrivals.{arrival_at}
use Rattle.mono_dynamic.proofs.reached_nodes.count_within.Given as goal

abbrev pub invariant-loop-count : goal.invariant-loop-count
invariant-loop-count l = record {
  held : l.count ≤ length l.arrivals;
  later : (i : ℕ) → l.count ≤ i → i < length l.arrivals → l.kept < (arrival_at l.arrivals i).stamp;
}

abbrev pub decreases-loop-count : goal.decreases-loop-count
decreases-loop-count l = l.count
