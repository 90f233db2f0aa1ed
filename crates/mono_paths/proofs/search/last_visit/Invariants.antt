use Rattle.std.proofs.Common.{◌<◌, length}
use Rattle.mono_paths.proofs.Searches.{IsVisitedBy}
use Rattle.mono_paths.proofs.search.last_visit.Given as goal

abbrev pub invariant-loop-at : goal.invariant-loop-at
invariant-loop-at l = record {
  inside : l.at < length l.visits;
  there : IsVisitedBy l.visits l.node l.cost l.at;
}

abbrev pub decreases-loop-at : goal.decreases-loop-at
decreases-loop-at l = l.at
