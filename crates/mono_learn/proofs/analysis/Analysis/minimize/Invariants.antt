use Rattle.std.proofs.Common.{◌≡◌, ◌≤◌, ◌<◌, ℕ, length}
use Rattle.std.specs.Prelude.{Contains, slice_index_or}
use Rattle.std.specs.List.Sorted.{IsNonDecreasing}
use Rattle.mono_learn.specs.Minimizing.{IsKeptFor, AreDropped}
use Rattle.mono_steps.specs.Steps.{clauses_after}
use Rattle.mono_learn.specs.Resolving.{IsAtLast, HasMinimized}
use Rattle.mono_learn.proofs.analysis.Analysis.minimize.Given as goal

abbrev pub invariant-loop-rest : goal.invariant-loop-rest
invariant-loop-rest l = record {
  slots : length l.self.resolvent.seen.items ≡ length l.fn.self.resolvent.seen.items;
  low : (k : ℕ) → Contains l.self.resolvent.kept.items k → k < length l.trail.lits;
  minimized_to : (start last : ℕ) → IsAtLast (clauses_after l.problem l.journal) l.trail.lits start last l.fn.self.resolvent l.fn.self.used.items → HasMinimized (clauses_after l.problem l.journal) l.trail.lits start last l.self.resolvent.seen.items l.self.resolvent.kept.items l.self.used.items;
  needed : (j : ℕ) → l.rest ≤ j → j < length l.self.resolvent.kept.items → IsKeptFor (clauses_after l.problem l.journal) l.trail l.self.resolvent.seen.items (slice_index_or l.self.resolvent.kept.items j 0);
  sorted : IsNonDecreasing l.self.resolvent.kept.items;
  dropped : AreDropped (clauses_after l.problem l.journal) l.trail l.fn.self.resolvent.seen.items l.self.resolvent.seen.items l.self.resolvent.kept.items l.rest;
  within : l.rest ≤ length l.self.resolvent.kept.items;
}

abbrev pub decreases-loop-rest : goal.decreases-loop-rest
decreases-loop-rest l = l.rest
