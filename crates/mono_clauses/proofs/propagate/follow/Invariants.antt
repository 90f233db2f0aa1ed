use Rattle.std.proofs.Common.{◌≡◌, ◌-◌}
use Rattle.mono_clauses.specs.Propagation.{Grows}
use Rattle.mono_clauses.specs.Visits.{IsFollowing, NoneBefore}
use Rattle.mono_clauses.proofs.propagate.follow.Given as goal

abbrev pub invariant-queue : goal.invariant-queue
invariant-queue l = record {
  same : l.clauses ≡ l.fn.clauses;
  vars : l.watches.vars ≡ l.fn.watches.vars;
  following : IsFollowing l.fn.clauses.list l.watches l.trail;
  grows : Grows l.fn.clauses.list l.fn.trail l.trail;
  before : NoneBefore l.fn.watches.watched l.watches.watched;
}

abbrev pub decreases-queue : goal.decreases-queue
decreases-queue l = l.trail.vars - l.trail.given
