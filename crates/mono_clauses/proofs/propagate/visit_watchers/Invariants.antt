use Rattle.std.proofs.Common.{◌≡◌, length}
use Rattle.mono_clauses.specs.Propagation.{Grows}
use Rattle.mono_clauses.specs.Visits.{IsVisiting, NoneBefore}
use Rattle.mono_clauses.proofs.propagate.visit_watchers.Given as goal

abbrev pub invariant-watchers : goal.invariant-watchers
invariant-watchers l = record {
  same : l.clauses ≡ l.fn.clauses;
  vars : l.watches.vars ≡ l.fn.watches.vars;
  visiting : IsVisiting l.fn.clauses.list l.watches l.trail l.lit;
  grows : Grows l.fn.clauses.list l.fn.trail l.trail;
  given : l.trail.given ≡ l.fn.trail.given;
  before : NoneBefore l.fn.watches.watched l.watches.watched;
}

abbrev pub decreases-watchers : goal.decreases-watchers
decreases-watchers l = length l.watches.ahead
