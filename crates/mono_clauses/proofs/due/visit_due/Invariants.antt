use Rattle.std.proofs.Common.{◌≡◌, ◌<◌, ◌*◌, ◌-◌, ℕ, None, get_or, vec_len}
use Rattle.mono_clauses.specs.ClauseValues.{HasTrue}
use Rattle.mono_clauses.specs.Propagation.{Grows}
use Rattle.mono_clauses.specs.Store.{clause_at, watch_at}
use Rattle.mono_clauses.specs.Visits.{IsFollowing, NoneBefore, DueKept}
use Rattle.mono_clauses.proofs.due.visit_due.Given as goal

abbrev pub invariant-due : goal.invariant-due
invariant-due l = record {
  vars : l.clauses.vars ≡ l.watches.vars;
  following : IsFollowing l.clauses.list l.watches l.trail;
  grows : Grows l.clauses.list l.fn.trail l.trail;
  before : NoneBefore l.fn.watches.watched l.watches.watched;
  kept : DueKept l.clauses.list l.watches l.due.items;
  done : (j : ℕ) → j < l.next → watch_at l.watches.watched (2 * get_or l.due.items j 0) ≡ None → HasTrue l.trail.lits (clause_at l.clauses.list (get_or l.due.items j 0)).lits;
}

abbrev pub decreases-due : goal.decreases-due
decreases-due l = vec_len l.due - l.next
