use Rattle.std.proofs.Common.{◌≡◌, ◌∙◌, refl, sym, ap, subst, ℕ}
use Rattle.std.specs.Prelude.{neg_ℤ}
use Rattle.mono_base.specs.Literal.{IsLitWithin}
use Rattle.mono_clauses.proofs.Growth.{Grows-then}
use Rattle.mono_clauses.proofs.OneWatcher.{due_now}
use Rattle.mono_clauses.proofs.AllWatchers.{NoneBefore-same, NoneBefore-then, failed_from, due_range, given_stands, queue_falls, gave_grows, visited_vars}
use Rattle.mono_clauses.specs.ClauseList.{ClausesView}
use Rattle.mono_clauses.specs.Propagation.{same as nothing}
use Rattle.mono_clauses.specs.Visits.{Visited, Failed, IsDue}
use Rattle.mono_trail.specs.TrailView.{TrailView}
use Rattle.mono_clauses.proofs.propagate.follow.Goals as goal
use Rattle.mono_clauses.proofs.propagate.follow.Goals.{After-known}

pub queue-init : goal.queue-init
queue-init c = record { same = refl; vars = refl; following = c.requires.following; grows = nothing c.args.trail.now refl; before = NoneBefore-same c.args.watches.now.watched }

range : (c : After-known) → IsLitWithin c.next_due.new.self.vars (neg_ℤ c.in-Some.lit)
range c = due_range c.next_due.new.self c.in-Some.lit c.known.ensures.sound (given_stands c.queue.trail c.next_due.new.self c.in-Some.lit c.in-Some.ensures.some.0 c.in-Some.ensures.some.1 c.in-Some.ensures.some.2)

pub visit_watchers-requires-clause-due : goal.visit_watchers-requires-clause-due
visit_watchers-requires-clause-due c =
    subst (λ (q : ClausesView). IsDue q.list c.queue.watches c.next_due.new.self c.negated.result) (sym c.queue.invariant.same) (rw c.negated.ensures (due_now c.args.clauses.now.list c.queue.watches c.queue.trail c.next_due.new.self c.in-Some.lit c.known.ensures.sound c.in-Some.ensures.some.0 c.queue.invariant.following c.in-Some.ensures.some.1 c.in-Some.ensures.some.2))

pub visit_watchers-requires-clause-in_range : goal.visit_watchers-requires-clause-in_range
visit_watchers-requires-clause-in_range c =
    let r = range (goal.at.visit_watchers-requires-clause-in_range c).After-known in
    let v : c.next_due.new.self.vars ≡ c.queue.watches.vars = ap (λ (q : TrailView). q.vars) c.in-Some.ensures.some.0 ∙ sym c.queue.invariant.following.vars in
    rw c.negated.ensures (subst (λ (n : ℕ). IsLitWithin n (neg_ℤ c.in-Some.lit)) v r)

pub returns-in-Some-visit_watchers-clause-some : goal.returns-in-Some-visit_watchers-clause-some
returns-in-Some-visit_watchers-clause-some c =
    let f : Failed c.args.clauses.now.list c.queue.watches c.visit_watchers.new.watches c.next_due.new.self c.visit_watchers.new.trail c.in-Some-visit_watchers.number = subst (λ (q : ClausesView). Failed q.list c.queue.watches c.visit_watchers.new.watches c.next_due.new.self c.visit_watchers.new.trail c.in-Some-visit_watchers.number) c.queue.invariant.same c.in-Some-visit_watchers.ensures.some in
    failed_from c.args.clauses.now.list c.args.watches.now c.queue.watches c.visit_watchers.new.watches c.args.trail.now c.next_due.new.self c.visit_watchers.new.trail c.in-Some-visit_watchers.number c.queue.invariant.before
    (gave_grows c.args.clauses.now.list c.args.trail.now c.queue.trail c.next_due.new.self c.queue.invariant.grows c.in-Some.ensures.some.1 c.in-Some.ensures.some.0) f

pub queue-smaller : goal.queue-smaller
queue-smaller c =
    let v : Visited c.args.clauses.now.list c.queue.watches c.visit_watchers.new.watches c.next_due.new.self c.visit_watchers.new.trail = subst (λ (q : ClausesView). Visited q.list c.queue.watches c.visit_watchers.new.watches c.next_due.new.self c.visit_watchers.new.trail) c.queue.invariant.same c.in_default-visit_watchers.ensures.none in
    queue_falls c.args.clauses.now.list c.queue.trail c.next_due.new.self c.visit_watchers.new.trail c.known.ensures.sound c.in-Some.ensures.some.0 c.in-Some.ensures.some.1 v.grows v.given

pub queue-preserved : goal.queue-preserved
queue-preserved c =
    let v : Visited c.args.clauses.now.list c.queue.watches c.visit_watchers.new.watches c.next_due.new.self c.visit_watchers.new.trail = subst (λ (q : ClausesView). Visited q.list c.queue.watches c.visit_watchers.new.watches c.next_due.new.self c.visit_watchers.new.trail) c.queue.invariant.same c.in_default-visit_watchers.ensures.none in
    let g = gave_grows c.args.clauses.now.list c.args.trail.now c.queue.trail c.next_due.new.self c.queue.invariant.grows c.in-Some.ensures.some.1 c.in-Some.ensures.some.0 in
    record { same = c.visit_watchers.ensures.same ∙ c.queue.invariant.same; vars = visited_vars c.args.clauses.now.list c.queue.watches c.visit_watchers.new.watches c.queue.trail c.next_due.new.self c.visit_watchers.new.trail c.queue.invariant.following c.in-Some.ensures.some.0 v ∙ c.queue.invariant.vars; following = v.following; grows = Grows-then c.args.clauses.now.list c.args.trail.now c.next_due.new.self c.visit_watchers.new.trail g v.grows; before = NoneBefore-then _ _ _ c.queue.invariant.before v.before }

pub visit_watchers-requires-clause-vars : goal.visit_watchers-requires-clause-vars
visit_watchers-requires-clause-vars c = ap (λ (q : ClausesView). q.vars) c.queue.invariant.same ∙ c.requires.vars ∙ sym c.queue.invariant.vars
