use Rattle.std.proofs.Common.{◌≡◌, ◌∙◌, sym, subst}
use Rattle.mono_clauses.proofs.DueClauses.{due_kept}
use Rattle.mono_clauses.proofs.Growth.{Grows-then}
use Rattle.mono_clauses.proofs.WholeStore.{following_of, store_kept, quiet_found, false_found, failed_vars, due_vars, followed_vars}
use Rattle.mono_clauses.proofs.AllWatchers.{failed_from}
use Rattle.mono_clauses.specs.ClauseList.{ClausesView}
use Rattle.mono_clauses.specs.Propagation.{Grows, FalseFound, QuietFound}
use Rattle.mono_clauses.specs.Store.{StoreView}
use Rattle.mono_clauses.specs.Visits.{IsFollowing, DueVisited, Followed, Failed, IsStore}
use Rattle.mono_clauses.proofs.store.ClauseStore.propagate.Goals as goal
use Rattle.mono_clauses.proofs.store.ClauseStore.propagate.Goals.{After-self, In-Some, In_default, In-Some-follow, In_default-follow}

start : (c : After-self) → IsFollowing c.self.inside.clauses.list c.self.inside.watches c.args.trail.now
start c = following_of c.self.inside.clauses c.self.inside.watches c.self.inside.due.items c.args.self.now c.args.trail.now c.self.invariant c.self.view_is c.requires

pub visit_due-requires-clause-following : goal.visit_due-requires-clause-following
visit_due-requires-clause-following c = start (goal.at.visit_due-requires-clause-following c).After-self

failed_first : (c : In-Some) → Failed c.self.inside.clauses.list c.self.inside.watches c.visit_due.new.watches c.args.trail.now c.visit_due.new.trail c.in-Some.number
failed_first c = c.in-Some.ensures.some

pub invariant_of-self : goal.invariant_of-self
invariant_of-self c =
    let f = failed_first (goal.at.invariant_of-self c).In-Some in
    store_kept c.self.inside.clauses c.self.inside.watches c.visit_due.new.watches c.self.inside.due.items c.visit_due.new.due.items c.self.invariant (failed_vars c.self.inside.clauses.list c.self.inside.watches c.visit_due.new.watches c.args.trail.now c.visit_due.new.trail c.in-Some.number (start (goal.at.invariant_of-self c).After-self).vars f) f.paired f.empty c.in-Some.ensures.due

pub returns-in-Some-clause-found : goal.returns-in-Some-clause-found
returns-in-Some-clause-found c =
    let f = failed_first (goal.at.returns-in-Some-clause-found c).In-Some in
    false_found c.self.inside.clauses c.self.inside.watches c.visit_due.new.watches c.args.trail.now c.visit_due.new.trail c.in-Some.number f
    (c.self.invariant.vars ∙ sym (failed_vars c.self.inside.clauses.list c.self.inside.watches c.visit_due.new.watches c.args.trail.now c.visit_due.new.trail c.in-Some.number (start (goal.at.returns-in-Some-clause-found c).After-self).vars f))

due_visited : (c : In_default) → DueVisited c.self.inside.clauses.list c.self.inside.watches c.visit_due.new.watches c.args.trail.now c.visit_due.new.trail c.visit_due.new.due.items
due_visited c = c.in_default.ensures.none

due_visited_here : (c : In_default) → c.self.inside.clauses.vars ≡ c.visit_due.new.watches.vars
due_visited_here c =
    let s : IsFollowing c.self.inside.clauses.list c.self.inside.watches c.args.trail.now = following_of c.self.inside.clauses c.self.inside.watches c.self.inside.due.items c.args.self.now c.args.trail.now c.self.invariant c.self.view_is c.requires in
    c.self.invariant.vars ∙ sym (due_vars c.self.inside.clauses.list c.self.inside.watches c.visit_due.new.watches c.args.trail.now c.visit_due.new.trail c.visit_due.new.due.items s.vars (due_visited c))

pub follow-requires-clause-vars : goal.follow-requires-clause-vars
follow-requires-clause-vars c = due_visited_here (goal.at.follow-requires-clause-vars c).In_default

failed_later : (c : In-Some-follow) → Failed c.self.inside.clauses.list c.visit_due.new.watches c.follow.new.watches c.visit_due.new.trail c.follow.new.trail c.in-Some-follow.number
failed_later c = c.in-Some-follow.ensures.some

pub invariant_of-self-in-Some-follow : goal.invariant_of-self-in-Some-follow
invariant_of-self-in-Some-follow c =
    let d = due_visited (goal.at.invariant_of-self-in-Some-follow c).In_default in
    let f = failed_later (goal.at.invariant_of-self-in-Some-follow c).In-Some-follow in
    let v = failed_vars c.self.inside.clauses.list c.visit_due.new.watches c.follow.new.watches c.visit_due.new.trail c.follow.new.trail c.in-Some-follow.number d.following.vars f in
    subst (λ (q : ClausesView). IsStore q c.follow.new.watches c.visit_due.new.due.items) (sym c.follow.ensures.same) (store_kept c.self.inside.clauses c.self.inside.watches c.follow.new.watches c.self.inside.due.items c.visit_due.new.due.items c.self.invariant
    (v ∙ sym (due_visited_here (goal.at.invariant_of-self-in-Some-follow c).In_default) ∙ c.self.invariant.vars) f.paired f.empty (due_kept c.self.inside.clauses.list c.visit_due.new.watches c.follow.new.watches c.visit_due.new.due.items f.before c.in_default.ensures.due))

pub returns-in-Some-follow-clause-found : goal.returns-in-Some-follow-clause-found
returns-in-Some-follow-clause-found c =
    let d = due_visited (goal.at.returns-in-Some-follow-clause-found c).In_default in
    let f = failed_later (goal.at.returns-in-Some-follow-clause-found c).In-Some-follow in
    let v = failed_vars c.self.inside.clauses.list c.visit_due.new.watches c.follow.new.watches c.visit_due.new.trail c.follow.new.trail c.in-Some-follow.number d.following.vars f in
    subst (λ (q : ClausesView). FalseFound (record { vars = q.vars; clauses = q.list; watched = c.follow.new.watches.watched }) c.follow.new.trail c.in-Some-follow.number) (sym c.follow.ensures.same) (false_found c.self.inside.clauses c.self.inside.watches c.follow.new.watches c.args.trail.now c.follow.new.trail c.in-Some-follow.number
    (failed_from c.self.inside.clauses.list c.self.inside.watches c.visit_due.new.watches c.follow.new.watches c.args.trail.now c.visit_due.new.trail c.follow.new.trail c.in-Some-follow.number d.before d.grows f)
    (due_visited_here (goal.at.returns-in-Some-follow-clause-found c).In_default ∙ sym v))

followed : (c : In_default-follow) → Followed c.self.inside.clauses.list c.visit_due.new.watches c.follow.new.watches c.visit_due.new.trail c.follow.new.trail
followed c = c.in_default-follow.ensures.none

pub invariant_of-self-2 : goal.invariant_of-self-2
invariant_of-self-2 c =
    let d = due_visited (goal.at.invariant_of-self-2 c).In_default in
    let f = followed (goal.at.invariant_of-self-2 c).In_default-follow in
    let v = followed_vars c.self.inside.clauses.list c.visit_due.new.watches c.follow.new.watches c.visit_due.new.trail c.follow.new.trail d.following.vars f in
    subst (λ (q : ClausesView). IsStore q c.follow.new.watches c.visit_due.new.due.items) (sym c.follow.ensures.same) (store_kept c.self.inside.clauses c.self.inside.watches c.follow.new.watches c.self.inside.due.items c.visit_due.new.due.items c.self.invariant
    (v ∙ sym (due_visited_here (goal.at.invariant_of-self-2 c).In_default) ∙ c.self.invariant.vars) f.following.paired f.following.empty (due_kept c.self.inside.clauses.list c.visit_due.new.watches c.follow.new.watches c.visit_due.new.due.items f.before c.in_default.ensures.due))

pub returns-clause-found : goal.returns-clause-found
returns-clause-found c =
    let d = due_visited (goal.at.returns-clause-found c).In_default in
    let f = followed (goal.at.returns-clause-found c).In_default-follow in
    let v = followed_vars c.self.inside.clauses.list c.visit_due.new.watches c.follow.new.watches c.visit_due.new.trail c.follow.new.trail d.following.vars f in
    subst (λ (q : ClausesView). QuietFound (record { vars = q.vars; clauses = q.list; watched = c.follow.new.watches.watched }) c.follow.new.trail) (sym c.follow.ensures.same) (quiet_found c.self.inside.clauses c.self.inside.watches c.visit_due.new.watches c.follow.new.watches c.visit_due.new.due.items c.args.trail.now c.visit_due.new.trail c.follow.new.trail c.known.ensures.sound c.in_default.ensures.due d f
    (due_visited_here (goal.at.returns-clause-found c).In_default ∙ sym v))

-- how the trail grew
pub returns-in-Some-clause-grows : goal.returns-in-Some-clause-grows
returns-in-Some-clause-grows c =
    let f = failed_first (goal.at.returns-in-Some-clause-grows c).In-Some in
    subst (λ (q : StoreView). Grows q.clauses c.args.trail.now c.visit_due.new.trail) c.self.view_is f.grows

pub returns-in-Some-follow-clause-grows : goal.returns-in-Some-follow-clause-grows
returns-in-Some-follow-clause-grows c =
    let d = due_visited (goal.at.returns-in-Some-follow-clause-grows c).In_default in
    let f = failed_later (goal.at.returns-in-Some-follow-clause-grows c).In-Some-follow in
    subst (λ (q : StoreView). Grows q.clauses c.args.trail.now c.follow.new.trail) c.self.view_is (Grows-then c.self.inside.clauses.list c.args.trail.now c.visit_due.new.trail c.follow.new.trail d.grows f.grows)

pub returns-clause-grows : goal.returns-clause-grows
returns-clause-grows c =
    let d = due_visited (goal.at.returns-clause-grows c).In_default in
    let f = followed (goal.at.returns-clause-grows c).In_default-follow in
    subst (λ (q : StoreView). Grows q.clauses c.args.trail.now c.follow.new.trail) c.self.view_is (Grows-then c.self.inside.clauses.list c.args.trail.now c.visit_due.new.trail c.follow.new.trail d.grows f.grows)
