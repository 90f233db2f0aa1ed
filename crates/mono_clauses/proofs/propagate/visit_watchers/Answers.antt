use Rattle.std.proofs.Common.{◌∙◌, refl, sym, ap, subst}
use Rattle.mono_clauses.proofs.Growth.{Grows-then}
use Rattle.mono_clauses.proofs.OneWatcher.{visiting_begins}
use Rattle.mono_clauses.proofs.AllWatchers.{NoneBefore-visits, NoneBefore-then, looked_vars, failed_of}
use Rattle.mono_clauses.specs.ClauseList.{ClausesView}
use Rattle.mono_clauses.specs.Propagation.{same as nothing}
use Rattle.mono_clauses.specs.Visits.{Looked, FoundFalse, IsVisiting}
use Rattle.mono_clauses.proofs.propagate.visit_watchers.Goals as goal

pub watchers-init : goal.watchers-init
watchers-init c = record {
  same = refl;
  vars = c.start_visits.ensures.vars;
  visiting = visiting_begins c.args.clauses.now.list c.args.watches.now c.start_visits.new.self c.args.trail.now c.args.lit c.requires.due c.start_visits.ensures;
  grows = nothing c.args.trail.now refl;
  given = refl;
  before = NoneBefore-visits c.args.watches.now c.start_visits.new.self c.args.lit c.start_visits.ensures;
}

pub watchers-preserved : goal.watchers-preserved
watchers-preserved c =
    let j : Looked c.watchers.clauses.list c.watchers.watches c.visit_clause.new.watches c.watchers.trail c.visit_clause.new.trail c.args.lit = c.in_default-visit_clause.ensures.none in
    let k : Looked c.args.clauses.now.list c.watchers.watches c.visit_clause.new.watches c.watchers.trail c.visit_clause.new.trail c.args.lit = subst (λ (q : ClausesView). Looked q.list c.watchers.watches c.visit_clause.new.watches c.watchers.trail c.visit_clause.new.trail c.args.lit) c.watchers.invariant.same j in
    record {
      same = c.visit_clause.ensures.same ∙ c.watchers.invariant.same;
      vars = looked_vars c.args.clauses.now.list c.watchers.watches c.visit_clause.new.watches c.watchers.trail c.visit_clause.new.trail c.args.lit c.watchers.invariant.visiting k ∙ c.watchers.invariant.vars;
      visiting = k.visiting;
      grows = Grows-then c.args.clauses.now.list c.args.trail.now c.watchers.trail c.visit_clause.new.trail c.watchers.invariant.grows k.grows;
      given = k.given ∙ c.watchers.invariant.given;
      before = NoneBefore-then _ _ _ c.watchers.invariant.before k.before;
    }

pub returns-in-Some-visit_clause-clause-some : goal.returns-in-Some-visit_clause-clause-some
returns-in-Some-visit_clause-clause-some c =
    let g : FoundFalse c.watchers.clauses.list c.watchers.watches c.visit_clause.new.watches c.watchers.trail c.visit_clause.new.trail c.in-Some-visit_clause.number = c.in-Some-visit_clause.ensures.some in
    let f : FoundFalse c.args.clauses.now.list c.watchers.watches c.visit_clause.new.watches c.watchers.trail c.visit_clause.new.trail c.in-Some-visit_clause.number = subst (λ (q : ClausesView). FoundFalse q.list c.watchers.watches c.visit_clause.new.watches c.watchers.trail c.visit_clause.new.trail c.in-Some-visit_clause.number) c.watchers.invariant.same g in
    failed_of c.args.clauses.now.list c.args.watches.now c.watchers.watches c.visit_clause.new.watches c.close.new.self c.args.trail.now c.watchers.trail c.visit_clause.new.trail c.args.lit c.in-Some-visit_clause.number c.watchers.invariant.before c.watchers.invariant.grows c.watchers.invariant.visiting f c.close.ensures

pub visit_clause-requires-clause-visiting : goal.visit_clause-requires-clause-visiting
visit_clause-requires-clause-visiting c = subst (λ (q : ClausesView). IsVisiting q.list c.watchers.watches c.watchers.trail c.args.lit) (sym c.watchers.invariant.same) c.watchers.invariant.visiting

pub visit_clause-requires-clause-vars : goal.visit_clause-requires-clause-vars
visit_clause-requires-clause-vars c = ap (λ (q : ClausesView). q.vars) c.watchers.invariant.same ∙ c.requires.vars ∙ sym c.watchers.invariant.vars
