use Rattle.std.proofs.Common.{◌<◌, ◌∙◌, sym, ap, subst, ℕ, List, length, [], ◌∷◌, ◌++◌}
use Rattle.mono_trail.specs.TrailView.{TrailView}
use Rattle.mono_steps.specs.Steps.{clauses_after}
use Rattle.mono_learn.proofs.PlacesOfLits.{is_number}
use Rattle.mono_learn.proofs.Asking.{asks_none, asks_same}
use Rattle.mono_learn.proofs.Learning.{some_lits, empty_false, none_left, none_marked}
use Rattle.mono_learn.proofs.refuting.empty_chain.Goals as goal

pub clause-requires-clause-low : goal.clause-requires-clause-low
clause-requires-clause-low g c = (is_number (clauses_after c.args.problem.now c.args.journal.now) c.args.conflict c.requires.conflict.clause c.requires.conflict.is).low

pub clause-requires-clause-high : goal.clause-requires-clause-high
clause-requires-clause-high g c = (is_number (clauses_after c.args.problem.now c.args.journal.now) c.args.conflict c.requires.conflict.clause c.requires.conflict.is).high

pub returns-in_err-push-clause-asks : goal.returns-in_err-push-clause-asks
returns-in_err-push-clause-asks g c = asks_none c.args.problem.now c.args.trail.now c.args.journal.now

pub returns-then-is_empty-clause-asks : goal.returns-then-is_empty-clause-asks
returns-then-is_empty-clause-asks g c = asks_none c.args.problem.now c.args.trail.now c.args.journal.now

pub returns-then-is_empty-clause-exact : goal.returns-then-is_empty-clause-exact
returns-then-is_empty-clause-exact g c = empty_false (clauses_after c.args.problem.now c.args.journal.now) c.args.trail.now.lits c.args.conflict c.clause.result.now c.push.new.self.items c.requires.conflict c.clause.ensures (sym c.is_empty.ensures ∙ c.if-is_empty.true)
    (c.in_ok-push.ensures.items ∙ ap (λ (ns : List ℕ). ns ++ c.args.conflict ∷ []) c.new-used.ensures.items)

pub returns-in_err-analysis-clause-asks : goal.returns-in_err-analysis-clause-asks
returns-in_err-analysis-clause-asks g c = asks_same c.args.problem.now c.args.trail.now c.new.new.trail c.args.journal.now c.new.ensures.same

pub begin-requires-clause-start : goal.begin-requires-clause-start
begin-requires-clause-start g c =
    let lt = some_lits (clauses_after c.args.problem.now c.args.journal.now) c.args.trail.now.lits c.args.conflict c.clause.result.now c.requires.conflict c.clause.ensures (sym c.is_empty.ensures ∙ c.if-is_empty.false) in
    rw c.in_ok-analysis.ensures.start (subst (λ (t : TrailView). 0 < length t.lits) (sym c.new.ensures.same) lt)

pub returns-in_err-begin-clause-asks : goal.returns-in_err-begin-clause-asks
returns-in_err-begin-clause-asks g c = asks_same c.args.problem.now c.args.trail.now c.new.new.trail c.args.journal.now c.new.ensures.same

pub give_back-requires : goal.give_back-requires
give_back-requires g c = none_marked (clauses_after c.args.problem.now c.resolve_all.new.journal) c.resolve_all.new.trail.lits c.resolve_all.new.self.start c.resolve_all.new.self.resolvent c.resolve_all.new.self.used.items c.in_ok-resolve_all.ensures.come

pub returns-clause-exact : goal.returns-clause-exact
returns-clause-exact g c = none_left (clauses_after c.args.problem.now c.resolve_all.new.journal) c.resolve_all.new.trail.lits c.resolve_all.new.self.start c.resolve_all.new.self.resolvent c.resolve_all.new.self.used.items c.in_ok-resolve_all.ensures.come
