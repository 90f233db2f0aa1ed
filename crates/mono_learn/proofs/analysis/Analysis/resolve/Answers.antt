use Rattle.std.proofs.Common.{arith, subst, refl, false, ◌-◌}
use Rattle.std.specs.Vec.{with_item}
use Rattle.std.specs.Prelude.{ℤ}
use Rattle.mono_base.specs.Literal.{without}
use Rattle.mono_steps.specs.Steps.{clauses_after}
use Rattle.mono_learn.specs.declared.resolvent.Resolvent.{Resolvent}
use Rattle.mono_learn.specs.Joins.{Joins}
use Rattle.mono_learn.proofs.Marking.{mark_less}
use Rattle.mono_learn.proofs.PlacesOfLits.{unit_number}
use Rattle.mono_learn.proofs.ResolvingSteps.{reason_false, comes_further}
use Rattle.mono_learn.proofs.analysis.Analysis.resolve.Goals as goal

pub overflow_sub-self : goal.overflow_sub-self
overflow_sub-self c = omega (arith, c.requires.come.resolvent.counted, mark_less c.args.self.now.start c.args.place c.args.self.now.resolvent.seen.items c.requires.high c.requires.marked)

pub clause-requires-clause-low : goal.clause-requires-clause-low
clause-requires-clause-low c = (unit_number (clauses_after c.args.problem.now c.args.journal.now) c.args.trail.now.lits c.args.place c.args.number c.requires.reason).low

pub clause-requires-clause-high : goal.clause-requires-clause-high
clause-requires-clause-high c = (unit_number (clauses_after c.args.problem.now c.args.journal.now) c.args.trail.now.lits c.args.place c.args.number c.requires.reason).high

pub join_all-requires-clause-counted : goal.join_all-requires-clause-counted
join_all-requires-clause-counted c = omega (arith, c.requires.come.resolvent.counted, mark_less c.args.self.now.start c.args.place c.args.self.now.resolvent.seen.items c.requires.high c.requires.marked)

pub join_all-requires-clause-are_false : goal.join_all-requires-clause-are_false
join_all-requires-clause-are_false c = reason_false (clauses_after c.args.problem.now c.args.journal.now) c.args.trail.now.lits c.args.place c.args.number c.clause.result.now c.literal-lit.result c.requires.reason c.clause.ensures c.literal-lit.ensures

pub returns-clause-come : goal.returns-clause-come
returns-clause-come c =
    let mid : Resolvent = record { seen = with_item c.args.self.now.resolvent.seen c.args.place false; kept = c.args.self.now.resolvent.kept; count = c.args.self.now.resolvent.count - 1 } in
    comes_further (clauses_after c.args.problem.now c.args.journal.now) c.args.trail.now c.args.self.now.start c.args.place c.args.number c.args.self.now.resolvent mid c.join_all.new.self c.args.self.now.used.items c.push.new.self.items c.clause.result.now c.requires.sound c.requires.come c.requires.high c.requires.marked
    c.requires.reason c.clause.ensures refl refl refl
    (subst (λ (x : ℤ). Joins c.args.trail.now.lits c.args.self.now.start mid c.join_all.new.self (without c.clause.result.now x)) c.literal-lit.ensures c.in_ok-join_all.ensures) c.in_ok-push.ensures.items
