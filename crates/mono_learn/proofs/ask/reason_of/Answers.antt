use Rattle.std.proofs.Common.{sym, ◌∙◌}
use Rattle.mono_steps.specs.Steps.{clauses_after}
use Rattle.mono_learn.proofs.Asking.{asks_none, was_unit}
use Rattle.mono_learn.proofs.ask.reason_of.Goals as goal

pub returns-in-Clause-clause-asks : goal.returns-in-Clause-clause-asks
returns-in-Clause-clause-asks g c = asks_none c.args.problem.now c.args.trail.now c.args.journal.now

pub returns-in-Clause-clause-is : goal.returns-in-Clause-clause-is
returns-in-Clause-clause-is g c = was_unit c.args.problem.now (clauses_after c.args.problem.now c.args.journal.now) (g.E.Explainer.shown c.args.by.now) c.args.trail.now c.args.place c.in-Clause.number c.requires.reasons c.requires.place (sym c.reason.ensures ∙ c.in-Clause.is)

pub returns-in-Clause-clause-why : goal.returns-in-Clause-clause-why
returns-in-Clause-clause-why g c = sym c.reason.ensures ∙ c.in-Clause.is

pub late_reason-requires-clause-late : goal.late_reason-requires-clause-late
late_reason-requires-clause-late g c = sym c.reason.ensures ∙ c.in-Late.is

pub unreachable-requires : goal.unreachable-requires
unreachable-requires g c = c.requires.implied (sym c.reason.ensures ∙ c.in-Decided.is)
