use Rattle.std.proofs.Common.{sym, subst, List, take}
use Rattle.mono_problem.specs.Instance.{Instance}
use Rattle.mono_steps.specs.declared.step.Step.{Step}
use Rattle.mono_steps.specs.Steps.{clauses_after}
use Rattle.mono_learn.specs.Explain.{IsExplanation}
use Rattle.mono_learn.specs.Asked.{AsksFor}
use Rattle.mono_learn.proofs.PlacesOfLits.{is_var_at}
use Rattle.mono_learn.proofs.Asking.{IsAsked, asks_none, late_asked, late_there, was_forced}
use Rattle.mono_learn.proofs.ask.late_reason.Given.{Over}
use Rattle.mono_learn.proofs.ask.late_reason.Goals as goal
use Rattle.mono_learn.proofs.ask.late_reason.Goals.{After-known}

pub explain-requires-clause-within : goal.explain-requires-clause-within
explain-requires-clause-within g c = (was_forced c.args.problem.now (clauses_after c.args.problem.now c.args.journal.now) (g.E.Explainer.shown c.args.by.now) c.args.trail.now c.args.place c.args.atom c.args.kept c.requires.reasons c.requires.place c.requires.late).some

pub explain-requires-clause-forces : goal.explain-requires-clause-forces
explain-requires-clause-forces g c =
    let w = was_forced c.args.problem.now (clauses_after c.args.problem.now c.args.journal.now) (g.E.Explainer.shown c.args.by.now) c.args.trail.now c.args.place c.args.atom c.args.kept c.requires.reasons c.requires.place c.requires.late in
    rw (c.requires.problem, c.literal-lit.ensures) w.forces

pub returns-in_err-number-clause-asks : goal.returns-in_err-number-clause-asks
returns-in_err-number-clause-asks g c = subst (λ (j : List Step). AsksFor c.args.problem.now c.args.trail.now c.args.journal.now c.args.trail.now j) (sym c.in_err-number.ensures.err) (asks_none c.args.problem.now c.args.trail.now c.args.journal.now)

pub settle-requires-clause-in_range : goal.settle-requires-clause-in_range
settle-requires-clause-in_range g c = rw (c.var.ensures.value, c.literal-lit.ensures) (is_var_at c.args.trail.now c.args.place c.requires.sound c.requires.place)

pub settle-requires-clause-late : goal.settle-requires-clause-late
settle-requires-clause-late g c = late_there c.args.trail.now c.args.place c.args.atom c.args.kept c.var.result c.literal-lit.result c.requires.sound c.requires.place c.literal-lit.ensures c.var.ensures.value c.requires.late

asked : (g : Over) (c : After-known g) → IsAsked c.args.problem.now (g.E.Explainer.shown c.args.by.now) c.args.trail.now c.args.journal.now c.settle.new.self c.push_lemma.new.self c.args.place c.in_ok-number.number
asked g c = late_asked c.args.problem.now (g.E.Explainer.shown c.args.by.now) c.args.trail.now c.settle.new.self c.args.journal.now c.push_lemma.new.self c.args.place c.args.atom c.args.kept c.in_ok-number.number c.var.result c.literal-lit.result c.in_ok-lemma.lemma
    c.requires.sound c.requires.place c.literal-lit.ensures c.var.ensures.value c.requires.reasons c.requires.late
    (subst (λ (p : Instance). IsExplanation p (take c.args.kept (g.E.Explainer.shown c.args.by.now c.args.atom)) c.args.atom c.literal-lit.result c.in_ok-lemma.lemma) c.requires.problem c.in_ok-lemma.ensures.lemma) c.in_ok-number.ensures.ok c.in_ok-number.ensures.number c.in_ok-number.ensures.keeps c.settle.ensures

pub returns-clause-asks : goal.returns-clause-asks
returns-clause-asks g c = (asked g c).asks

pub returns-clause-reasons : goal.returns-clause-reasons
returns-clause-reasons g c = (asked g c).reasons

pub returns-clause-is : goal.returns-clause-is
returns-clause-is g c = (asked g c).is

pub returns-clause-why : goal.returns-clause-why
returns-clause-why g c = (asked g c).why

pub returns-in_err-lemma-clause-asks : goal.returns-in_err-lemma-clause-asks
returns-in_err-lemma-clause-asks g c = asks_none c.args.problem.now c.args.trail.now c.args.journal.now
