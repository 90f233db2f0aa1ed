use Rattle.std.proofs.Common.{◌≡◌, subst}
use Rattle.mono_problem.specs.WellFormed.{IsInstance}
use Rattle.mono_search.proofs.Propagating.{explainable, pushed_journal, pushed_chains, pushed_conflict}
use Rattle.mono_search.proofs.MoreSteps.{more_pushed}
use Rattle.mono_search.proofs.state.State.explain_conflict.Goals as goal

pub explain-requires-clause-within : goal.explain-requires-clause-within
explain-requires-clause-within g c =
    let ready = rw (← c.self.view_is) at c.requires.ready in
    let can = rw (← c.self.view_is) at c.requires.forced in
    (explainable c.self.inside.theories c.self.inside.trail c.self.inside.store c.self.inside.journal c.self.inside.order c.args.forced ready can).0

pub explain-requires-clause-forces : goal.explain-requires-clause-forces
explain-requires-clause-forces g c =
    let ready = rw (← c.self.view_is) at c.requires.ready in
    let can = rw (← c.self.view_is) at c.requires.forced in
    (explainable c.self.inside.theories c.self.inside.trail c.self.inside.store c.self.inside.journal c.self.inside.order c.args.forced ready can).1

pub returns-clause-journal : goal.returns-clause-journal
returns-clause-journal g c =
    let ready = rw (← c.self.view_is) at c.requires.ready in
    let p = c.self.inside.theories.problem in
    let same : c.problem-problem.result.now ≡ p = c.problem-problem.ensures.problem in
    rw c.explain.ensures.same (pushed_journal c.push_lemma.result p c.self.inside.journal c.push_lemma.new.self c.in_ok-lemma.lemma c.push_lemma.ensures.ok (rw same at c.push_lemma.ensures.keeps) c.push_lemma.ensures.err ready.whole.journal.journal)

pub returns-clause-conflict : goal.returns-clause-conflict
returns-clause-conflict g c =
    let ready = rw (← c.self.view_is) at c.requires.ready in
    let can = rw (← c.self.view_is) at c.requires.forced in
    let wrong = rw (← c.self.view_is) at c.requires.wrong in
    let same : c.problem-problem.result.now ≡ c.self.inside.theories.problem = c.problem-problem.ensures.problem in
    let ok = subst IsInstance same c.known.ensures.problem in
    rw c.explain.ensures.same (pushed_conflict c.push_lemma.result c.self.inside.theories c.self.inside.trail c.self.inside.store c.self.inside.journal c.push_lemma.new.self c.self.inside.order c.args.forced c.in_ok-lemma.lemma ok ready can wrong
    c.in_ok-lemma.ensures.lemma c.push_lemma.ensures.ok (rw same at c.push_lemma.ensures.number) (rw same at c.push_lemma.ensures.keeps))

pub returns-clause-chains : goal.returns-clause-chains
returns-clause-chains g c =
    rw (← c.self.view_is) (pushed_chains c.push_lemma.result c.self.inside.journal c.push_lemma.new.self c.in_ok-lemma.lemma c.push_lemma.ensures.ok c.push_lemma.ensures.err)

pub returns-clause-keeps : goal.returns-clause-keeps
returns-clause-keeps g c =
    rw (← c.self.view_is) (more_pushed c.push_lemma.result c.self.inside.journal c.push_lemma.new.self c.in_ok-lemma.lemma c.push_lemma.ensures.ok c.push_lemma.ensures.err)
