use Rattle.std.proofs.Common.{subst}
use Rattle.mono_problem.specs.WellFormed.{IsInstance}
use Rattle.mono_search.proofs.Foreseen.{found_unit}
use Rattle.mono_search.proofs.state.State.unit_lemma.Goals as goal

pub returns-clause-lemma : goal.returns-clause-lemma
returns-clause-lemma g c =
    let ready = rw (← c.self.view_is) at c.requires.ready in
    let all = rw (← c.self.view_is) at c.requires.handed in
    rw (← c.self.view_is) (found_unit c.unit_lemma.result c.self.inside.theories c.self.inside.trail c.self.inside.store c.self.inside.journal c.self.inside.order ready (subst IsInstance c.problem-problem.ensures.problem c.known-2.ensures.problem) c.problem-problem.ensures.owns all c.unit_lemma.ensures.lemma)
