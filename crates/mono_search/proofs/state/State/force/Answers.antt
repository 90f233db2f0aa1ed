use Rattle.std.proofs.Common.{subst}
use Rattle.mono_problem.specs.WellFormed.{IsInstance}
use Rattle.mono_search.proofs.Propagating.{short_seen, force_answer, state}
use Rattle.mono_search.proofs.state.State.force.Goals as goal

pub force-requires : goal.force-requires
force-requires g c =
    let ready = rw (← c.self.view_is) at c.requires.ready in
    short_seen (state c.self.inside.theories c.self.inside.trail c.self.inside.store c.self.inside.journal c.self.inside.order) ready (subst IsInstance c.problem-problem.ensures.problem c.known-2.ensures.problem)

pub returns-clause-answer : goal.returns-clause-answer
returns-clause-answer g c =
    let ready = rw (← c.self.view_is) at c.requires.ready in
    let all = rw (← c.self.view_is) at c.requires.handed in
    rw (← c.self.view_is) (force_answer c.force.result c.self.inside.theories c.self.inside.trail c.self.inside.store c.self.inside.journal c.self.inside.order ready (subst IsInstance c.problem-problem.ensures.problem c.known-2.ensures.problem) c.problem-problem.ensures.owns all c.force.ensures.answer)
