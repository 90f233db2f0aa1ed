use Rattle.std.proofs.Common.{subst}
use Rattle.mono_problem.specs.WellFormed.{IsInstance}
use Rattle.mono_search.proofs.Decisions.{has_model}
use Rattle.mono_search.proofs.state.State.model.Goals as goal

pub returns : goal.returns
returns g c =
    let full = rw (← c.self.view_is) at c.requires in
    rw (← c.self.view_is) (has_model c.values_of.result c.self.inside.theories c.self.inside.trail c.self.inside.store c.self.inside.journal c.self.inside.order (subst IsInstance c.problem-problem.ensures.problem c.known.ensures.problem) full c.values_of.ensures.len c.values_of.ensures.values)
