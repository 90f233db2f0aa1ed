use Rattle.std.proofs.Common.{◌≡◌, ◌-◌, ◌<◌, ◌==◌, ℕ, length, get_or, subst}
use Rattle.mono_problem.specs.Instance.{Instance, graph_at, has_number}
use Rattle.mono_problem.proofs.Homes.{home_is}
use Rattle.mono_problem.proofs.problem.Problem.edge_home.Goals as goal

pub returns-clause-exact : goal.returns-clause-exact
returns-clause-exact c =
    let high = rw (← c.self.view_is) at c.requires.high in
    let P : Instance → Type 0 = λ p. (k : ℕ) → k < length p.graphs → has_number (graph_at p k) c.args.number ≡ (k == get_or c.as_slice.result.now (c.args.number - 1) 0) in
    subst P c.self.view_is (rw c.as_slice.ensures.value (home_is _ c.self.inside.homes.items c.args.number c.self.invariant.problem c.self.invariant.homes c.requires.low high))
