use Rattle.std.proofs.Common.{ap, arith, length}
use Rattle.mono_problem.specs.Instance.{Instance}
use Rattle.mono_search.proofs.state.State.learned.Goals as goal

pub overflow_sub-joined : goal.overflow_sub-joined
overflow_sub-joined g c =
    let whole = rw (← c.self.view_is) at c.requires in
    omega (arith, whole.held.count, c.from.ensures, c.clause_count.ensures, c.len.ensures, ap (λ (q : Instance). length q.clauses) c.problem.ensures.problem)

pub overflow_sub-result : goal.overflow_sub-result
overflow_sub-result g c =
    let whole = rw (← c.self.view_is) at c.requires in
    omega (arith, whole.held.count, c.given.ensures, c.from.ensures, c.clause_count.ensures, c.len.ensures, ap (λ (q : Instance). length q.clauses) c.problem.ensures.problem)

pub returns : goal.returns
returns g c =
    let whole = rw (← c.self.view_is) at c.requires in
    rw (← c.self.view_is) (omega (arith, whole.held.count, c.given.ensures, c.from.ensures, c.clause_count.ensures, c.len.ensures, ap (λ (q : Instance). length q.clauses) c.problem.ensures.problem))
