use Rattle.std.proofs.Common.{◌≡◌, ◌-◌, ◌∙◌, ap, subst, arith, List, Bool, Option, Some}
use Rattle.mono_problem.specs.declared.atom.Atom.{Atom}
use Rattle.mono_best.specs.Asking.{predicate_of}
use Rattle.mono_best.specs.Bounds.{bound_at}
use Rattle.mono_best.specs.Best.{IsMetBefore}
use Rattle.mono_best.proofs.Numbers.{bound_range, held_bound}
use Rattle.mono_best.proofs.Asked.{best_before}
use Rattle.mono_best.proofs.improving.refuted.Goals as goal

pub returns-in-Some : goal.returns-in-Some
returns-in-Some c = λ budget.
    let p = c.args.problem.now in
    let n = c.args.atom in
    let k = c.args.number in
    let q = predicate_of p n in
    let met : IsMetBefore p n k (Some c.in-Some.model) = subst (λ (o : Option (List Bool)). IsMetBefore p n k o) c.in-Some.is c.requires.met in
    let range = bound_range q (k - 1) (omega (arith, met.1)) in
    let same : c.bound_at.result ≡ bound_at q (k - 1) = c.bound_at.ensures ∙ ap (λ (x : Atom). bound_at x.predicate (k - 1)) c.atom.ensures in
    best_before p n k _ c.in-Some.model c.args.steps (held_bound c.bound_at.result (bound_at q (k - 1)) same range.0 range.1) met c.requires.refutes
