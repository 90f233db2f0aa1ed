use Rattle.std.proofs.Common.{◌≡◌, sym, ap, subst, All, []}
use Rattle.mono_theory.specs.Theories.{Facts}
use Rattle.mono_search.specs.Theories.{TheoriesView}
use Rattle.mono_search.proofs.Beginning.{begins}
use Rattle.mono_search.proofs.state.State.new.Goals as goal

pub returns : goal.returns
returns g c =
    let b = c.in_ok-theories.ensures in
    let i = c.in_ok-inputs.ensures in
    rw c.new-4.ensures (begins c.args.problem.now c.in_ok-theories.theories c.in_ok-inputs.inputs.trail c.in_ok-inputs.inputs.store c.in_ok-inputs.inputs.order
    (ap (λ (x : TheoriesView). x.problem) b) (ap (λ (x : TheoriesView). x.handed) b) (ap (λ (x : TheoriesView). x.given) b) (subst (λ (x : TheoriesView). All (λ (f : Facts). f.seen ≡ []) x.facts) (sym b) c.requires.unseen)
    i.trail i.sound i.store i.order)
