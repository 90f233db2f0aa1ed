use Rattle.std.proofs.Common.{refl, sym, subst, List}
use Rattle.std.specs.Prelude.{IsTrue, ℤ}
use Rattle.mono_steps.specs.ChainSteps.{names_vars}
use Rattle.mono_learn.specs.Asked.{PushesChain}
use Rattle.mono_learn.proofs.Learning.{chains_none}
use Rattle.mono_learn.proofs.refuting.push_empty.Goals as goal

pub push_end-requires-clause-vars : goal.push_end-requires-clause-vars
push_end-requires-clause-vars c = subst (λ (d : List ℤ). IsTrue (names_vars c.args.problem.now d)) (sym c.in_ok-clause.ensures.value) refl

pub push_end-requires-clause-exact : goal.push_end-requires-clause-exact
push_end-requires-clause-exact c = rw c.in_ok-clause.ensures.value c.requires

pub returns-clause-pushes : goal.returns-clause-pushes
returns-clause-pushes c = subst (λ (d : List ℤ). PushesChain c.args.problem.now c.args.journal.now c.push_end.new.journal d c.in_ok-number.number) c.in_ok-clause.ensures.value c.in_ok-number.ensures.pushes

pub returns-in_err-clause-clause-grows : goal.returns-in_err-clause-clause-grows
returns-in_err-clause-clause-grows c = chains_none c.args.journal.now c.args.journal.now refl
