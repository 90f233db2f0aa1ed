use Rattle.std.proofs.Common.{◌∙◌, sym, refl, subst, List}
use Rattle.std.specs.Prelude.{IsTrue, ℤ}
use Rattle.mono_steps.specs.ChainSteps.{names_vars}
use Rattle.mono_steps.specs.New.{IsExactEnd}
use Rattle.mono_steps.specs.Steps.{clauses_after}
use Rattle.mono_learn.specs.Asked.{PushesChain}
use Rattle.mono_learn.specs.Learned.{IsLearnt, IsMinimal}
use Rattle.mono_learn.proofs.Learning.{learnt_vars, chains_none}
use Rattle.mono_learn.proofs.learn.push.Goals as goal

pub push_end-requires-clause-vars : goal.push_end-requires-clause-vars
push_end-requires-clause-vars c = subst (λ (d : List ℤ). IsTrue (names_vars c.args.problem.now d)) (sym (c.in_ok-copy.ensures.value ∙ c.in_ok-clause.ensures.value ∙ c.as_slice.ensures.value))
    (learnt_vars c.args.problem.now c.args.trail.now c.args.derived.back_to c.args.derived.lits.items c.requires.sound c.requires.vars c.requires.derived.learnt)

pub push_end-requires-clause-exact : goal.push_end-requires-clause-exact
push_end-requires-clause-exact c = subst (λ (d : List ℤ). IsExactEnd (clauses_after c.args.problem.now c.args.journal.now) (record { clause = d; used = c.args.derived.used.items }))
    (sym (c.in_ok-copy.ensures.value ∙ c.in_ok-clause.ensures.value ∙ c.as_slice.ensures.value)) c.requires.derived.exact

pub returns-clause-pushes : goal.returns-clause-pushes
returns-clause-pushes c = subst (λ (d : List ℤ). PushesChain c.args.problem.now c.args.journal.now c.push_end.new.journal d c.in_ok-number.number) c.in_ok-copy.ensures.value c.in_ok-number.ensures.pushes

pub returns-clause-learnt : goal.returns-clause-learnt
returns-clause-learnt c = subst (λ (d : List ℤ). IsLearnt c.args.trail.now d c.args.derived.back_to) (sym (c.in_ok-clause.ensures.value ∙ c.as_slice.ensures.value)) c.requires.derived.learnt

pub returns-clause-minimal : goal.returns-clause-minimal
returns-clause-minimal c = subst (IsMinimal (clauses_after c.args.problem.now c.args.journal.now) c.args.trail.now) (sym (c.in_ok-clause.ensures.value ∙ c.as_slice.ensures.value)) c.requires.derived.minimal

pub returns-in_err-clause-clause-grows : goal.returns-in_err-clause-clause-grows
returns-in_err-clause-clause-grows c = chains_none c.args.journal.now c.args.journal.now refl

pub returns-in_err-copy-clause-grows : goal.returns-in_err-copy-clause-grows
returns-in_err-copy-clause-grows c = chains_none c.args.journal.now c.args.journal.now refl

pub returns-clause-same : goal.returns-clause-same
returns-clause-same c = c.in_ok-clause.ensures.value ∙ c.as_slice.ensures.value
