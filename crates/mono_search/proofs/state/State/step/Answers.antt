use Rattle.std.proofs.Common.{◌∙◌, ap}
use Rattle.mono_steps.specs.Journals.{chain_count}
use Rattle.mono_search.proofs.Advances.{goes_on, quiet_on, quiet_then, resolved}
use Rattle.mono_search.proofs.Counting.{counted_as_many}
use Rattle.mono_search.proofs.HandedOn.{if_ok}
use Rattle.mono_search.proofs.MoreSteps.{more_after, more_same}
use Rattle.mono_search.proofs.state.State.step.Goals as goal

-- a theory forced a literal

pub returns-in-Implied-clause-ends : goal.returns-in-Implied-clause-ends
returns-in-Implied-clause-ends g c = goes_on c.args.budget (rw c.in-Implied.is at c.in_ok-propagate.ensures.answer) c.propagate.ensures.chains

pub returns-in-Implied-clause-counted : goal.returns-in-Implied-clause-counted
returns-in-Implied-clause-counted g c = λ on. counted_as_many _ _ c.args.restarts.now c.propagate.ensures.chains

-- a lemma in good time

pub returns-in_err-foresee-in-Quiet-clause-keeps : goal.returns-in_err-foresee-in-Quiet-clause-keeps
returns-in_err-foresee-in-Quiet-clause-keeps g c = more_after c.propagate.ensures.keeps c.foresee.ensures.keeps

pub returns-then-branch-clause-keeps : goal.returns-then-branch-clause-keeps
returns-then-branch-clause-keeps g c = more_after c.propagate.ensures.keeps c.foresee.ensures.keeps

pub returns-then-branch-clause-ends : goal.returns-then-branch-clause-ends
returns-then-branch-clause-ends g c =
    let quiet = rw c.in-Quiet.is at c.in_ok-propagate.ensures.answer in
    goes_on c.args.budget (quiet_then quiet (c.in_ok-foresee-in-Quiet.ensures.implied c.if-branch.true)) (c.foresee.ensures.chains ∙ c.propagate.ensures.chains)

pub returns-then-branch-clause-counted : goal.returns-then-branch-clause-counted
returns-then-branch-clause-counted g c = λ on. counted_as_many _ _ c.args.restarts.now (c.foresee.ensures.chains ∙ c.propagate.ensures.chains)

-- a decision, or the model

pub returns-then-decide-clause-keeps : goal.returns-then-decide-clause-keeps
returns-then-decide-clause-keeps g c = more_same c.decide.ensures.steps (more_after c.propagate.ensures.keeps c.foresee.ensures.keeps)

pub returns-then-decide-clause-ends : goal.returns-then-decide-clause-ends
returns-then-decide-clause-ends g c =
    let quiet = rw c.in-Quiet.is at c.in_ok-propagate.ensures.answer in
    let still = quiet_on quiet (c.in_ok-foresee-in-Quiet.ensures.none c.if-branch.false) in
    goes_on c.args.budget (quiet_then still (c.decide.ensures.decided c.if-decide.true)) (ap chain_count c.decide.ensures.steps ∙ c.foresee.ensures.chains ∙ c.propagate.ensures.chains)

pub returns-then-decide-clause-counted : goal.returns-then-decide-clause-counted
returns-then-decide-clause-counted g c = λ on. counted_as_many _ _ c.args.restarts.now (ap chain_count c.decide.ensures.steps ∙ c.foresee.ensures.chains ∙ c.propagate.ensures.chains)

pub returns-in_err-model-in-Quiet-clause-keeps : goal.returns-in_err-model-in-Quiet-clause-keeps
returns-in_err-model-in-Quiet-clause-keeps g c = more_same c.decide.ensures.steps (more_after c.propagate.ensures.keeps c.foresee.ensures.keeps)

pub returns-in_ok-model-in-Quiet-clause-keeps : goal.returns-in_ok-model-in-Quiet-clause-keeps
returns-in_ok-model-in-Quiet-clause-keeps g c = more_same c.decide.ensures.steps (more_after c.propagate.ensures.keeps c.foresee.ensures.keeps)

-- a conflict

pub returns-in-Conflict-clause-keeps : goal.returns-in-Conflict-clause-keeps
returns-in-Conflict-clause-keeps g c = more_after c.propagate.ensures.keeps c.resolve.ensures.keeps

pub returns-in-Conflict-clause-ends : goal.returns-in-Conflict-clause-ends
returns-in-Conflict-clause-ends g c =
    let found = rw c.in-Conflict.is at c.in_ok-propagate.ensures.answer in
    if_ok c.resolve.result _ _ c.resolve.ensures.ends (λ end h. resolved c.args.budget c.args.self.now c.propagate.new.self c.resolve.new.self end found.vars c.propagate.ensures.chains h)
