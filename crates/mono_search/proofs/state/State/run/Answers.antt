use Rattle.std.proofs.Common.{◌∙◌, refl, arith}
use Rattle.mono_search.proofs.Advances.{ended}
use Rattle.mono_search.proofs.MoreSteps.{more_after}
use Rattle.mono_search.proofs.state.State.run.Goals as goal

pub loop-outcome-preserved : goal.loop-outcome-preserved
loop-outcome-preserved g c =
    let on = rw c.in_default.is at c.in_ok-outcome.ensures.ends in
    let counts = rw c.in_default.is at c.in_ok-outcome.ensures.counted in
    record {
      ready = on.ready;
      problem = c.step.ensures.problem ∙ c.loop-outcome.invariant.problem;
      few = omega (arith, on.chains, c.loop-outcome.invariant.few);
      no_fewer = omega (arith, on.no_fewer, c.loop-outcome.invariant.no_fewer);
      keeps = more_after c.loop-outcome.invariant.keeps c.step.ensures.keeps;
      counted = λ before. counts refl (c.loop-outcome.invariant.counted before);
    }

pub returns-in_err-outcome-clause-keeps : goal.returns-in_err-outcome-clause-keeps
returns-in_err-outcome-clause-keeps g c = more_after c.loop-outcome.invariant.keeps c.step.ensures.keeps

pub returns-in-Some-clause-keeps : goal.returns-in-Some-clause-keeps
returns-in-Some-clause-keeps g c = more_after c.loop-outcome.invariant.keeps c.step.ensures.keeps

pub returns-in-Some-clause-ends : goal.returns-in-Some-clause-ends
returns-in-Some-clause-ends g c =
    ended c.args.budget c.in-Some.outcome (omega (arith, c.loop-outcome.invariant.few, c.loop-outcome.invariant.no_fewer)) (rw c.in-Some.is at c.in_ok-outcome.ensures.ends)
