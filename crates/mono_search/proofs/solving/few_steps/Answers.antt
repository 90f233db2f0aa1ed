use Rattle.std.proofs.Common.{◌<◌, ◌^◌, List, length, sym, subst, arith}
use Rattle.mono_steps.specs.declared.step.Step.{Step}
use Rattle.mono_search.proofs.solving.few_steps.Goals as goal

pub returns-clause-short : goal.returns-clause-short
returns-clause-short c = subst (λ (steps : List Step). length steps < 2 ^ 63) (sym c.from_vec.ensures) (omega (arith, c.into_steps.result.small))
