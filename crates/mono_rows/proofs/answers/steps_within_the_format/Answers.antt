use Rattle.std.proofs.Common.{ap}
use Rattle.std.specs.Prelude.{ℕ, nat_le}
use Rattle.mono_base.specs.declared.limits.TheConstants.{MAX_VARS}
use Rattle.mono_rows.proofs.answers.steps_within_the_format.Goals as goal

pub returns-clause-greatest_model : goal.returns-clause-greatest_model
returns-clause-greatest_model c = λ values is. ap (λ (n : ℕ). nat_le n MAX_VARS) is

pub returns-clause-model_too_long : goal.returns-clause-model_too_long
returns-clause-model_too_long c = λ values is. ap (λ (n : ℕ). nat_le n MAX_VARS) is
