use Rattle.std.proofs.Common.{refl, arith}
use Rattle.mono_search_rows.proofs.worked_outcomes.answers_with_a_model.Goals as goal

pub returns : goal.returns
returns c = (record { len = refl; satisfies = (refl, (λ k d lt. absurd (omega arith))) }, refl)
