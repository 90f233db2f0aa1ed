use Rattle.std.proofs.Common.{◌≡◌, List, [], ◌∷◌, Bool, true, false, refl, arith}
use Rattle.mono_steps.specs.Renumbering.{pick}
use Rattle.mono_steps.specs.Needed.{is_set}
use Rattle.mono_steps.specs.WorkedLemmas.{minus}
use Rattle.mono_core.proofs.worked.needs.Goals as goal

without_itself : (flags : List Bool) → minus 1 ∷ [] ≡ pick flags (minus 1 ∷ []) → is_set flags 0 ≡ false → ⊥
without_itself [] is without = cc
without_itself (true ∷ flags) is without = cc
without_itself (false ∷ []) is without = cc
without_itself (false ∷ (f ∷ flags)) is without = cc

pub returns-clause-model : goal.returns-clause-model
returns-clause-model c = record { len = refl; satisfies = (refl, (λ k d lt. absurd (omega arith))) }

pub returns-clause-no_model : goal.returns-clause-no_model
returns-clause-no_model c = λ h. let e = h.satisfies.0 in cc

pub returns-clause-too_short : goal.returns-clause-too_short
returns-clause-too_short c = λ h. let e = h.len in cc

pub returns-clause-too_long : goal.returns-clause-too_long
returns-clause-too_long c = λ h. let e = h.len in cc

pub returns-clause-tried_with_itself : goal.returns-clause-tried_with_itself
returns-clause-tried_with_itself c = λ budget steps h. without_itself h.flags h.is h.without
