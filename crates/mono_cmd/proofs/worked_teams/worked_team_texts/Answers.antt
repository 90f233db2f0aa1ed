use Rattle.std.proofs.Common.{◌≡◌, ℕ, List, refl, ap, arith}
use Rattle.std.specs.Prelude.{slice_index}
use Rattle.mono_cmd.proofs.worked_teams.worked_team_texts.Goals as goal

pub returns-clause-model : goal.returns-clause-model
returns-clause-model c = λ values right accepted. (values, right, refl, accepted)

pub returns-clause-line_before_a_model : goal.returns-clause-line_before_a_model
returns-clause-line_before_a_model c = λ rest h. let same : 99 ≡ 115 = ap (λ (t : List ℕ). slice_index t 0) h.2 in omega (arith, same)

pub returns-clause-refutation : goal.returns-clause-refutation
returns-clause-refutation c = λ steps right accepted. (steps, right, refl, accepted)

pub returns-clause-line_before_a_refutation : goal.returns-clause-line_before_a_refutation
returns-clause-line_before_a_refutation c = λ rest h. let same : 99 ≡ 115 = ap (λ (t : List ℕ). slice_index t 0) h.2 in omega (arith, same)

pub returns-clause-model_for_a_refutation : goal.returns-clause-model_for_a_refutation
returns-clause-model_for_a_refutation c = λ values h. let same : 83 ≡ 85 = ap (λ (t : List ℕ). slice_index t 2) h.2 in omega (arith, same)
