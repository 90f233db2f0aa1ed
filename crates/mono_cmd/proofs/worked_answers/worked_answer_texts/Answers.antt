use Rattle.std.proofs.Common.{◌≡◌, ℕ, List, refl, ap, arith}
use Rattle.std.specs.Fmt.{digits}
use Rattle.std.specs.Prelude.{slice_index}
use Rattle.mono_check.specs.declared.reason.Reason.TheVariants as reason
use Rattle.mono_check.specs.declared.verdict.Verdict.TheVariants as verdict
use Rattle.mono_search.specs.Worked.{first_learned}
use Rattle.mono_steps.proofs.WorkedNew.{one_is_end, one_is_left_open}
use Rattle.mono_cmd.proofs.worked_answers.worked_answer_texts.Goals as goal

pub returns-clause-model : goal.returns-clause-model
unfolding digits
returns-clause-model c = λ k d lt. absurd (omega arith)

pub returns-clause-other_model : goal.returns-clause-other_model
unfolding digits
returns-clause-other_model c = λ h. let e : verdict.Model ≡ verdict.Rejected 2 (reason.ClauseFalse 2) = h in cc

pub returns-clause-no_refutation : goal.returns-clause-no_refutation
unfolding digits
returns-clause-no_refutation c = λ h. h

pub returns-clause-progress : goal.returns-clause-progress
unfolding digits
returns-clause-progress c = (
  first_learned,
  record {
    justified = refl;
    new = record { chains = ((λ full. record { exact = one_is_end _ refl refl; new = one_is_left_open _ refl }), tt); none_empty = refl };
    chains = refl;
    few = omega arith;
    short = omega arith;
  },
  refl,
  refl,
)

pub returns-clause-other_budget : goal.returns-clause-other_budget
unfolding digits
returns-clause-other_budget c = λ h. let e : verdict.Progress 2 ≡ verdict.Progress 1 = h.3 in cc

pub returns-clause-line_before : goal.returns-clause-line_before
returns-clause-line_before c = λ h. let same : 99 ≡ 115 = ap (λ (t : List ℕ). slice_index t 0) h.2 in omega (arith, same)

pub returns-clause-too_few_variables : goal.returns-clause-too_few_variables
returns-clause-too_few_variables c = λ h. let few = h.1.few in omega (arith, few)
