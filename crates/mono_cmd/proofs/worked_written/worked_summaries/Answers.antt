use Rattle.std.proofs.Common.{◌≡◌, ◌<◌, ℕ, List, [], codes, refl, sym, ap, ◌∙◌, arith}
use Rattle.std.specs.Fmt.{digits}
use Rattle.std.specs.Prelude.{slice_index}
use Rattle.mono_best.specs.Worked.{weighed}
use Rattle.mono_forms.specs.Runs.{summary_of}
use Rattle.mono_cmd.proofs.worked_written.worked_summaries.Goals as goal

abbrev of_a_model : List ℕ
of_a_model = codes "variables 5\nclauses 0\nedges 2\npredicates 1\nresult satisfiable\nverdict accepted model\n"

abbrev of_a_refutation : List ℕ
of_a_refutation = codes "variables 5\nclauses 0\nedges 2\npredicates 1\nresult unsatisfiable\nverdict accepted refutation\n"

model_text : of_a_model ≡ summary_of (weighed []) (codes "satisfiable") (codes "accepted model\n")
unfolding digits
model_text = refl

refutation_text : of_a_refutation ≡ summary_of (weighed []) (codes "unsatisfiable") (codes "accepted refutation\n")
unfolding digits
refutation_text = refl

pub returns-clause-model : goal.returns-clause-model
returns-clause-model c = model_text

-- the first byte of the result differs
pub returns-clause-refutation_for_a_model : goal.returns-clause-refutation_for_a_model
returns-clause-refutation_for_a_model c = λ h.
    let is : of_a_refutation ≡ summary_of (weighed []) (codes "satisfiable") (codes "accepted model\n") = h in
    let byte : 117 ≡ 115 = ap (λ (t : List ℕ). slice_index t 50) (is ∙ sym model_text) in
    omega (arith, byte)

pub returns-clause-refutation : goal.returns-clause-refutation
returns-clause-refutation c = refutation_text

pub returns-clause-model_for_a_refutation : goal.returns-clause-model_for_a_refutation
returns-clause-model_for_a_refutation c = λ h.
    let is : of_a_model ≡ summary_of (weighed []) (codes "unsatisfiable") (codes "accepted refutation\n") = h in
    let byte : 115 ≡ 117 = ap (λ (t : List ℕ). slice_index t 50) (is ∙ sym refutation_text) in
    omega (arith, byte)

pub returns-clause-progress : goal.returns-clause-progress
returns-clause-progress c = λ p steps progress. (steps, progress, refl)

pub returns-clause-few_variables : goal.returns-clause-few_variables
returns-clause-few_variables c = λ text h. let few : 100000 < 9 = h.1.few in omega (arith, few)
