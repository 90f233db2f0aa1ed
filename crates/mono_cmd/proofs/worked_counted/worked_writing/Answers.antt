use Rattle.std.proofs.Common.{◌≡◌, ℕ, List, Some, codes, refl, ap, arith, inl, inr}
use Rattle.std.specs.Prelude.{slice_index}
use Rattle.mono_words.specs.declared.command.Command.TheVariants as command
use Rattle.mono_cmd.specs.Refusals.{IsRefusal}
use Rattle.mono_cmd.proofs.worked_counted.worked_writing.Goals as goal

pub returns-clause-other_refusal : goal.returns-clause-other_refusal
returns-clause-other_refusal c = λ h. by_case (h.refusal (codes "b") (codes "x") (codes "x") refl refl refl (record { there = codes "a"; held = refl; wrote = refl }))
  where
    by_case : IsRefusal (Some (command.Print (codes "b"))) (codes "x") (codes "x") → ⊥
    by_case (inl named) = let byte : 120 ≡ 114 = ap (λ (t : List ℕ). slice_index t 0) named.is in omega (arith, byte)
    by_case (inr unaskable) = unaskable.unasked

pub returns-clause-other_problem : goal.returns-clause-other_problem
returns-clause-other_problem c = λ text written p stands other h.
    other (h.stands p written (record { file = codes "f"; is = refl; text = text; told = refl; stands = stands }) refl (record { there = codes "a"; held = refl; wrote = refl }))

pub returns-clause-other_question : goal.returns-clause-other_question
returns-clause-other_question c = λ text written p n b stands other h.
    other (h.stands p n b written (record { file = codes "f"; is = refl; text = text; told = refl; stands = stands }) refl (record { there = codes "a"; held = refl; wrote = refl }))

pub returns-clause-other_migration : goal.returns-clause-other_migration
returns-clause-other_migration c = λ text given written p v stands other h.
    let migrated = h.migrated p given written v
    (record { file = codes "f"; answer = codes "a"; is = refl; text = text; told = refl; stands = stands; answered = refl }) refl
    (record { there = codes "a"; held = refl; wrote = refl }) in
    other migrated.0 migrated.1

-- ---- `check`

pub returns-clause-other_verdict : goal.returns-clause-other_verdict
returns-clause-other_verdict c = λ text given written p stands other h.
    other (h.verdict p given written (record { file = codes "f"; answer = codes "a"; is = refl; text = text; told = refl; stands = stands; answered = refl })
    (record { there = codes "a"; held = refl; wrote = refl }))

pub returns-clause-refutation_with_a_model : goal.returns-clause-refutation_with_a_model
returns-clause-refutation_with_a_model c = λ text p a stands model h.
    h.refutes p
    (record { file = codes "f"; answer = codes "a"; is = refl; text = text; told = refl; stands = stands; there = codes "a"; held = refl; wrote = refl }) a model

pub returns-clause-model_of_none : goal.returns-clause-model_of_none
returns-clause-model_of_none c = λ text p stands none h.
    let model = h.models p
    (record { file = codes "f"; answer = codes "a"; is = refl; text = text; told = refl; stands = stands; there = codes "a"; held = refl; wrote = refl }) in
    none model.0 model.1

-- ---- `check-with`

pub returns-clause-other_verdict_with : goal.returns-clause-other_verdict_with
returns-clause-other_verdict_with c = λ text given written p lits stands other h.
    other (h.verdict p lits given written (record { file = codes "f"; answer = codes "a"; is = refl; text = text; told = refl; stands = stands; answered = refl })
    (record { there = codes "a"; held = refl; wrote = refl }))

pub returns-clause-refutation_with_a_model_with : goal.returns-clause-refutation_with_a_model_with
returns-clause-refutation_with_a_model_with c = λ text p lits a stands model h.
    h.refutes p lits
    (record { file = codes "f"; answer = codes "a"; is = refl; text = text; told = refl; stands = stands; there = codes "a"; held = refl; wrote = refl }) a model

pub returns-clause-model_of_none_with : goal.returns-clause-model_of_none_with
returns-clause-model_of_none_with c = λ text p lits stands none h.
    let model = h.models p lits
    (record { file = codes "f"; answer = codes "a"; is = refl; text = text; told = refl; stands = stands; there = codes "a"; held = refl; wrote = refl }) in
    none model.0 model.1
