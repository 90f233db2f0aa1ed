use Rattle.std.proofs.Common.{◌≡◌, ℕ, refl, ap, arith, ◌∷◌, [], true, false, ◌∙◌, List, Bool, ℤ}
use Rattle.std.specs.Fmt.{digits}
use Rattle.std.specs.Prelude.{pos, slice_index}
use Rattle.std.proofs.lemmas.List.Elements.{All-cons, All-nil}
use Rattle.mono_base.specs.declared.limits.TheConstants.{MAX_VARS}
use Rattle.mono_base.specs.Literal.{IsLitWithin}
use Rattle.mono_steps.specs.Renumbering.{pick}
use Rattle.mono_steps.specs.WorkedLemmas.{minus}
use Rattle.mono_steps.proofs.WorkedNew.{one_is_end}
use Rattle.mono_check.specs.declared.reason.Reason.TheVariants as reason
use Rattle.mono_check.specs.declared.verdict.Verdict.TheVariants as verdict
use Rattle.mono_core.specs.declared.outcome.CoreOutcome.TheVariants as outcome
use Rattle.mono_forms.specs.CoreTexts.{outcome_text}
use Rattle.mono_cmd.proofs.worked_cores.worked_findings.Goals as goal

none_picked : (bs : List Bool) → pick {A = ℤ} bs [] ≡ []
none_picked [] = refl
none_picked (b ∷ bs) = refl

pub returns-clause-core : goal.returns-clause-core
unfolding digits
returns-clause-core c = record {
  literals = All-cons (IsLitWithin MAX_VARS) (pos 2) (minus 1 ∷ []) (omega arith, omega arith) (All-cons (IsLitWithin MAX_VARS) (minus 1) [] (omega arith, omega arith) (All-nil (IsLitWithin MAX_VARS)));
  right = record {
    kept = false ∷ true ∷ [];
    as_many = refl;
    is = refl;
    refutes = record { refutes = refl; named = λ k lt. absurd (omega (arith, lt)); short = omega arith };
    needed = (record { len = refl; satisfies = (refl, (λ k d lt. absurd (omega arith))) }, tt);
  };
  accepted = refl;
}

pub returns-clause-model : goal.returns-clause-model
unfolding digits
returns-clause-model c = record {
  literals = All-cons (IsLitWithin MAX_VARS) (pos 2) [] (omega arith, omega arith) (All-nil (IsLitWithin MAX_VARS));
  right = record { len = refl; satisfies = (refl, (λ k d lt. absurd (omega arith))) };
  accepted = λ k d lt. absurd (omega arith);
}

pub returns-clause-model_of_the_problem_alone : goal.returns-clause-model_of_the_problem_alone
returns-clause-model_of_the_problem_alone c = λ h. let e : false ≡ true = h.right.satisfies.0 in cc

pub returns-clause-progress : goal.returns-clause-progress
unfolding digits
returns-clause-progress c = record {
  literals = All-cons (IsLitWithin MAX_VARS) (pos 3) [] (omega arith, omega arith) (All-nil (IsLitWithin MAX_VARS));
  right = record {
    justified = refl;
    new = record {
      chains = (
        (λ full. record {
          exact = one_is_end _ refl refl;
          new = record { under = pos 3 ∷ []; partial = refl; quiet = refl; lit = pos 1; is_literal = refl; has = refl; is_open = refl; others = refl };
        }),
        tt,
      );
      none_empty = refl;
    };
    chains = refl;
    few = omega arith;
    short = omega arith;
  };
  accepted = refl;
}

pub returns-clause-half_of_the_budget : goal.returns-clause-half_of_the_budget
returns-clause-half_of_the_budget c = λ h. let e : ◌≡◌ {A = ℕ} 1 2 = h.right.chains in cc

pub returns-clause-no_literal : goal.returns-clause-no_literal
returns-clause-no_literal c = λ h. let low = (h.literals 0 (pos 0) (omega arith)).0 in omega (arith, low)

pub returns-clause-no_room_for_clauses : goal.returns-clause-no_room_for_clauses
returns-clause-no_room_for_clauses c = λ p is. ((λ room. let few = room.clauses in omega (arith, is, few)), refl)

pub returns-clause-no_room_for_literals : goal.returns-clause-no_room_for_literals
returns-clause-no_room_for_literals c = λ p is. ((λ room. let few = room.literals in omega (arith, is, few)), refl)

pub returns-clause-room : goal.returns-clause-room
returns-clause-room c = λ h. h.0 (record { clauses = omega arith; literals = omega arith })

pub returns-clause-line_is_named : goal.returns-clause-line_is_named
returns-clause-line_is_named c = λ p h. let e = h.1 in cc

pub returns-clause-other_fault : goal.returns-clause-other_fault
returns-clause-other_fault c = λ p h. let e = h.1 in cc

pub returns-clause-found_beyond : goal.returns-clause-found_beyond
returns-clause-found_beyond c = λ p is h. let few = h.0.clauses in omega (arith, is, few)

pub returns-clause-solved_alone : goal.returns-clause-solved_alone
returns-clause-solved_alone c = λ h. h

pub returns-clause-other_text : goal.returns-clause-other_text
unfolding digits
returns-clause-other_text c = λ h. let e : verdict.Model ≡ verdict.Rejected 2 (reason.ClauseFalse 2) = h in cc

pub returns-clause-core_without_a_line : goal.returns-clause-core_without_a_line
returns-clause-core_without_a_line c = λ h. let same : 115 ≡ 99 = ap (λ t. slice_index t 0) h.4 in omega (arith, same)

pub returns-clause-progress_of_one_chain : goal.returns-clause-progress_of_one_chain
unfolding digits
returns-clause-progress_of_one_chain c = λ h. let e : verdict.Progress 100000 ≡ verdict.Progress 1 = h.3 in cc

pub returns-clause-progress_written : goal.returns-clause-progress_written
returns-clause-progress_written c = λ p lits steps progress accepted. (steps, progress, refl, accepted)

pub returns-clause-line_before_progress : goal.returns-clause-line_before_progress
returns-clause-line_before_progress c = λ rest h. let same : 99 ≡ 115 = ap (λ (t : List ℕ). slice_index t 0) h.2 in omega (arith, same)

pub returns-clause-too_few_variables : goal.returns-clause-too_few_variables
returns-clause-too_few_variables c = λ text h. let few = h.1.few in omega (arith, few)

pub returns-clause-core_without_a_refutation : goal.returns-clause-core_without_a_refutation
unfolding digits
returns-clause-core_without_a_refutation c = λ h. let e : verdict.Refutation ≡ verdict.Rejected 3 reason.NoEmptyClause = h.5 in cc

pub returns-clause-core_that_is_not_assumed : goal.returns-clause-core_that_is_not_assumed
unfolding digits
returns-clause-core_that_is_not_assumed c = λ h.
    let none : h.0 ≡ [] = h.3.is ∙ none_picked h.3.kept in
    let same = h.4 ∙ ap (λ (some : List ℤ). outcome_text (outcome.Core some h.2 h.1)) none in
    let byte : ◌≡◌ {A = ℕ} 45 48 = ap (λ (t : List ℕ). slice_index t 7) same in
    omega (arith, byte)

pub returns-clause-found_without_the_assumption : goal.returns-clause-found_without_the_assumption
returns-clause-found_without_the_assumption c = λ h. let e : false ≡ true = h.1.right.satisfies.0 in cc

pub returns-clause-found_within_one_clause : goal.returns-clause-found_within_one_clause
returns-clause-found_within_one_clause c = λ h. let e : ◌≡◌ {A = ℕ} 1 100000 = h.1.right.chains in cc
