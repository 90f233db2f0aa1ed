use Rattle.std.proofs.Common.{◌≡◌, Bool, true, false, ◌||◌, [], ◌∷◌, refl, pos}
use Rattle.std.specs.Ordering.{int_eq}
use Rattle.mono_steps.proofs.NewSteps.{none_of_the_problem}
use Rattle.mono_steps.proofs.WorkedNew.{one_is_end, one_is_left_open}
use Rattle.mono_rows.proofs.steps.second_learned_clause.Goals as goal

twice : (b : Bool) → (b || false) ≡ (b || (b || false))
twice true = refl
twice false = refl

pub returns-clause-new : goal.returns-clause-new
returns-clause-new c =
    record {
      chains = (
        (λ full. record { exact = one_is_end _ refl refl; new = one_is_left_open _ refl }),
        (
          (λ full. record {
            exact = record { named = refl; end = pos 3 ∷ pos 3 ∷ []; is_end = refl; same = λ l. twice (int_eq l (pos 3)) };
            new = record { under = pos 1 ∷ []; partial = refl; quiet = refl; lit = pos 3; is_literal = refl; has = refl; is_open = refl; others = refl };
          }),
          tt,
        ),
      );
      none_empty = refl;
    }

pub returns-clause-of_the_problem : goal.returns-clause-of_the_problem
returns-clause-of_the_problem c = λ h. let e = none_of_the_problem _ _ h in cc
