use Rattle.std.proofs.Common.{◌≡◌, Bool, true, false, ◌||◌, [], ◌∷◌, refl, lit<, pos}
use Rattle.std.specs.Ordering.{int_eq}
use Rattle.mono_problem.specs.Instance.{Instance}
use Rattle.mono_steps.specs.New.{IsExactEnd, IsProgress}
use Rattle.mono_steps.proofs.WorkedNew.{one_is_left_open}
use Rattle.mono_portfolio.specs.Extended.{extended}
use Rattle.mono_portfolio.specs.Worked.{four_clauses, given_first, given_next}
use Rattle.mono_portfolio.proofs.WorkedProblem.{first_given}
use Rattle.mono_portfolio.proofs.worked_rounds.two_small_rounds.Goals as goal

thrice : (a : Bool) → (a || false) ≡ (a || (a || (a || false)))
thrice true = refl
thrice false = refl

-- the problem with {1, 2} behind its clauses
abbrev five_clauses : Instance
five_clauses = extended four_clauses (given_first ∷ []) (5 ∷ [])

next_end : IsExactEnd five_clauses.clauses (record { clause = pos 1 ∷ []; used = 3 ∷ 4 ∷ 5 ∷ [] })
next_end = record { named = refl; end = pos 1 ∷ pos 1 ∷ pos 1 ∷ []; is_end = refl; same = λ l. thrice (int_eq l (pos 1)) }

next_learned : IsProgress five_clauses 1 (given_next ∷ [])
next_learned = record { justified = refl; new = record { chains = ((λ full. record { exact = next_end; new = one_is_left_open _ refl }), tt); none_empty = refl }; chains = refl; few = lit< tt; short = lit< tt }

pub returns : goal.returns
returns c = (
  given_first ∷ [],
  (given_first ∷ [], record { steps = given_first ∷ []; learned = first_given; is = refl }, refl),
  (
    given_first ∷ given_next ∷ [],
    (given_next ∷ [], record { steps = given_next ∷ []; learned = next_learned; is = refl }, refl),
    (refl, refl),
  ),
)
