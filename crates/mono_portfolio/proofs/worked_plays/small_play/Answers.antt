use Rattle.std.proofs.Common.{refl, [], ◌∷◌}
use Rattle.mono_portfolio.specs.TeamView.{TeamView, idle}
use Rattle.mono_search.specs.Worked.{two_clauses, first_learned}
use Rattle.mono_portfolio.specs.Worked.{at_end}
use Rattle.mono_portfolio.proofs.WorkedProblem.{one_learned}
use Rattle.mono_portfolio.proofs.worked_plays.small_play.Goals as goal

abbrev ran : TeamView
ran = record { problem = two_clauses; board = []; workers = record { taken = []; made = first_learned } ∷ idle ∷ [] }

abbrev gave : TeamView
gave = record { problem = two_clauses; board = first_learned; workers = idle ∷ idle ∷ [] }

pub returns : goal.returns
returns c = (
  ran,
  record { made = first_learned; are = one_learned; after = refl },
  (
    gave,
    (refl, refl),
    (
      at_end,
      refl,
      (
        at_end,
        (refl, refl),
        (
          at_end,
          (refl, refl),
          (
            at_end,
            (refl, refl),
            (
              at_end,
              (refl, refl),
              (
                at_end,
                (refl, refl),
                (at_end, (refl, refl), refl),
              ),
            ),
          ),
        ),
      ),
    ),
  ),
)
