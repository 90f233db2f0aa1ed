-- How a team's rounds end.
use Rattle.std.specs.Prelude.{ℕ, ◌^◌, ◌<◌, List, length, IsTrue}
use Rattle.mono_problem.specs.Instance.{Instance}
use Rattle.mono_steps.specs.declared.step.Step.{Step}
use Rattle.mono_steps.specs.Steps.{are_justified}
use Rattle.mono_portfolio.specs.declared.rounds.TeamOutcome.{TeamOutcome}
use Rattle.mono_portfolio.specs.declared.rounds.TeamOutcome.TheVariants as outcome
use Rattle.mono_portfolio.specs.Rounds.{Rounds}
use Rattle.mono_portfolio.specs.Ends.{IsModelOfTurn, IsRefutationOfTurn}

-- the board of all rounds. There are fewer than 3^V clauses to be learned, so that it comes only where a slice is below that
pub record IsBoardOfRounds (p : Instance) (workers rounds : ℕ) (board : List Step) : Type 0 where
  pub justified : IsTrue (are_justified p board)
  pub rounds_are : Rounds p board workers rounds
  pub few : 1000 < 3 ^ p.vars
  pub short : length board < 2 ^ 63

-- with the model or the refutation of the first turn that gave no slice, or with the board of all rounds
abbrev pub IsTeamOutcome : Instance → ℕ → ℕ → TeamOutcome → Type 0
IsTeamOutcome p workers rounds (outcome.Model values board) = IsModelOfTurn p workers rounds values board
IsTeamOutcome p workers rounds (outcome.Refutation board) = IsRefutationOfTurn p workers rounds board
IsTeamOutcome p workers rounds (outcome.Board board) = IsBoardOfRounds p workers rounds board
