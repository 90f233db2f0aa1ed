-- At which turn rounds end: the first one that gives no slice.
use Rattle.std.specs.Prelude.{◌≡◌, ℕ, ◌<◌, ◌++◌, Bool, List, [], IsTrue}
use Rattle.mono_problem.specs.Instance.{Instance}
use Rattle.mono_steps.specs.declared.step.Step.{Step}
use Rattle.mono_steps.specs.Steps.{is_refutation}
use Rattle.mono_steps.specs.Trimmed.{IsTrimRefutation}
use Rattle.mono_search.specs.Outcomes.{HasModel}
use Rattle.mono_portfolio.specs.Extended.{extended}
use Rattle.mono_portfolio.specs.Moved.{moved}
use Rattle.mono_portfolio.specs.Rounds.{IsRound, AreRounds}

-- a turn of one of so many rounds comes next, and in each turn before it a worker gave its slice. All workers took these numbers, and
-- this is the board
pub record IsAtTurn (slice : ℕ) (p : Instance) (workers rounds : ℕ) (taken : List ℕ) (board : List Step) : Type 0 where
  pub done : ℕ
  pub worker : ℕ
  pub in_rounds : done < rounds
  pub of_workers : worker < workers
  -- the board when the round began
  pub before : List Step
  pub rounds_before : AreRounds slice p workers done [] [] taken before
  pub turns_before : IsRound slice p worker taken before board

-- a worker that took these numbers refuted its problem, by no idle step, and gave that: with it the board refutes the problem itself
pub record IsRefutedTurn (p : Instance) (taken : List ℕ) (before board : List Step) : Type 0 where
  pub steps : List Step
  pub trim : IsTrimRefutation (extended p before taken) steps
  pub is : board ≡ before ++ moved p steps taken before
  pub refutes : IsTrue (is_refutation p board)

-- the first turn that gave no slice found these values; the board is the one before it
pub record IsModelOfTurn (p : Instance) (workers rounds : ℕ) (values : List Bool) (board : List Step) : Type 0 where
  pub taken : List ℕ
  pub reached : IsAtTurn 1000 p workers rounds taken board
  pub model : HasModel p values

-- the first turn that gave no slice refuted, and this is the board behind it
pub record IsRefutationOfTurn (p : Instance) (workers rounds : ℕ) (board : List Step) : Type 0 where
  pub taken : List ℕ
  pub before : List Step
  pub reached : IsAtTurn 1000 p workers rounds taken before
  pub refuted : IsRefutedTurn p taken before board
