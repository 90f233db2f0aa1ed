-- What `team` answers, and what it writes.
use Rattle.std.specs.Prelude.{◌≡◌, ℕ, Bool, List, Option}
use Rattle.mono_problem.specs.Instance.{Instance}
use Rattle.mono_steps.specs.declared.step.Step.{Step}
use Rattle.mono_steps.specs.Journals.{chain_count}
use Rattle.mono_steps.specs.Trimmed.{IsTrimmed}
use Rattle.mono_portfolio.specs.Ends.{IsModelOfTurn, IsRefutationOfTurn}
use Rattle.mono_portfolio.specs.Outcomes.{IsBoardOfRounds}
use Rattle.mono_io.specs.Shelf.{Texts}
use Rattle.mono_answer.specs.declared.answer.Answer.{Answer}
use Rattle.mono_answer.specs.declared.answer.Answer.TheVariants as answer
use Rattle.mono_answer.specs.Printed.{answer_text}
use Rattle.mono_check.specs.declared.verdict.Verdict.TheVariants as verdict
use Rattle.mono_check.specs.Verdicts.{IsVerdict}
use Rattle.mono_words.specs.declared.command.Command.{Command}
use Rattle.mono_words.specs.declared.command.Command.TheVariants as command
use Rattle.mono_forms.specs.declared.status.Status.{Status}
use Rattle.mono_forms.specs.declared.status.Status.TheVariants as status
use Rattle.mono_forms.specs.declared.ending.Ending.{Ending}
use Rattle.mono_forms.specs.declared.ending.Ending.TheVariants as ending
use Rattle.mono_forms.specs.Solved.{verdict_of}
use Rattle.mono_forms.specs.Told.{RunsOver}

-- of the first turn that gave no slice the model, or the board that refutes, trimmed; or the board of all rounds of so many workers
abbrev pub IsTeamAnswer : Instance → ℕ → ℕ → Answer → Type 0
IsTeamAnswer p workers rounds (answer.Model values) = (board : List Step) × IsModelOfTurn p workers rounds values board
IsTeamAnswer p workers rounds (answer.Refutation steps) = (board : List Step) × IsRefutationOfTurn p workers rounds board × IsTrimmed p board steps
IsTeamAnswer p workers rounds (answer.Progress board) = IsBoardOfRounds p workers rounds board

-- such an answer, whose printed text `check` accepts
pub record IsTeamSolution (p : Instance) (workers rounds : ℕ) (a : Answer) : Type 0 where
  pub right : IsTeamAnswer p workers rounds a
  pub accepted : IsVerdict p (answer_text a) (verdict_of a)

-- the run comes to it
pub record IsTeamed (p : Instance) (workers rounds : ℕ) (e : Ending) : Type 0 where
  pub answer : Answer
  pub is : e ≡ ending.Solved answer
  pub right : IsTeamSolution p workers rounds answer

-- `team` runs with so many workers and rounds, and FILE is told and stands for the problem
abbrev pub PlaysTeam : Option Command → Option Texts → Instance → ℕ → ℕ → Type 0
PlaysTeam found texts p workers rounds = RunsOver found (λ file. command.Team file workers rounds) texts p

-- what `team` writes with this status: the model of the first turn that gave no slice, or its refutation, trimmed, or the board of all
-- rounds. `check` accepts each as what it is
abbrev pub IsTeamTextBy : Status → Instance → ℕ → ℕ → List ℕ → Type 0
IsTeamTextBy status.Satisfiable p workers rounds text =
    (values : List Bool) × IsTeamAnswer p workers rounds (answer.Model values)
    × (text ≡ answer_text (answer.Model values)) × IsVerdict p text verdict.Model
IsTeamTextBy status.Unsatisfiable p workers rounds text =
    (steps : List Step) × IsTeamAnswer p workers rounds (answer.Refutation steps)
    × (text ≡ answer_text (answer.Refutation steps)) × IsVerdict p text verdict.Refutation
IsTeamTextBy status.Unknown p workers rounds text =
    (board : List Step) × IsBoardOfRounds p workers rounds board
    × (text ≡ answer_text (answer.Progress board)) × IsVerdict p text (verdict.Progress (chain_count board))
IsTeamTextBy s p workers rounds text = Unit {0}
