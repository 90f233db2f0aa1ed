-- `check` accepts what `team` writes.
use Rattle.std.proofs.Common.{ℕ, Bool, List, length, refl}
use Rattle.mono_problem.specs.Instance.{Instance}
use Rattle.mono_problem.specs.WellFormed.{IsInstance}
use Rattle.mono_steps.specs.declared.step.Step.{Step}
use Rattle.mono_steps.specs.Journals.{chain_count}
use Rattle.mono_answer.specs.declared.kind.Kind.TheVariants as kind
use Rattle.mono_answer.specs.declared.answer.Answer.TheVariants as answer
use Rattle.mono_answer.specs.Printed.{answer_text}
use Rattle.mono_check.proofs.Accepted.{progress_iff}
use Rattle.mono_steps.specs.Trimmed.{IsTrimmed}
use Rattle.mono_portfolio.specs.Ends.{IsModelOfTurn, IsRefutationOfTurn}
use Rattle.mono_portfolio.specs.Outcomes.{IsBoardOfRounds}
use Rattle.mono_forms.specs.Teams.{IsTeamSolution}
use Rattle.mono_forms.proofs.Format.{steps_within}
use Rattle.mono_forms.proofs.Solutions.{model_solves, refutation_solves, printed_steps, few_steps}

pub team_model_solves : (p : Instance) (workers rounds : ℕ) (values : List Bool) (board : List Step) → IsInstance p → IsModelOfTurn p workers rounds values board → IsTeamSolution p workers rounds (answer.Model values)
team_model_solves p workers rounds values board ok h = record { right = (board, h); accepted = (model_solves p 1 values ok h.model).accepted }

pub team_refutation_solves : (p : Instance) (workers rounds : ℕ) (board steps : List Step) → IsInstance p → IsRefutationOfTurn p workers rounds board → IsTrimmed p board steps
    → IsTeamSolution p workers rounds (answer.Refutation steps)
team_refutation_solves p workers rounds board steps ok h trimmed = record { right = (board, h, trimmed); accepted = (refutation_solves p 1 steps ok trimmed.trim).accepted }

pub team_board_solves : (p : Instance) (workers rounds : ℕ) (board : List Step) → IsInstance p → IsBoardOfRounds p workers rounds board → IsTeamSolution p workers rounds (answer.Progress board)
team_board_solves p workers rounds board ok h =
    let within = steps_within p p.clauses board ok (few_steps p board ok h.short) h.justified in
    record {
      right = h;
      accepted = (progress_iff p (answer_text (answer.Progress board)) (chain_count board)).1 (board, printed_steps (length p.clauses) kind.Progress (answer.Progress board) board refl within, h.justified, refl);
    }
