-- What a run of `team` shows of the problem that FILE stands for.
use Rattle.std.proofs.Common.{◌≡◌, ℕ, Bool, true, List, ◌++◌, Option, Some, refl, subst}
use Rattle.mono_base.specs.Literal.{value_in}
use Rattle.mono_problem.specs.Instance.{Instance}
use Rattle.mono_problem.specs.WellFormed.{IsInstance}
use Rattle.mono_problem.specs.Holds.{HasNoModel, Satisfies}
use Rattle.mono_steps.specs.declared.step.Step.{Step}
use Rattle.mono_steps.proofs.StepTruth.{refutation_excludes}
use Rattle.mono_portfolio.specs.Outcomes.{IsBoardOfRounds}
use Rattle.mono_gnf.proofs.WellFormedReading.{stands_well_formed}
use Rattle.mono_answer.specs.declared.answer.Answer.{Answer}
use Rattle.mono_answer.specs.declared.answer.Answer.TheVariants as answer
use Rattle.mono_answer.specs.Printed.{answer_text}
use Rattle.mono_io.specs.Shelf.{ShelfView}
use Rattle.mono_words.specs.declared.command.Command.{Command}
use Rattle.mono_words.specs.declared.command.Command.TheVariants as command
use Rattle.mono_forms.specs.declared.status.Status.{Status}
use Rattle.mono_forms.specs.declared.status.Status.TheVariants as status
use Rattle.mono_forms.specs.declared.ending.Ending.{Ending}
use Rattle.mono_forms.specs.declared.ending.Ending.TheVariants as ending
use Rattle.mono_forms.specs.Endings.{status_of, answer_status}
use Rattle.mono_forms.specs.Teams.{IsTeamed, IsTeamSolution, PlaysTeam, IsTeamTextBy}
use Rattle.mono_forms.specs.Runs.{ComesTo, Runs}
use Rattle.mono_forms.proofs.Replies.{is_reply, end_behind, shown, said}

-- what an answer of a team shows, by its status
abbrev Shows : Instance → ℕ → ℕ → Status → Type 0
Shows p workers rounds status.Satisfiable = (a : ℕ → Bool) × Satisfies p a
Shows p workers rounds status.Unsatisfiable = HasNoModel p
Shows p workers rounds status.Unknown = (board : List Step) × IsBoardOfRounds p workers rounds board
Shows p workers rounds s = Unit {0}

team_shows : (p : Instance) (workers rounds : ℕ) (a : Answer) → IsInstance p → IsTeamSolution p workers rounds a → Shows p workers rounds (answer_status a)
team_shows p workers rounds (answer.Model values) ok h = (value_in values, h.right.1.model.satisfies)
team_shows p workers rounds (answer.Refutation steps) ok h = refutation_excludes p steps ok h.right.2.trim.refutes
team_shows p workers rounds (answer.Progress board) ok h = (board, h.right)

-- its text, and the verdict on it
its_text : (p : Instance) (workers rounds : ℕ) (a : Answer) → IsTeamSolution p workers rounds a → IsTeamTextBy (answer_status a) p workers rounds (answer_text a)
its_text p workers rounds (answer.Model values) h = (values, h.right, refl, h.accepted)
its_text p workers rounds (answer.Refutation steps) h = (steps, h.right, refl, h.accepted)
its_text p workers rounds (answer.Progress board) h = (board, h.right, refl, h.accepted)

-- ---- as clauses of a run

module _ (found : Option Command) (old new : ShelfView) (s : Status) (before now : Option (List ℕ)) (runs : Runs found old new s before now) (p : Instance) (workers rounds : ℕ) (plays : PlaysTeam found old.texts p workers rounds) where
  came : (e : Ending) → ComesTo found old new e → is_reply (status_of e) ≡ true → (a : Answer) × (e ≡ ending.Solved a) × IsTeamSolution p workers rounds a
  came e comes reply =
      let over : ComesTo (Some (command.Team plays.file workers rounds)) old new e = subst (λ (c : Option Command). ComesTo c old new e) plays.is comes in
      let teamed = end_behind plays.file plays.text old new e p (λ q. IsTeamed q workers rounds e) plays.told plays.stands reply over in
      (teamed.answer, teamed.is, teamed.right)

  shows : (t : Status) → is_reply t ≡ true → s ≡ t → Shows p workers rounds t
  shows =
      shown found old new s before now runs Answer (λ a. ending.Solved a) (λ a. IsTeamSolution p workers rounds a) came (Shows p workers rounds)
      (λ a h w. team_shows p workers rounds a (stands_well_formed plays.text p plays.stands) h)

  pub team_satisfiable : s ≡ status.Satisfiable → (a : ℕ → Bool) × Satisfies p a
  team_satisfiable = shows status.Satisfiable refl

  pub team_unsatisfiable : s ≡ status.Unsatisfiable → HasNoModel p
  team_unsatisfiable = shows status.Unsatisfiable refl

  pub team_unknown : s ≡ status.Unknown → (board : List Step) × IsBoardOfRounds p workers rounds board
  team_unknown = shows status.Unknown refl

  pub its_board : (there written : List ℕ) → before ≡ Some there → now ≡ Some (there ++ written) → IsTeamTextBy s p workers rounds written
  its_board =
      said found old new s before now runs Answer (λ a. ending.Solved a) (λ a. IsTeamSolution p workers rounds a) came
      (λ t text. IsTeamTextBy t p workers rounds text) (λ text. (tt, tt, tt, tt, tt, tt)) (its_text p workers rounds)
