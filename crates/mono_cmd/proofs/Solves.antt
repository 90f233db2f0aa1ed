-- What a run of `solve` shows of the problem that FILE stands for.
use Rattle.std.proofs.Common.{◌≡◌, ◌<◌, ◌^◌, ℕ, Bool, true, List, ◌++◌, Option, Some, refl, subst}
use Rattle.mono_base.specs.Literal.{value_in}
use Rattle.mono_problem.specs.Instance.{Instance}
use Rattle.mono_problem.specs.WellFormed.{IsInstance}
use Rattle.mono_problem.specs.Holds.{HasNoModel, Satisfies}
use Rattle.mono_steps.proofs.StepTruth.{refutation_excludes}
use Rattle.mono_gnf.proofs.WellFormedReading.{stands_well_formed}
use Rattle.mono_answer.specs.declared.answer.Answer.{Answer}
use Rattle.mono_answer.specs.declared.answer.Answer.TheVariants as answer
use Rattle.mono_answer.specs.Printed.{answer_text}
use Rattle.mono_check.specs.declared.verdict.Verdict.TheVariants as verdict
use Rattle.mono_check.specs.Verdicts.{IsVerdict}
use Rattle.mono_io.specs.Shelf.{ShelfView}
use Rattle.mono_words.specs.declared.command.Command.{Command}
use Rattle.mono_words.specs.declared.command.Command.TheVariants as command
use Rattle.mono_forms.specs.declared.status.Status.{Status}
use Rattle.mono_forms.specs.declared.status.Status.TheVariants as status
use Rattle.mono_forms.specs.declared.ending.Ending.{Ending}
use Rattle.mono_forms.specs.declared.ending.Ending.TheVariants as ending
use Rattle.mono_forms.specs.Endings.{status_of, answer_status}
use Rattle.mono_forms.specs.Solved.{IsSolution}
use Rattle.mono_forms.specs.Runs.{IsSolved, ComesTo, Runs, Solves, IsVerdictBy}
use Rattle.mono_forms.proofs.Replies.{is_reply, end_behind, shown, said}

-- what an answer to the problem shows, by its status
abbrev pub Shows : Instance → ℕ → Status → Type 0
Shows p budget status.Satisfiable = (a : ℕ → Bool) × Satisfies p a
Shows p budget status.Unsatisfiable = HasNoModel p
Shows p budget status.Unknown = budget < 3 ^ p.vars
Shows p budget s = Unit {0}

pub solution_shows : (p : Instance) (budget : ℕ) (a : Answer) → IsInstance p → IsSolution p budget a → Shows p budget (answer_status a)
solution_shows p budget (answer.Model values) ok h = (value_in values, h.right.satisfies)
solution_shows p budget (answer.Refutation steps) ok h = refutation_excludes p steps ok h.right.refutes
solution_shows p budget (answer.Progress steps) ok h = h.right.few

solved_as : (p : Instance) (budget : ℕ) (e : Ending) → IsSolved p budget e → (a : Answer) × (e ≡ ending.Solved a) × IsSolution p budget a
solved_as p budget (ending.Solved a) h = (a, refl, h)
solved_as p budget e h = absurd h

-- what is said of its text
its_text : (p : Instance) (budget : ℕ) (a : Answer) → IsSolution p budget a → IsVerdictBy (answer_status a) p budget (answer_text a)
its_text p budget (answer.Model values) h = h.accepted
its_text p budget (answer.Refutation steps) h = h.accepted
its_text p budget (answer.Progress steps) h =
    (steps, h.right, refl, subst (λ (n : ℕ). IsVerdict p (answer_text (answer.Progress steps)) (verdict.Progress n)) h.right.chains h.accepted)

-- ---- as clauses of a run

module _ (found : Option Command) (old new : ShelfView) (s : Status) (before now : Option (List ℕ)) (runs : Runs found old new s before now) (p : Instance) (budget : ℕ) (solves : Solves found old.texts p budget) where
  came : (e : Ending) → ComesTo found old new e → is_reply (status_of e) ≡ true → (a : Answer) × (e ≡ ending.Solved a) × IsSolution p budget a
  came e comes reply =
      let over : ComesTo (Some (command.Solve solves.file budget)) old new e = subst (λ (c : Option Command). ComesTo c old new e) solves.is comes in
      solved_as p budget e (end_behind solves.file solves.text old new e p (λ q. IsSolved q budget e) solves.told solves.stands reply over)

  shows : (t : Status) → is_reply t ≡ true → s ≡ t → Shows p budget t
  shows =
      shown found old new s before now runs Answer (λ a. ending.Solved a) (λ a. IsSolution p budget a) came (Shows p budget)
      (λ a h w. solution_shows p budget a (stands_well_formed solves.text p solves.stands) h)

  pub satisfiable : s ≡ status.Satisfiable → (a : ℕ → Bool) × Satisfies p a
  satisfiable = shows status.Satisfiable refl

  pub unsatisfiable : s ≡ status.Unsatisfiable → HasNoModel p
  unsatisfiable = shows status.Unsatisfiable refl

  pub unknown : s ≡ status.Unknown → budget < 3 ^ p.vars
  unknown = shows status.Unknown refl

  pub its_verdict : (there written : List ℕ) → before ≡ Some there → now ≡ Some (there ++ written) → IsVerdictBy s p budget written
  its_verdict =
      said found old new s before now runs Answer (λ a. ending.Solved a) (λ a. IsSolution p budget a) came
      (λ t text. IsVerdictBy t p budget text) (λ text. (tt, tt, tt, tt, tt, tt)) (its_text p budget)
