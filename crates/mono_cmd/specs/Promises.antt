-- What is promised of a whole run, family by family, over what contracts see of it.
use Rattle.std.specs.Prelude.{◌≡◌, ◌≢◌, ◌≤◌, ◌<◌, ◌+◌, ◌^◌, ◌⊎◌, ◌++◌, ℕ, ℤ, Bool, List, Option, Some, IsTrue, IsSomeAnd, codes, slice_get}
use Rattle.mono_base.specs.declared.limits.TheConstants.{MAX_ANSWER_BYTES, MAX_INPUT_BYTES}
use Rattle.mono_io.specs.Faults.{counted}
use Rattle.mono_io.specs.Shelf.{ShelfView, told_text}
use Rattle.mono_problem.specs.Instance.{Instance}
use Rattle.mono_problem.specs.Holds.{HasNoModel, Satisfies}
use Rattle.mono_problem.specs.Assuming.{assuming}
use Rattle.mono_gnf.specs.Stands.{Stands}
use Rattle.mono_steps.specs.declared.step.Step.{Step}
use Rattle.mono_answer.specs.declared.version.Version.{Version}
use Rattle.mono_check.specs.Migrations.{MigratesTo}
use Rattle.mono_check.specs.Verdicts.{IsVerdict}
use Rattle.mono_best.specs.Asking.{asking}
use Rattle.mono_best.specs.Optimum.{IsNeverMet}
use Rattle.mono_portfolio.specs.Outcomes.{IsBoardOfRounds}
use Rattle.mono_words.specs.declared.command.Command.{Command}
use Rattle.mono_words.specs.declared.command.TheConstants.{DEFAULT_BUDGET, MAX_MIGRATED_BYTES}
use Rattle.mono_forms.specs.declared.status.Status.{Status}
use Rattle.mono_forms.specs.declared.status.Status.TheVariants as status
use Rattle.mono_words.specs.Commands.{files_of}
use Rattle.mono_cmd.specs.Refusals.{IsRefusal}
use Rattle.mono_forms.specs.Runs.{IsOutOfMemory, IsSummaryBy, IsBestBy, IsCoreBy, IsVerdictBy, Bounds, Asks, CheckWrote, CheckWithWrote, EachReached, IsCarriedOut, IsHeld, IsHeldWithin, IsJudgmentBy, Judges, JudgesWith, Migrates, Narrows, Prints, Runs, Solves, SolvesGenerated, begun_for}
use Rattle.mono_forms.specs.Teams.{IsTeamTextBy, PlaysTeam}

-- What contracts see of a run: its command, the shelf before and after it, its status, and what was written before and after it.
pub record RunView : Type 0 where
  pub command : Option Command
  pub old : ShelfView
  pub new : ShelfView
  pub status : Status
  pub before : Option (List ℕ)
  pub now : Option (List ℕ)

-- the output is told, and this was written behind what was there
pub record Wrote (run : RunView) (written : List ℕ) : Type 0 where
  pub there : List ℕ
  pub held : run.before ≡ Some there
  pub wrote : run.now ≡ Some (there ++ written)

-- ---- every run

-- A read fault comes only where one call of the shelf failed; a run that ends otherwise, but with a write fault, had none. With want of
-- memory nothing was written. No file is begun twice for one word. A file that is too long has more bytes than its limit.
pub record Counting (run : RunView) : Type 0 where
  pub read_fault : run.status ≡ status.ReadFault → run.new.faults ≡ counted run.old.faults
  pub no_read_fault : run.status ≢ status.ReadFault → run.status ≢ status.WriteFault → run.new.faults ≡ run.old.faults
  pub memory : run.status ≡ status.Memory → run.now ≡ run.before
  pub given_up : run.status ≡ status.Memory → IsOutOfMemory run.command run.old run.new
  pub begun : run.new.begun ≤ begun_for (files_of run.command) run.old.begun
  pub too_long : run.status ≡ status.TooLong
      → (run.new.place ≡ Some (MAX_INPUT_BYTES + 1)) ⊎ (run.new.place ≡ Some (MAX_ANSWER_BYTES + 1)) ⊎ (run.new.place ≡ Some (MAX_MIGRATED_BYTES + 1))

-- Over a steady shelf that holds the files that the command comes to, no read fault is answered. Where they are within their limits
-- too, no write failed and memory was found, the command is carried out.
pub record Completing (run : RunView) : Type 0 where
  pub steady : IsTrue run.old.steady → IsSomeAnd run.command (EachReached (IsHeld run.old.texts) run.old.texts) → run.status ≢ status.ReadFault
  pub complete : IsTrue run.old.steady → IsSomeAnd run.command (EachReached (IsHeldWithin run.old.texts) run.old.texts)
      → run.status ≢ status.WriteFault → run.status ≢ status.Memory → IsSomeAnd run.command (λ c. IsCarriedOut c run.status)

-- `refused ..`: what is written names the first fault of the text that is told of FILE; or FILE has none, and what is written says why the
-- assumptions or the bound can't be asked of its problem.
pub record Refusing (run : RunView) : Type 0 where
  pub refusal : (file text written : List ℕ) → slice_get (files_of run.command) 0 ≡ Some file → told_text run.old.texts file ≡ Some text
      → run.status ≡ status.Refused → Wrote run written → IsRefusal run.command text written

-- ---- forms

-- `solve`: an assignment satisfies the problem that FILE stands for; none does; the budget is below 3^V. What was written, and the
-- verdict that `check` gives it.
pub record Solving (run : RunView) : Type 0 where
  pub satisfiable : (p : Instance) (budget : ℕ) → Solves run.command run.old.texts p budget → run.status ≡ status.Satisfiable → (a : ℕ → Bool) × Satisfies p a
  pub unsatisfiable : (p : Instance) (budget : ℕ) → Solves run.command run.old.texts p budget → run.status ≡ status.Unsatisfiable → HasNoModel p
  pub unknown : (p : Instance) (budget : ℕ) → Solves run.command run.old.texts p budget → run.status ≡ status.Unknown → budget < 3 ^ p.vars
  pub verdict : (p : Instance) (budget : ℕ) (written : List ℕ) → Solves run.command run.old.texts p budget → Wrote run written → IsVerdictBy run.status p budget written

-- `gen` with `--solve`: the same of the problem that the generated input stands for, and what is written.
pub record Generating (run : RunView) : Type 0 where
  pub satisfiable : (p : Instance) → SolvesGenerated run.command p → run.status ≡ status.Satisfiable → (a : ℕ → Bool) × Satisfies p a
  pub unsatisfiable : (p : Instance) → SolvesGenerated run.command p → run.status ≡ status.Unsatisfiable → HasNoModel p
  pub unknown : (p : Instance) → SolvesGenerated run.command p → run.status ≡ status.Unknown → DEFAULT_BUDGET < 3 ^ p.vars
  pub summary : (p : Instance) (written : List ℕ) → SolvesGenerated run.command p → Wrote run written → IsSummaryBy run.status p written

-- `core`: an assignment satisfies the problem under all assumptions; none does; the budget is below 3 to the number of that problem's
-- variables. What was written, and the verdict that `check-with` gives it.
pub record Narrowing (run : RunView) : Type 0 where
  pub satisfiable : (p : Instance) (lits : List ℤ) → Narrows run.command run.old.texts p lits
      → run.status ≡ status.Satisfiable → (a : ℕ → Bool) × Satisfies (assuming p lits) a
  pub unsatisfiable : (p : Instance) (lits : List ℤ) → Narrows run.command run.old.texts p lits → run.status ≡ status.Unsatisfiable → HasNoModel (assuming p lits)
  pub unknown : (p : Instance) (lits : List ℤ) → Narrows run.command run.old.texts p lits → run.status ≡ status.Unknown → DEFAULT_BUDGET < 3 ^ (assuming p lits).vars
  pub core : (p : Instance) (lits : List ℤ) (written : List ℕ) → Narrows run.command run.old.texts p lits → Wrote run written → IsCoreBy run.status p lits written

-- `best`: what was written, and the verdict that `check` gives it of the problem that asks for the next bound; no satisfying assignment
-- meets any bound; the budget is below 3 to the number of variables of a problem that asks.
pub record Bounding (run : RunView) : Type 0 where
  pub bound : (p : Instance) (n : ℕ) (written : List ℕ) → Bounds run.command run.old.texts p n → Wrote run written → IsBestBy run.status p n written
  pub never_met : (p : Instance) (n : ℕ) → Bounds run.command run.old.texts p n → run.status ≡ status.Unsatisfiable → IsNeverMet p n
  pub unknown : (p : Instance) (n : ℕ) → Bounds run.command run.old.texts p n → run.status ≡ status.Unknown → DEFAULT_BUDGET < 3 ^ (p.vars + 1)

-- `print`: what was written stands for the problem that FILE stands for.
pub record Printing (run : RunView) : Type 0 where
  pub stands : (p : Instance) (written : List ℕ) → Prints run.command run.old.texts p → run.status ≡ status.Printed → Wrote run written → Stands written p

-- `migrate`: what was written is what ANSWER is migrated to, and `check` gives it the verdict that accepts ANSWER.
pub record Migrating (run : RunView) : Type 0 where
  pub migrated : (p : Instance) (answer written : List ℕ) (v : Version) → Migrates run.command run.old.texts p answer v
      → run.status ≡ status.Printed → Wrote run written → (m : MigratesTo p answer v written) × IsVerdict p written m.verdict

-- `ask`: what was written stands for the problem that asks for the bound.
pub record Asking (run : RunView) : Type 0 where
  pub stands : (p : Instance) (n : ℕ) (b : ℤ) (written : List ℕ) → Asks run.command run.old.texts p n b
      → run.status ≡ status.Printed → Wrote run written → Stands written (asking p n b)

-- `team`: an assignment satisfies the problem that FILE stands for; none does; all rounds were played. What was written, of which turn it
-- is, and the verdict that `check` gives it.
pub record Teaming (run : RunView) : Type 0 where
  pub satisfiable : (p : Instance) (workers rounds : ℕ) → PlaysTeam run.command run.old.texts p workers rounds
      → run.status ≡ status.Satisfiable → (a : ℕ → Bool) × Satisfies p a
  pub unsatisfiable : (p : Instance) (workers rounds : ℕ) → PlaysTeam run.command run.old.texts p workers rounds → run.status ≡ status.Unsatisfiable → HasNoModel p
  pub unknown : (p : Instance) (workers rounds : ℕ) → PlaysTeam run.command run.old.texts p workers rounds
      → run.status ≡ status.Unknown → (board : List Step) × IsBoardOfRounds p workers rounds board
  pub board : (p : Instance) (workers rounds : ℕ) (written : List ℕ) → PlaysTeam run.command run.old.texts p workers rounds
      → Wrote run written → IsTeamTextBy run.status p workers rounds written

-- `check`: what is written is the verdict on ANSWER, with its status. With this text written, no assignment satisfies the problem that
-- FILE stands for; with the other one, some does.
pub record Judging (run : RunView) : Type 0 where
  pub verdict : (p : Instance) (answer written : List ℕ) → Judges run.command run.old.texts p answer → Wrote run written → IsJudgmentBy run.status p answer written
  pub refutes : (p : Instance) → CheckWrote run.command run.old.texts run.before run.now p (codes "accepted refutation\n") → HasNoModel p
  pub models : (p : Instance) → CheckWrote run.command run.old.texts run.before run.now p (codes "accepted model\n") → (a : ℕ → Bool) × Satisfies p a

-- `check-with`: the same of the problem under its assumptions.
pub record JudgingWith (run : RunView) : Type 0 where
  pub verdict : (p : Instance) (lits : List ℤ) (answer written : List ℕ) → JudgesWith run.command run.old.texts p lits answer → Wrote run written
      → IsJudgmentBy run.status (assuming p lits) answer written
  pub refutes : (p : Instance) (lits : List ℤ) → CheckWithWrote run.command run.old.texts run.before run.now p lits (codes "accepted refutation\n")
      → HasNoModel (assuming p lits)
  pub models : (p : Instance) (lits : List ℤ) → CheckWithWrote run.command run.old.texts run.before run.now p lits (codes "accepted model\n")
      → (a : ℕ → Bool) × Satisfies (assuming p lits) a

-- ---- the whole

-- The run comes to an ending, in the order of its steps, and writes its text; and this is what that shows.
pub record IsRun (run : RunView) : Type 0 where
  pub runs : Runs run.command run.old run.new run.status run.before run.now
  pub counts : Counting run
  pub completes : Completing run
  pub refuses : Refusing run
  pub solves : Solving run
  pub generates : Generating run
  pub narrows : Narrowing run
  pub bounds : Bounding run
  pub prints : Printing run
  pub migrates : Migrating run
  pub asks : Asking run
  pub teams : Teaming run
  pub judges : Judging run
  pub judges_with : JudgingWith run
