-- A worker as its team keeps it, and the problem that was built last: what contracts see, and what saves work.
use Rattle.std.specs.Prelude.{◌≡◌, ℕ, ◌<◌, ◌==◌, if◌then◌else◌, List, [], length, map, slice_index_or, Option, Some, None, IfSome, IsTrue, All}
use Rattle.mono_problem.specs.Instance.{Instance, literals_total}
use Rattle.mono_problem.specs.WellFormed.{IsInstance}
use Rattle.mono_steps.specs.declared.step.Step.{Step}
use Rattle.mono_steps.specs.Steps.{are_justified}
use Rattle.mono_portfolio.specs.declared.building.Built.{Built}
use Rattle.mono_portfolio.specs.Extended.{extended}
use Rattle.mono_portfolio.specs.TeamView.{WorkerView, TeamView, IsWorker}

pub record WorkerState : Type 0 where
  pub taken : List ℕ
  pub made : List Step
  -- how many literals its problem has
  pub literals : ℕ

abbrev pub shown : WorkerState → WorkerView
shown x = record { taken = x.taken; made = x.made }

-- a worker of the problem that took nothing and made nothing
abbrev pub idle_over : Instance → WorkerState
idle_over p = record { taken = []; made = []; literals = literals_total p }

-- the literals are counted
pub record IsKeptWorker (p : Instance) (board : List Step) (x : WorkerState) : Type 0 where
  pub worker : IsWorker p board (shown x)
  pub literals : x.literals ≡ literals_total (extended p board x.taken)

-- a search over q is one of this worker
pub record SearchesOver (p : Instance) (board : List Step) (x : WorkerState) (q : Instance) : Type 0 where
  pub problem : IsInstance p
  pub justified : IsTrue (are_justified p board)
  pub kept : IsKeptWorker p board x
  pub over : q ≡ extended p board x.taken

-- ---- the problem that was built last

-- what the worker at this place took
abbrev pub taken_at : List WorkerState → ℕ → List ℕ
taken_at xs w = (slice_index_or xs w (record { taken = []; made = []; literals = 0 })).taken

-- it is the problem of the worker at its place
pub record IsBuilt (p : Instance) (board : List Step) (xs : List WorkerState) (b : Built) : Type 0 where
  pub there : b.worker < length xs
  pub is : b.problem ≡ extended p board (taken_at xs b.worker)

-- what was built, unless it is of the worker at this place
abbrev pub unless_of : ℕ → Option Built → Option Built
unless_of w None = None
unless_of w (Some b) = if b.worker == w then None else Some b

-- what was built, where it is of the worker at this place; else p
abbrev pub built_or : Instance → ℕ → Option Built → Instance
built_or p w None = p
built_or p w (Some b) = if b.worker == w then b.problem else p

-- ---- a team

abbrev pub shown_team : Instance → List Step → List WorkerState → TeamView
shown_team p board xs = record { problem = p; board = board; workers = map shown xs }

pub record IsKeptTeam (p : Instance) (board : List Step) (xs : List WorkerState) (last : Option Built) : Type 0 where
  pub problem : IsInstance p
  pub justified : IsTrue (are_justified p board)
  pub workers : All (IsKeptWorker p board) xs
  pub built : IfSome last (IsBuilt p board xs)
