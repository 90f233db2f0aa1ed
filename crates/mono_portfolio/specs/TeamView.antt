-- The state of a team: its board, and for each worker what it took and what it made.
use Rattle.std.specs.Prelude.{◌≡◌, ℕ, false, List, [], ◌++◌, replicate, slice_index_or, slice_set, IsTrue, All}
use Rattle.mono_problem.specs.Instance.{Instance}
use Rattle.mono_problem.specs.WellFormed.{IsInstance}
use Rattle.mono_steps.specs.declared.step.Step.{Step}
use Rattle.mono_steps.specs.Steps.{are_justified}
use Rattle.mono_portfolio.specs.Extended.{extended, has_chain, passes_limits}
use Rattle.mono_portfolio.specs.Moved.{moved}

-- the numbers of the steps that it took, and the steps that it made over the problem that these extend
pub record WorkerView : Type 0 where
  pub taken : List ℕ
  pub made : List Step

pub record TeamView : Type 0 where
  pub problem : Instance
  pub board : List Step
  pub workers : List WorkerView

abbrev pub idle : WorkerView
idle = record { taken = []; made = [] }

-- so many workers, and nothing on the board
abbrev pub start : Instance → ℕ → TeamView
start p workers = record { problem = p; board = []; workers = replicate workers idle }

abbrev pub worker_at : TeamView → ℕ → WorkerView
worker_at s w = slice_index_or s.workers w idle

-- the problem that a worker's search is over
abbrev pub over : TeamView → ℕ → Instance
over s w = extended s.problem s.board (worker_at s w).taken

-- the worker changes, and nothing else
abbrev pub with_worker : TeamView → ℕ → WorkerView → TeamView
with_worker s w x = record s { workers = slice_set s.workers w x }

-- the worker made these steps
abbrev pub with_made : TeamView → ℕ → List Step → TeamView
with_made s w made = with_worker s w (record (worker_at s w) { made = made })

-- what the worker made, carried to the board
abbrev pub moved_from : TeamView → ℕ → List Step
moved_from s w = moved s.problem (worker_at s w).made (worker_at s w).taken s.board

-- what the worker made has joined the board
abbrev pub after_give : TeamView → ℕ → TeamView
after_give s w = record (with_made s w []) { board = s.board ++ moved_from s w }

-- ---- what holds of every state that a play comes to

-- the worker took chains of the board, and made justified steps over the problem that they extend
pub record IsWorker (p : Instance) (board : List Step) (x : WorkerView) : Type 0 where
  pub held : All (λ n. IsTrue (has_chain p board n)) x.taken
  -- the problem stays within the limits of an input
  pub fits : passes_limits (extended p board x.taken) ≡ false
  pub justified : IsTrue (are_justified (extended p board x.taken) x.made)

pub record IsTeam (s : TeamView) : Type 0 where
  pub problem : IsInstance s.problem
  pub justified : IsTrue (are_justified s.problem s.board)
  pub workers : All (IsWorker s.problem s.board) s.workers
