-- Turns of a team whose workers search and give one after the other.
use Rattle.std.specs.Prelude.{◌≡◌, ℕ, ◌++◌, ◌^◌, ◌<◌, ◌≤◌, ◌+◌, [], List, length, drop, replicate, slice_set, IsTrue, All}
use Rattle.mono_problem.specs.Instance.{Instance}
use Rattle.mono_steps.specs.declared.step.Step.{Step}
use Rattle.mono_steps.specs.Steps.{are_justified}
use Rattle.mono_portfolio.specs.declared.rounds.Turn.{Turn}
use Rattle.mono_portfolio.specs.declared.rounds.Turn.TheVariants as turn
use Rattle.mono_portfolio.specs.TeamView.{TeamView, worker_at, with_worker}
use Rattle.mono_search.specs.Outcomes.{HasModel}
use Rattle.mono_portfolio.specs.Rounds.{IsPiece, IsRound, Rounds, taking, short_chains}
use Rattle.mono_portfolio.specs.Ends.{IsRefutedTurn, IsModelOfTurn, IsRefutationOfTurn}

-- a team whose workers all took these steps, and made nothing
abbrev pub even : Instance → ℕ → List ℕ → List Step → TeamView
even p workers taken board = record { problem = p; board = board; workers = replicate workers (record { taken = taken; made = [] }) }

-- the worker took these steps and made nothing
abbrev pub having : TeamView → ℕ → List ℕ → TeamView
having s w taken = with_worker s w (record { taken = taken; made = [] })

-- the worker gave a piece
pub record IsGiven (s : TeamView) (w : ℕ) (t : TeamView) : Type 0 where
  pub piece : List Step
  pub is_piece : IsPiece 1000 s.problem s.board (worker_at s w).taken piece
  pub after : t ≡ record {
    problem = s.problem;
    board = s.board ++ piece;
    workers = slice_set s.workers w (record (worker_at s w) { made = [] });
  }

-- how a turn ends that gives no slice, of a worker that took these numbers: from the board before it to the one behind it
abbrev pub EndsTurn : Instance → List ℕ → List Step → List Step → Turn → Type 0
EndsTurn p taken before board (turn.Model values) = HasModel p values × (board ≡ before)
EndsTurn p taken before board turn.Refuted = IsRefutedTurn p taken before board
EndsTurn p taken before board turn.Gave = ⊥

abbrev pub TurnsTo : TeamView → ℕ → TeamView → Turn → Type 0
TurnsTo s w t (turn.Model values) = EndsTurn s.problem (worker_at s w).taken s.board t.board (turn.Model values)
TurnsTo s w t turn.Refuted = EndsTurn s.problem (worker_at s w).taken s.board t.board turn.Refuted
TurnsTo s w t turn.Gave = IsGiven s w t

-- from an even team, a round of so many workers leads to an even team, with a piece for each worker
pub record IsRounded (s : TeamView) (workers : ℕ) (t : TeamView) : Type 0 where
  pub few : 0 < workers → 1000 < 3 ^ s.problem.vars
  pub leads : (k : ℕ) (taken : List ℕ) → workers ≤ k → s ≡ even s.problem k taken s.board
      → (t ≡ even s.problem k taken t.board) × IsRound 1000 s.problem workers taken s.board t.board

-- a round of workers that took these numbers stops at the turn of one of so many, with a piece for each before it
pub record IsStopped (p : Instance) (workers : ℕ) (taken : List ℕ) (start board : List Step) (end : Turn) : Type 0 where
  pub worker : ℕ
  pub of_workers : worker < workers
  pub before : List Step
  pub turns_before : IsRound 1000 p worker taken start before
  pub ends : EndsTurn p taken before board end

-- from an even team, a round of so many workers stops
abbrev pub Stops : TeamView → ℕ → TeamView → Turn → Type 0
Stops s workers t end =
    (k : ℕ) (taken : List ℕ) → workers ≤ k → s ≡ even s.problem k taken s.board → IsStopped s.problem workers taken s.board t.board end

abbrev pub RoundsTo : TeamView → ℕ → TeamView → Turn → Type 0
RoundsTo s workers t (turn.Model values) = Stops s workers t (turn.Model values)
RoundsTo s workers t turn.Refuted = Stops s workers t turn.Refuted
RoundsTo s workers t turn.Gave = IsRounded s workers t

-- what is taken once the short chains from a place of the board on are taken too
abbrev pub taken_after : Instance → List Step → ℕ → List ℕ → List ℕ
taken_after p board from taken = taking p board taken (short_chains (length p.clauses + from + 1) (drop from board))

-- all workers took the same, of what is below a place of the board
pub record IsEven (s : TeamView) (from : ℕ) : Type 0 where
  pub taken : List ℕ
  pub is : s ≡ even s.problem (length s.workers) taken s.board
  pub low : All (λ n. n ≤ length s.problem.clauses + from) taken

-- how a play of rounds ends
abbrev pub EndsBy : Instance → ℕ → ℕ → List Step → Turn → Type 0
EndsBy p workers rounds board (turn.Model values) = IsModelOfTurn p workers rounds values board
EndsBy p workers rounds board turn.Refuted = IsRefutationOfTurn p workers rounds board
EndsBy p workers rounds board turn.Gave = IsTrue (are_justified p board) × Rounds p board workers rounds × (0 < rounds → 0 < workers → 1000 < 3 ^ p.vars)
