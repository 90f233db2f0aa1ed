-- What holds of every play, whatever its events are.
use Rattle.std.specs.Prelude.{◌≡◌, ℕ, ◌+◌, Bool, true, false, ◌==◌, if◌then◌else◌, List, [], ◌∷◌, sum_by, take, Some, slice_get, IsTrue, All}
use Rattle.std.specs.List.{list_any}
use Rattle.mono_problem.specs.Instance.{Instance}
use Rattle.mono_steps.specs.declared.step.Step.{Step}
use Rattle.mono_steps.specs.Steps.{are_justified, is_refutation}
use Rattle.mono_portfolio.specs.declared.event.Event.{Event}
use Rattle.mono_portfolio.specs.declared.event.Event.TheVariants as event
use Rattle.mono_portfolio.specs.declared.event.Reply.{Reply}
use Rattle.mono_portfolio.specs.declared.event.Reply.TheVariants as reply
use Rattle.mono_portfolio.specs.TeamView.{TeamView, start}
use Rattle.mono_search.specs.Outcomes.{HasModel}
use Rattle.mono_portfolio.specs.Plays.{Plays}

-- the worker of an event
abbrev pub worker_of : Event → ℕ
worker_of (event.Run w slice) = w
worker_of (event.Give w) = w
worker_of (event.Take w n) = w

abbrev pub is_model : Reply → Bool
is_model (reply.Model m) = true
is_model r = false

abbrev pub is_unsat : Reply → Bool
is_unsat reply.Unsat = true
is_unsat r = false

-- a model that is replied satisfies the problem
abbrev pub IsTrueModel : Instance → Reply → Type 0
IsTrueModel p (reply.Model m) = HasModel p m
IsTrueModel p r = Unit {0}

-- how many steps joined the board with these replies
abbrev pub given_by : Reply → ℕ
given_by (reply.Given n) = n
given_by r = 0

abbrev pub given : List Reply → ℕ
given rs = sum_by given_by rs

-- the last event of the worker was answered with Unsat; `before` says it of what came before these events
abbrev pub refuted_last : ℕ → Bool → List Event → List Reply → Bool
refuted_last w before [] rs = before
refuted_last w before (e ∷ es) [] = before
refuted_last w before (e ∷ es) (r ∷ rs) = refuted_last w (if worker_of e == w then is_unsat r else before) es rs

-- the board, with what was replied to which events
pub record IsSoundPlay (p : Instance) (events : List Event) (replies : List Reply) (board : List Step) : Type 0 where
  pub justified : IsTrue (are_justified p board)
  pub models : All (IsTrueModel p) replies
  -- where a worker's Give comes next after its Unsat, the board is a refutation then: the first steps of the last one
  pub refutes : (k w : ℕ) → slice_get events k ≡ Some (event.Give w) → IsTrue (refuted_last w false (take k events) (take k replies))
      → IsTrue (is_refutation p (take (given (take (k + 1) replies)) board))
  pub one_answer : IsTrue (list_any is_model replies) → list_any is_unsat replies ≡ false

-- a play of so many workers from nothing may give these replies and leave this board
pub record IsPlay (p : Instance) (workers : ℕ) (events : List Event) (replies : List Reply) (board : List Step) : Type 0 where
  pub last : TeamView
  pub plays : Plays (start p workers) events replies last
  pub is : board ≡ last.board
