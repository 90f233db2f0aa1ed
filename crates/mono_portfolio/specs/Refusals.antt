-- When a team refuses an event, and how.
use Rattle.std.specs.Prelude.{ℕ, Bool, not, ◌==◌, nat_le, if◌then◌else◌, List, [], ◌∷◌, ◌++◌, length, Option, Some, None}
use Rattle.std.specs.List.{list_any}
use Rattle.mono_portfolio.specs.declared.event.Event.{Event}
use Rattle.mono_portfolio.specs.declared.event.Event.TheVariants as event
use Rattle.mono_portfolio.specs.declared.event.Reply.{Reply}
use Rattle.mono_portfolio.specs.declared.event.Reply.TheVariants as reply
use Rattle.mono_portfolio.specs.Extended.{extended, has_chain, passes_limits}
use Rattle.mono_portfolio.specs.TeamView.{TeamView, worker_at}

-- the first of these replies whose test is true
abbrev pub first_reply : List (Bool × Reply) → Option Reply
first_reply [] = None
first_reply (x ∷ xs) = if x.0 then Some x.1 else first_reply xs

abbrev pub lacks_worker : TeamView → ℕ → Bool
lacks_worker s w = nat_le (length s.workers) w

-- the worker took the step
abbrev pub has_taken : TeamView → ℕ → ℕ → Bool
has_taken s w n = list_any (λ m. n == m) (worker_at s w).taken

-- with one more taken step its problem would pass the limits of an input
abbrev pub is_full : TeamView → ℕ → ℕ → Bool
is_full s w n = passes_limits (extended s.problem s.board ((worker_at s w).taken ++ n ∷ []))

abbrev pub refusal : TeamView → Event → Option Reply
refusal s (event.Run w slice) = first_reply ((lacks_worker s w, reply.NoWorker) ∷ (slice == 0, reply.ZeroSlice) ∷ [])
refusal s (event.Give w) = first_reply ((lacks_worker s w, reply.NoWorker) ∷ (length (worker_at s w).made == 0, reply.NothingMade) ∷ [])
refusal s (event.Take w n) =
    first_reply (
    (lacks_worker s w, reply.NoWorker)
    ∷ (not (has_chain s.problem s.board n), reply.NoStep)
    ∷ (has_taken s w n, reply.AlreadyTaken)
    ∷ (is_full s w n, reply.Full) ∷ []
    )
