-- What the calls of a team come to.
use Rattle.std.proofs.Common.{◌≡◌, ℕ, ◌<◌, false, List, [], ◌∷◌, length, Option, Some, None, refl, sym, ap, subst, ◌∙◌}
use Rattle.std.specs.Prelude.{MatchOption, ◌==◌}
use Rattle.std.proofs.lemmas.Bool.{cond-false, lt-leb}
use Rattle.mono_steps.specs.declared.step.Step.{Step}
use Rattle.mono_portfolio.specs.declared.event.Event.{Event}
use Rattle.mono_portfolio.specs.declared.event.Event.TheVariants as event
use Rattle.mono_portfolio.specs.declared.event.Reply.{Reply}
use Rattle.mono_portfolio.specs.declared.event.Reply.TheVariants as reply
use Rattle.mono_portfolio.specs.TeamView.{TeamView, worker_at, over, with_made}
use Rattle.mono_portfolio.specs.Refusals.{first_reply, lacks_worker, refusal}
use Rattle.mono_portfolio.specs.Plays.{Served, Answers}
use Rattle.mono_portfolio.specs.Searched.{Tells}

pub answers_served : (s : TeamView) (e : Event) (r : Reply) (t : TeamView) → refusal s e ≡ None → Served s e r t → Answers s e r t
answers_served s e r t n v = subst (λ (o : Option Reply). MatchOption o (Served s e r t) (λ refused. (r ≡ refused) × (t ≡ s))) (sym n) v

pub answers_refused : (s : TeamView) (e : Event) (r : Reply) → refusal s e ≡ Some r → Answers s e r s
answers_refused s e r n = subst (λ (o : Option Reply). MatchOption o (Served s e r s) (λ refused. (r ≡ refused) × (s ≡ s))) (sym n) (refl, refl)

-- ---- Give

pub may_give : (s : TeamView) (w : ℕ) → w < length s.workers → (length (worker_at s w).made == 0) ≡ false → refusal s (event.Give w) ≡ None
may_give s w lt some =
    cond-false (lacks_worker s w) (Some reply.NoWorker) (first_reply ((length (worker_at s w).made == 0, reply.NothingMade) ∷ [])) (lt-leb (length s.workers) w lt)
    ∙ cond-false (length (worker_at s w).made == 0) (Some reply.NothingMade) None some

-- ---- Run

pub may_run : (s : TeamView) (w slice : ℕ) → w < length s.workers → (slice == 0) ≡ false → refusal s (event.Run w slice) ≡ None
may_run s w slice lt some =
    cond-false (lacks_worker s w) (Some reply.NoWorker) (first_reply ((slice == 0, reply.ZeroSlice) ∷ [])) (lt-leb (length s.workers) w lt)
    ∙ cond-false (slice == 0) (Some reply.ZeroSlice) None some

pub run_served : (s : TeamView) (w slice : ℕ) (r : Reply) (made : List Step) → Tells s.problem (over s w) slice r made → Served s (event.Run w slice) r (with_made s w made)
run_served s w slice (reply.Model m) made h = (h.0, ap (λ (ss : List Step). with_made s w ss) h.1)
run_served s w slice reply.Unsat made h = record { made = made; are = h; after = refl }
run_served s w slice reply.Slice made h = record { made = made; are = h; after = refl }
run_served s w slice (reply.Given n) made h = absurd h
run_served s w slice reply.Taken made h = absurd h
run_served s w slice reply.NoWorker made h = absurd h
run_served s w slice reply.ZeroSlice made h = absurd h
run_served s w slice reply.NothingMade made h = absurd h
run_served s w slice reply.NoStep made h = absurd h
run_served s w slice reply.AlreadyTaken made h = absurd h
run_served s w slice reply.Full made h = absurd h
