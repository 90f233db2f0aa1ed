-- What a team may answer to each event, and the state that the event leaves.
use Rattle.std.specs.Prelude.{◌≡◌, ℕ, List, [], ◌∷◌, ◌++◌, length, MatchOption}
use Rattle.mono_problem.specs.Instance.{Instance}
use Rattle.mono_steps.specs.declared.step.Step.{Step}
use Rattle.mono_steps.specs.Trimmed.{IsTrimRefutation}
use Rattle.mono_search.specs.Outcomes.{HasModel}
use Rattle.mono_portfolio.specs.declared.event.Event.{Event}
use Rattle.mono_portfolio.specs.declared.event.Event.TheVariants as event
use Rattle.mono_portfolio.specs.declared.event.Reply.{Reply}
use Rattle.mono_portfolio.specs.declared.event.Reply.TheVariants as reply
use Rattle.mono_steps.specs.New.{IsProgress}
use Rattle.mono_portfolio.specs.Refusals.{refusal}
use Rattle.mono_portfolio.specs.TeamView.{TeamView, worker_at, over, with_worker, with_made, after_give}

-- the worker made steps with the property over its problem, and nothing else changed
pub record Makes (s : TeamView) (w : ℕ) (P : Instance → List Step → Type 0) (t : TeamView) : Type 0 where
  pub made : List Step
  pub are : P (over s w) made
  pub after : t ≡ with_made s w made

-- the event isn't refused: its reply, and the state after it
abbrev pub Served : TeamView → Event → Reply → TeamView → Type 0
Served s (event.Run w slice) (reply.Model model) t = HasModel s.problem model × (t ≡ with_made s w [])
Served s (event.Run w slice) reply.Unsat t = Makes s w (λ p steps. IsTrimRefutation p steps) t
Served s (event.Run w slice) reply.Slice t = Makes s w (λ p steps. IsProgress p slice steps) t
Served s (event.Give w) (reply.Given n) t = (n ≡ length (worker_at s w).made) × (t ≡ after_give s w)
Served s (event.Take w n) reply.Taken t = t ≡ with_worker s w (record { taken = (worker_at s w).taken ++ n ∷ []; made = [] })
Served s e r t = ⊥

-- from s the team may answer the event so, and go on as t. A refusal changes nothing
abbrev pub Answers : TeamView → Event → Reply → TeamView → Type 0
Answers s e r t = MatchOption (refusal s e) (Served s e r t) (λ refused. (r ≡ refused) × (t ≡ s))

-- the team may answer these events so, one after another
abbrev pub Plays : TeamView → List Event → List Reply → TeamView → Type 0
Plays s [] [] t = t ≡ s
Plays s (e ∷ es) (r ∷ rs) t = (m : TeamView) × Answers s e r m × Plays m es rs t
Plays s [] (r ∷ rs) t = ⊥
Plays s (e ∷ es) [] t = ⊥
