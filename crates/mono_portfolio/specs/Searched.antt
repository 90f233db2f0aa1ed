-- What a worker's search comes to.
use Rattle.std.specs.Prelude.{◌≡◌, ℕ, Bool, [], List}
use Rattle.mono_problem.specs.Instance.{Instance}
use Rattle.mono_steps.specs.Trimmed.{IsTrimRefutation}
use Rattle.mono_steps.specs.declared.step.Step.{Step}
use Rattle.mono_search.specs.Outcomes.{HasModel}
use Rattle.mono_steps.specs.New.{IsProgress}
use Rattle.mono_portfolio.specs.declared.event.Reply.{Reply}
use Rattle.mono_portfolio.specs.declared.event.Reply.TheVariants as reply

-- what a worker of the problem p tells, and what it made, after a search over the problem q
abbrev pub Tells : Instance → Instance → ℕ → Reply → List Step → Type 0
Tells p q slice (reply.Model model) made = HasModel p model × (made ≡ [])
Tells p q slice reply.Unsat made = IsTrimRefutation q made
Tells p q slice reply.Slice made = IsProgress q slice made
Tells p q slice r made = ⊥

-- each model of q is one of p
abbrev pub HasModelsOf : Instance → Instance → Type 0
HasModelsOf p q = (model : List Bool) → HasModel q model → HasModel p model
