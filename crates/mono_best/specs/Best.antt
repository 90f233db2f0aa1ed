-- The best bound of an atom.
use Rattle.std.specs.Prelude.{◌≡◌, ℕ, ◌+◌, ◌<◌, ◌≤◌, ◌-◌, ◌⊎◌, ℤ, pos, ◌≤ℤ◌, Bool, List, Option, Some, None, IsTrue}
use Rattle.mono_base.specs.declared.limits.TheConstants.{MAX_BOUND}
use Rattle.mono_problem.specs.Instance.{Instance}
use Rattle.mono_steps.specs.declared.step.Step.{Step}
use Rattle.mono_search.specs.Outcomes.{HasModel}
use Rattle.mono_steps.specs.Trimmed.{IsTrimRefutation}
use Rattle.mono_steps.specs.New.{IsProgress}
use Rattle.mono_best.specs.Asking.{asking, predicate_of}
use Rattle.mono_best.specs.Bounds.{is_flow, weakest, beyond, bound_at, IsBoundOf}
use Rattle.mono_best.specs.declared.outcome.BestOutcome.{BestOutcome}
use Rattle.mono_best.specs.declared.outcome.BestOutcome.TheVariants as outcome
use Rattle.mono_best.specs.declared.questions.Reply.{Reply}
use Rattle.mono_best.specs.declared.questions.Reply.TheVariants as reply

-- ---- what is found

-- a model with this bound, and a refutation with the one that asks for one more
pub record IsBest (p : Instance) (n : ℕ) (b : ℤ) (model : List Bool) (steps : List Step) : Type 0 where
  pub low : pos 0 ≤ℤ b
  pub high : b ≤ℤ pos MAX_BOUND
  pub met : HasModel (asking p n b) model
  pub refutes : IsTrimRefutation (asking p n (beyond (predicate_of p n) b)) steps

-- a model in which the flow has a value beyond every bound that a file can write
pub record IsBeyond (p : Instance) (n : ℕ) (model : List Bool) : Type 0 where
  pub flow : IsTrue (is_flow (predicate_of p n))
  pub met : HasModel (asking p n (pos (MAX_BOUND + 1))) model

-- a model meets the bound, and this one asks for one more
pub record IsNextAfterMet (p : Instance) (n : ℕ) (b : ℤ) : Type 0 where
  pub met_bound : ℤ
  pub model : List Bool
  pub met : HasModel (asking p n met_bound) model
  pub next : b ≡ beyond (predicate_of p n) met_bound

-- the budget was spent on the problem that asks for this bound: the weakest, or the next after one that a model meets
pub record IsOpen (p : Instance) (n budget : ℕ) (b : ℤ) (steps : List Step) : Type 0 where
  pub bound : IsBoundOf (predicate_of p n) b
  pub first_or_next : (b ≡ weakest (predicate_of p n)) ⊎ IsNextAfterMet p n b
  pub progress : IsProgress (asking p n b) budget steps

abbrev pub IsBestOutcome : Instance → ℕ → ℕ → BestOutcome → Type 0
IsBestOutcome p n budget (outcome.Best b model steps) = IsBest p n b model steps
IsBestOutcome p n budget (outcome.Never steps) = IsTrimRefutation (asking p n (weakest (predicate_of p n))) steps
IsBestOutcome p n budget (outcome.Beyond model) = IsBeyond p n model
IsBestOutcome p n budget (outcome.Unknown b steps) = IsOpen p n budget b steps

-- ---- on the way. Bounds are told by their numbers: that of the weakest is 0

-- a model of the problem that asks for the bound before the one of this number, if there is one before it
abbrev pub IsMetBefore : Instance → ℕ → ℕ → Option (List Bool) → Type 0
IsMetBefore p n k None = k ≡ 0
IsMetBefore p n k (Some model) = (0 < k) × (k ≤ MAX_BOUND + 1) × HasModel (asking p n (bound_at (predicate_of p n) (k - 1))) model

-- a model that meets the bound of this number and that of a number from it on, or what a search came to that found none
abbrev pub IsReply : Instance → ℕ → ℕ → ℕ → Reply → Type 0
IsReply p n budget k (reply.Met model number) = (k ≤ number) × (number ≤ MAX_BOUND + 1) × HasModel (asking p n (bound_at (predicate_of p n) number)) model
IsReply p n budget k (reply.Refuted steps) = IsTrimRefutation (asking p n (bound_at (predicate_of p n) k)) steps
IsReply p n budget k (reply.Spent steps) = IsProgress (asking p n (bound_at (predicate_of p n) k)) budget steps
