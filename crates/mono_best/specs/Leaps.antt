-- What a leap finds, and between which bounds it goes on. Bounds are told by their numbers.
use Rattle.std.specs.Prelude.{ℕ, ◌+◌, ◌≤◌, IfSome}
use Rattle.mono_base.specs.declared.limits.TheConstants.{MAX_BOUND}
use Rattle.mono_problem.specs.Instance.{Instance}
use Rattle.mono_search.specs.Outcomes.{HasModel}
use Rattle.mono_best.specs.Asking.{asking, predicate_of}
use Rattle.mono_best.specs.Bounds.{bound_at}
use Rattle.mono_best.specs.declared.gap.Found.{Found}
use Rattle.mono_best.specs.declared.gap.Gap.{Gap}

-- a model that meets the bound of its number, which is k or a later one
abbrev pub IsFound : Instance → ℕ → ℕ → Found → Type 0
IsFound p n k f = (k ≤ f.number) × (f.number ≤ MAX_BOUND + 1) × HasModel (asking p n (bound_at (predicate_of p n) f.number)) f.model

-- the last model meets a bound from k on, and each bound that is asked for is one of these
pub record IsGap (p : Instance) (n k : ℕ) (g : Gap) : Type 0 where
  pub found : IfSome g.found (IsFound p n k)
  pub from : k ≤ g.low
  pub to : g.high ≤ MAX_BOUND + 2
