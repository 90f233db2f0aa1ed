-- What is asked of a maker of theories, and what a search over the theories that it makes comes to.
use Rattle.std.specs.Prelude.{◌≡◌, ℕ, [], List, Result, Ok, All}
use denote.Ref.{Bor}
use Rattle.mono_problem.specs.Instance.{Instance}
use Rattle.mono_steps.specs.New.{IsProgress}
use Rattle.mono_steps.specs.Trimmed.{IsTrimRefutation}
use Rattle.mono_theory.specs.Owners.{OwnsEach}
use Rattle.mono_theory.specs.Theories.{Facts}
use Rattle.mono_search.specs.Outcomes.{HasModel}
use Rattle.mono_search.specs.declared.solving.Solved.{Solved}
use Rattle.mono_search.specs.declared.solving.Solved.TheVariants as solved

-- a search of the problem may begin with these theories: they own each atom exactly once, and have seen nothing
pub record AreTheoriesOf (p : Instance) (fs : List Facts) : Type 0 where
  pub owns : OwnsEach p fs
  pub unseen : All (λ f. f.seen ≡ []) fs

-- whatever the problem, a list that the maker gives is such a list; `facts` tells the theories of a list
abbrev pub MakesTheories : {V E : Type 0} → (Bor Instance → Result V E → Type 0) → (V → List Facts) → Type 0
MakesTheories {V} {E} gives facts = (p : Bor Instance) (ts : V) → gives p (Ok ts) → AreTheoriesOf p.now (facts ts)

abbrev pub IsSolved : Instance → ℕ → Solved → Type 0
IsSolved p budget (solved.Model values) = HasModel p values
IsSolved p budget (solved.Refutation steps) = IsTrimRefutation p steps
IsSolved p budget (solved.Progress steps) = IsProgress p budget steps
