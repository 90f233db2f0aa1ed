-- The best bound over all assignments that satisfy a problem.
use Rattle.std.specs.Prelude.{ℕ, Bool, ℤ, ◌<ℤ◌}
use Rattle.mono_problem.specs.declared.atom.Predicate.{Predicate}
use Rattle.mono_problem.specs.declared.atom.Predicate.TheVariants as kind
use Rattle.mono_problem.specs.Instance.{Instance}
use Rattle.mono_problem.specs.Holds.{Satisfies}
use Rattle.mono_best.specs.Asking.{predicate_of}
use Rattle.mono_best.specs.Bounds.{IsBoundOf}
use Rattle.mono_best.specs.Met.{Meets}

-- the bound c asks for more than b
abbrev pub IsBetter : Predicate → ℤ → ℤ → Type 0
IsBetter (kind.Reach u v) c b = ⊥
IsBetter (kind.Steps u v most) c b = c <ℤ b
IsBetter (kind.Distance u v most) c b = c <ℤ b
IsBetter (kind.Flow s t least) c b = b <ℤ c
IsBetter (kind.Tree most) c b = c <ℤ b
IsBetter kind.Acyclic c b = ⊥

-- some satisfying assignment meets the bound, and none meets a better one
pub record IsOptimum (p : Instance) (n : ℕ) (b : ℤ) : Type 0 where
  pub met : (a : ℕ → Bool) × Satisfies p a × Meets p n a b
  pub best : (a : ℕ → Bool) (c : ℤ) → Satisfies p a → IsBetter (predicate_of p n) c b → ¬ Meets p n a c

-- no satisfying assignment meets any bound
abbrev pub IsNeverMet : Instance → ℕ → Type 0
IsNeverMet p n = (a : ℕ → Bool) (c : ℤ) → Satisfies p a → IsBoundOf (predicate_of p n) c → ¬ Meets p n a c
