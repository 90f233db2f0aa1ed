-- Bounds of predicates: which there are, which is the weakest, and which asks for more.
use Rattle.std.specs.Prelude.{ℕ, Bool, true, false, ℤ, pos, ◌+ℤ◌, ◌-ℤ◌, if◌then◌else◌}
use Rattle.mono_base.specs.declared.limits.TheConstants.{MAX_BOUND}
use Rattle.mono_problem.specs.declared.atom.Predicate.{Predicate}
use Rattle.mono_problem.specs.declared.atom.Predicate.TheVariants as kind
use Rattle.mono_problem.specs.WellFormed.{IsMost, IsLeast}

-- the predicate has a bound
abbrev pub has_bound : Predicate → Bool
has_bound (kind.Reach u v) = false
has_bound kind.Acyclic = false
has_bound q = true

-- its bound is one that a value has to reach. Each other bound is one that a value must not pass
abbrev pub is_flow : Predicate → Bool
is_flow (kind.Flow s t least) = true
is_flow q = false

-- the predicate with another bound
abbrev pub with_bound : Predicate → ℤ → Predicate
with_bound (kind.Reach u v) b = kind.Reach u v
with_bound (kind.Steps u v most) b = kind.Steps u v b
with_bound (kind.Distance u v most) b = kind.Distance u v b
with_bound (kind.Flow s t least) b = kind.Flow s t b
with_bound (kind.Tree most) b = kind.Tree b
with_bound kind.Acyclic b = kind.Acyclic

-- the predicate may be asked with this bound
abbrev pub IsBoundOf : Predicate → ℤ → Type 0
IsBoundOf (kind.Reach u v) b = ⊥
IsBoundOf (kind.Steps u v most) b = IsMost b
IsBoundOf (kind.Distance u v most) b = IsMost b
IsBoundOf (kind.Flow s t least) b = IsLeast b
IsBoundOf (kind.Tree most) b = IsMost b
IsBoundOf kind.Acyclic b = ⊥

-- the weakest bound
abbrev pub weakest : Predicate → ℤ
weakest q = if is_flow q then pos 0 else pos MAX_BOUND

-- the bound that asks for one more
abbrev pub beyond : Predicate → ℤ → ℤ
beyond q b = if is_flow q then b +ℤ pos 1 else b -ℤ pos 1

-- the bound that comes so many after the weakest
abbrev pub bound_at : Predicate → ℕ → ℤ
bound_at q k = if is_flow q then pos k else pos MAX_BOUND -ℤ pos k
