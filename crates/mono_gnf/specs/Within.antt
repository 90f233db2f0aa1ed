-- Statements whose numbers are within their limits.
use Rattle.std.specs.Prelude.{◌≤◌}
use Rattle.mono_base.specs.declared.limits.TheConstants.{MAX_VARS, MAX_NODES, MAX_WEIGHT}
use Rattle.mono_problem.specs.declared.atom.Predicate.{Predicate}
use Rattle.mono_problem.specs.declared.atom.Predicate.TheVariants as kind
use Rattle.mono_problem.specs.WellFormed.{IsMost, IsLeast}
use Rattle.mono_gnf.specs.Statements.{MAX_WIDE}
use Rattle.mono_gnf.specs.declared.statement.Statement.{Statement}
use Rattle.mono_gnf.specs.declared.statement.Statement.TheVariants as says

abbrev pub IsBounded : Predicate → Type 0
IsBounded (kind.Reach u v) = Unit {0}
IsBounded (kind.Steps u v most) = IsMost most
IsBounded (kind.Distance u v most) = IsMost most
IsBounded (kind.Flow s t least) = IsLeast least
IsBounded (kind.Tree most) = IsMost most
IsBounded kind.Acyclic = Unit {0}

abbrev pub IsWithin : Statement → Type 0
IsWithin (says.Header vars) = vars ≤ MAX_VARS
IsWithin (says.Graph id nodes) = (id ≤ MAX_WIDE) × (nodes ≤ MAX_NODES)
IsWithin (says.Edge id from to var weight) = (var ≤ MAX_VARS) × (weight ≤ MAX_WEIGHT)
IsWithin (says.Atom id var predicate) = (var ≤ MAX_VARS) × IsBounded predicate
