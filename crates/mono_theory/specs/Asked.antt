-- Predicates that ask for a walk: from where, where to, and within which limit. Also from where such walks are searched.
use Rattle.std.specs.Prelude.{◌≡◌, ℕ, ◌<◌, Bool, true, false, pos, int_lt, List, length, slice_index_or, IsTrue}
use Rattle.mono_graph.specs.declared.limit.Limit.{Limit}
use Rattle.mono_graph.specs.declared.limit.Limit.TheVariants as limit
use Rattle.mono_graph.specs.Walks.{bound_of}
use Rattle.mono_dynamic.specs.declared.cost_source.CostSource.{CostSource}
use Rattle.mono_dynamic.specs.declared.walk_target.WalkTarget.{WalkTarget}
use Rattle.mono_dynamic.specs.LeastRows.{measure_of}
use Rattle.mono_problem.specs.declared.atom.Atom.{Atom}
use Rattle.mono_problem.specs.declared.atom.Predicate.{Predicate}
use Rattle.mono_problem.specs.declared.atom.Predicate.TheVariants as kind
use Rattle.mono_theory.specs.Supports.{atom_at}

abbrev pub asks_walk : Predicate → Bool
asks_walk (kind.Reach u v) = true
asks_walk (kind.Steps u v most) = true
asks_walk (kind.Distance u v most) = true
asks_walk q = false

-- the nodes between which the walk is to lead, and its limit
abbrev pub first_node : Predicate → ℕ
first_node (kind.Reach u v) = u
first_node (kind.Steps u v most) = u
first_node (kind.Distance u v most) = u
first_node q = 0

abbrev pub last_node : Predicate → ℕ
last_node (kind.Reach u v) = v
last_node (kind.Steps u v most) = v
last_node (kind.Distance u v most) = v
last_node q = 0

abbrev pub limit_of : Predicate → Limit
limit_of (kind.Steps u v most) = limit.Steps most
limit_of (kind.Distance u v most) = limit.Weight most
limit_of q = limit.Free

-- the predicate that asks for a walk within the limit
abbrev pub predicate_of : ℕ → ℕ → Limit → Predicate
predicate_of u v limit.Free = kind.Reach u v
predicate_of u v (limit.Steps most) = kind.Steps u v most
predicate_of u v (limit.Weight most) = kind.Distance u v most

-- where its walk is to lead
abbrev pub target_of : Predicate → WalkTarget
target_of q = record { node = last_node q; limit = limit_of q }

-- of the first n atoms, what is such of their predicates
pub record AreOfAtoms {X : Type 0} (Is : Predicate → X → Type 0) (atoms : List Atom) (n : ℕ) (xs : List X) : Type 0 where
  pub len : length xs ≡ n
  pub each : (a : ℕ) (d : X) → a < n → Is (atom_at atoms a).predicate (slice_index_or xs a d)

-- the predicate asks for a walk, and it is to lead there
pub record HasTarget (q : Predicate) (t : WalkTarget) : Type 0 where
  pub asks : IsTrue (asks_walk q)
  pub is : t ≡ target_of q

-- ---- from where walks are searched

abbrev pub no_source : CostSource
no_source = record { node = 0; limit = limit.Free; cap = 0 }

abbrev pub source_at : List CostSource → ℕ → CostSource
source_at ss r = slice_index_or ss r no_source

-- from there the predicate's walk leads, and is measured up to beyond its bound
pub record IsSourceFor (q : Predicate) (s : CostSource) : Type 0 where
  pub node : s.node ≡ first_node q
  pub alike : measure_of s.limit ≡ measure_of (limit_of q)
  pub beyond : int_lt (bound_of (limit_of q)) (pos s.cap) ≡ true

-- each of the first n atoms has a row that serves its predicate
pub record HaveRows (atoms : List Atom) (n : ℕ) (row_of : List ℕ) (sources : List CostSource) : Type 0 where
  pub len : length row_of ≡ n
  pub each : (a : ℕ) → a < n → (slice_index_or row_of a 0 < length sources)
      × IsSourceFor (atom_at atoms a).predicate (source_at sources (slice_index_or row_of a 0))
