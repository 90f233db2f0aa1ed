-- Bounds by their numbers.
use Rattle.std.proofs.Common.{◌≡◌, ℕ, ◌+◌, ◌≤◌, ◌&&◌, Bool, true, false, List, refl, arith, ℤ, pos, negsuc, ◌-ℤ◌, ◌≤ℤ◌, int_le, length, to_z, of_z, w64}
use Rattle.std.specs.Prelude.{IsTrue}
use Rattle.std.specs.List.{list_all}
use Rattle.std.proofs.lemmas.Bool.{and_parts}
use Rattle.std.proofs.lemmas.Int.{ints}
use Rattle.mono_base.specs.declared.limits.TheConstants.{MAX_BOUND}
use Rattle.mono_graph.specs.Digraph.{Digraph, present, weight_of}
use Rattle.mono_graph.specs.Walks.{is_walk}
use Rattle.mono_graph.specs.Trees.{is_spanning_tree}
use Rattle.mono_problem.specs.declared.atom.Predicate.{Predicate}
use Rattle.mono_problem.specs.declared.atom.Predicate.TheVariants as kind
use Rattle.mono_problem.specs.WellFormed.{IsOver}
use Rattle.mono_problem.specs.Holds.{Holds}
use Rattle.mono_best.specs.Bounds.{has_bound, is_flow, with_bound, weakest, beyond, bound_at, IsBoundOf}

-- nothing is true that is false
pub never : {A : Type 0} → IsTrue false → A
never h = let e : false ≡ true = h in absurd cc

most_first : (m : ℕ) → (pos m -ℤ pos 0) ≡ pos m
most_first m = omega (arith, ints)

pub bound_first : (q : Predicate) → bound_at q 0 ≡ weakest q
bound_first (kind.Reach u v) = most_first MAX_BOUND
bound_first (kind.Steps u v most) = most_first MAX_BOUND
bound_first (kind.Distance u v most) = most_first MAX_BOUND
bound_first (kind.Flow s t least) = refl
bound_first (kind.Tree most) = most_first MAX_BOUND
bound_first kind.Acyclic = most_first MAX_BOUND

less : (m k : ℕ) → (pos m -ℤ pos k) -ℤ pos 1 ≡ pos m -ℤ pos (k + 1)
less m k = omega (arith, ints)

pub bound_next : (q : Predicate) (k : ℕ) → beyond q (bound_at q k) ≡ bound_at q (k + 1)
bound_next (kind.Reach u v) k = less MAX_BOUND k
bound_next (kind.Steps u v most) k = less MAX_BOUND k
bound_next (kind.Distance u v most) k = less MAX_BOUND k
bound_next (kind.Flow s t least) k = refl
bound_next (kind.Tree most) k = less MAX_BOUND k
bound_next kind.Acyclic k = less MAX_BOUND k

most_in : (m k : ℕ) → k ≤ m + 1 → (negsuc 0 ≤ℤ (pos m -ℤ pos k)) × ((pos m -ℤ pos k) ≤ℤ pos m)
most_in m k h = (omega (arith, ints, h), omega (arith, ints, h))

least_in : (m k : ℕ) → k ≤ m + 1 → (pos 0 ≤ℤ pos k) × (pos k ≤ℤ pos (m + 1))
least_in m k h = (omega (arith, ints, h), omega (arith, ints, h))

pub bound_in : (q : Predicate) (k : ℕ) → IsTrue (has_bound q) → k ≤ MAX_BOUND + 1 → IsBoundOf q (bound_at q k)
bound_in (kind.Reach u v) k has h = never has
bound_in (kind.Steps u v most) k has h = most_in MAX_BOUND k h
bound_in (kind.Distance u v most) k has h = most_in MAX_BOUND k h
bound_in (kind.Flow s t least) k has h = least_in MAX_BOUND k h
bound_in (kind.Tree most) k has h = most_in MAX_BOUND k h
bound_in kind.Acyclic k has h = never has

most_between : (m k : ℕ) → k ≤ m → (pos 0 ≤ℤ (pos m -ℤ pos k)) × ((pos m -ℤ pos k) ≤ℤ pos m)
most_between m k h = (omega (arith, ints, h), omega (arith, ints, h))

least_between : (m k : ℕ) → k ≤ m → (pos 0 ≤ℤ pos k) × (pos k ≤ℤ pos m)
least_between m k h = (omega (arith, ints, h), omega (arith, ints, h))

pub bound_between : (q : Predicate) (k : ℕ) → k ≤ MAX_BOUND → (pos 0 ≤ℤ bound_at q k) × (bound_at q k ≤ℤ pos MAX_BOUND)
bound_between (kind.Reach u v) k h = most_between MAX_BOUND k h
bound_between (kind.Steps u v most) k h = most_between MAX_BOUND k h
bound_between (kind.Distance u v most) k h = most_between MAX_BOUND k h
bound_between (kind.Flow s t least) k h = least_between MAX_BOUND k h
bound_between (kind.Tree most) k h = most_between MAX_BOUND k h
bound_between kind.Acyclic k h = most_between MAX_BOUND k h

pub over_bound : (g : Digraph) (q : Predicate) (b : ℤ) → IsOver g q → IsBoundOf q b → IsOver g (with_bound q b)
over_bound g (kind.Reach u v) b over h = over
over_bound g (kind.Steps u v most) b over h = (over.0, over.1, h)
over_bound g (kind.Distance u v most) b over h = (over.0, over.1, h)
over_bound g (kind.Flow s t least) b over h = (over.0, over.1, over.2, h)
over_bound g (kind.Tree most) b over h = h
over_bound g kind.Acyclic b over h = over

-- ---- the last number is met by flows alone

none_below : (m a : ℕ) → IsTrue (int_le (pos a) (pos m -ℤ pos (m + 1))) → ⊥
none_below m a h = let low : (pos m -ℤ pos (m + 1)) ≡ negsuc 0 = omega (arith, ints) in go a (pos m -ℤ pos (m + 1)) low h
  where
    go : (a : ℕ) (x : ℤ) → x ≡ negsuc 0 → IsTrue (int_le (pos a) x) → ⊥
    go a x e h = grind (arith, ints)

pub last_flows : (g : Digraph) (P : List Bool) (q : Predicate) → IsTrue (has_bound q) → Holds g P (with_bound q (bound_at q (MAX_BOUND + 1))) → IsTrue (is_flow q)
last_flows g P (kind.Reach u v) has h = never has
last_flows g P (kind.Steps u v most) has h = absurd (none_below MAX_BOUND (length h.0) (and_parts (is_walk g P u v h.0) (int_le (pos (length h.0)) (pos MAX_BOUND -ℤ pos (MAX_BOUND + 1))) h.1).1)
last_flows g P (kind.Distance u v most) has h = absurd (none_below MAX_BOUND (weight_of g h.0) (and_parts (is_walk g P u v h.0) (int_le (pos (weight_of g h.0)) (pos MAX_BOUND -ℤ pos (MAX_BOUND + 1))) h.1).1)
last_flows g P (kind.Flow s t least) has h = refl
last_flows g P (kind.Tree most) has h = absurd (none_below MAX_BOUND (weight_of g h.0) (and_parts (list_all (present P) h.0 && is_spanning_tree g h.0) (int_le (pos (weight_of g h.0)) (pos MAX_BOUND -ℤ pos (MAX_BOUND + 1))) h.1).1)
last_flows g P kind.Acyclic has h = never has

pub last_bound : (q : Predicate) → IsTrue (is_flow q) → bound_at q (MAX_BOUND + 1) ≡ pos (MAX_BOUND + 1)
last_bound (kind.Reach u v) h = never h
last_bound (kind.Steps u v most) h = never h
last_bound (kind.Distance u v most) h = never h
last_bound (kind.Flow s t least) h = refl
last_bound (kind.Tree most) h = never h
last_bound kind.Acyclic h = never h

-- ---- bounds as the program holds them

most_range : (m k : ℕ) → k ≤ m + 1 → (negsuc 0 ≤ℤ (pos m -ℤ pos k)) × ((pos m -ℤ pos k) ≤ℤ pos (m + 1))
most_range m k h = (omega (arith, ints, h), omega (arith, ints, h))

least_range : (m k : ℕ) → k ≤ m + 1 → (negsuc 0 ≤ℤ pos k) × (pos k ≤ℤ pos (m + 1))
least_range m k h = (omega (arith, ints, h), omega (arith, ints, h))

pub bound_range : (q : Predicate) (k : ℕ) → k ≤ MAX_BOUND + 1 → (negsuc 0 ≤ℤ bound_at q k) × (bound_at q k ≤ℤ pos (MAX_BOUND + 1))
bound_range (kind.Reach u v) k h = most_range MAX_BOUND k h
bound_range (kind.Steps u v most) k h = most_range MAX_BOUND k h
bound_range (kind.Distance u v most) k h = most_range MAX_BOUND k h
bound_range (kind.Flow s t least) k h = least_range MAX_BOUND k h
bound_range (kind.Tree most) k h = most_range MAX_BOUND k h
bound_range kind.Acyclic k h = most_range MAX_BOUND k h

pub held_bound : (z y : ℤ) → z ≡ y → negsuc 0 ≤ℤ y → y ≤ℤ pos (MAX_BOUND + 1) → to_z w64 (of_z w64 z) ≡ y
held_bound z y e low high = omega (arith, ints, e, low, high)

most_within : (m : ℕ) (b : ℤ) → negsuc 0 ≤ℤ b → b ≤ℤ pos m → (negsuc 0 ≤ℤ b) × (b ≤ℤ pos (m + 1))
most_within m b low high = (low, omega (arith, ints, high))

pub bound_within : (q : Predicate) (b : ℤ) → IsBoundOf q b → (negsuc 0 ≤ℤ b) × (b ≤ℤ pos (MAX_BOUND + 1))
bound_within (kind.Reach u v) b h = absurd h
bound_within (kind.Steps u v most) b h = most_within MAX_BOUND b h.0 h.1
bound_within (kind.Distance u v most) b h = most_within MAX_BOUND b h.0 h.1
bound_within (kind.Flow s t least) b h = (omega (arith, ints, h.0), h.1)
bound_within (kind.Tree most) b h = most_within MAX_BOUND b h.0 h.1
bound_within kind.Acyclic b h = absurd h
