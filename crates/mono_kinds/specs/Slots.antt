-- Atoms by graph and kind, and the theories that these make one after the other.
use Rattle.std.specs.Prelude.{◌≡◌, ℕ, ◌+◌, ◌*◌, ◌/◌, ◌<◌, ◌≤◌, ◌==◌, nat_lt, if◌then◌else◌, List, [], length, map, filter, slice_index_or, count_by, Some, All}
use Rattle.std.specs.List.{range_with_len}
use Rattle.mono_problem.specs.declared.atom.Atom.{Atom}
use Rattle.mono_problem.specs.Instance.{Instance, graph_at, numbered}
use Rattle.mono_problem.specs.Read.{atom_numbered}
use Rattle.mono_theory.specs.Theories.{Facts, owns_of}
use Rattle.mono_kinds.specs.Sharing.{AreByGraphAndKind, kind_count, kind_index}

-- the slot of an atom: each graph has one for each kind
abbrev pub slot_of : Atom → ℕ
slot_of x = kind_count * x.graph + kind_index x.predicate

abbrev pub slot_count : Instance → ℕ
slot_count p = kind_count * length p.graphs

-- of the first m atoms, the numbers of those in the slot
abbrev pub numbers_in : Instance → ℕ → ℕ → List ℕ
numbers_in p m j = filter (λ n. slot_of (atom_numbered p n) == j) (range_with_len 1 m)

-- each slot has the numbers of its atoms, of the first m
pub record AreSlots (p : Instance) (m : ℕ) (lists : List (List ℕ)) : Type 0 where
  pub len : length lists ≡ slot_count p
  pub each : (j : ℕ) → j < slot_count p → slice_index_or lists j [] ≡ numbers_in p m j

-- the theory of a slot, which has seen nothing
abbrev pub made_of : Instance → ℕ → List ℕ → Facts
made_of p j ns = record { graph = graph_at p (j / kind_count); atoms = map (atom_numbered p) ns; seen = [] }

-- the theories of the first j slots: each atom there is one theory's
pub record AreMade (p : Instance) (j : ℕ) (fs : List Facts) : Type 0 where
  pub once : (n : ℕ) → 0 < n → n ≤ length p.atoms
      → count_by (λ f. owns_of f.atoms n) fs ≡ (if nat_lt (slot_of (atom_numbered p n)) j then 1 else 0)
  pub exact : All (λ f. All (λ x. numbered p.atoms x.number ≡ Some x) f.atoms) fs
  pub graphs : All (λ f. All (λ x. f.graph ≡ graph_at p x.graph) f.atoms) fs
  pub grouped : AreByGraphAndKind p fs
  pub unseen : All (λ f. f.seen ≡ []) fs
