-- Which atoms share a theory.
use Rattle.std.specs.Prelude.{◌≡◌, ℕ, ◌<◌, ◌==◌, Bool, ◌&&◌, List, length, All}
use Rattle.mono_problem.specs.declared.atom.Atom.{Atom}
use Rattle.mono_problem.specs.declared.atom.Predicate.{Predicate}
use Rattle.mono_problem.specs.declared.atom.Predicate.TheVariants as kind
use Rattle.mono_problem.specs.Instance.{Instance}
use Rattle.mono_theory.specs.Theories.{Facts, owns_of}

-- the kinds of predicates, numbered. Bounds on the edges of a walk and on its weight are one kind
abbrev pub kind_index : Predicate → ℕ
kind_index (kind.Reach u v) = 0
kind_index (kind.Steps u v most) = 1
kind_index (kind.Distance u v most) = 1
kind_index (kind.Flow s t least) = 2
kind_index (kind.Tree most) = 3
kind_index kind.Acyclic = 4

-- how many kinds there are
abbrev pub kind_count : ℕ
kind_count = 5

-- two atoms are over one graph, and their predicates are of one kind
abbrev pub are_alike : Atom → Atom → Bool
are_alike x y = x.graph == y.graph && kind_index x.predicate == kind_index y.predicate

-- each theory has an atom, and with an atom of its own it owns those of the problem that are alike, and no others
pub record AreByGraphAndKind (p : Instance) (fs : List Facts) : Type 0 where
  pub none_empty : All (λ f. 0 < length f.atoms) fs
  pub shared : All (λ f. All (λ x. All (λ y. owns_of f.atoms y.number ≡ are_alike x y) p.atoms) f.atoms) fs
