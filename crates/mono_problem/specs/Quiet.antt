-- The bounds of a graph under a partial assignment, and what an atom forces there (Bayless et al. 2015).
use Rattle.std.specs.Prelude.{◌≡◌, Bool, false, not, ◌⊎◌, ℤ, pos, neg_ℤ, List, IsTrue, All, if◌then◌else◌}
use Rattle.mono_base.specs.Partial.{is_true_in, is_false_in}
use Rattle.mono_graph.specs.Digraph.{Digraph, part_by}
use Rattle.mono_problem.specs.declared.atom.Atom.{Atom}
use Rattle.mono_problem.specs.declared.atom.Predicate.{Predicate}
use Rattle.mono_problem.specs.Holds.{Holds, falls}

-- the edges that are surely present, since their variable is true, and those that are possibly present, since it isn't false
abbrev pub under : Digraph → List ℤ → List Bool
under g t = part_by (λ e. is_true_in t (pos e.var)) g

abbrev pub over : Digraph → List ℤ → List Bool
over g t = part_by (λ e. not (is_false_in t (pos e.var))) g

-- The edges with which a predicate holds whatever comes, if it holds with them: those that are surely present, or for one
-- that falls those that are possibly present. And those with which it fails whatever comes, if it fails with them.
abbrev pub part_to_hold : Predicate → Digraph → List ℤ → List Bool
part_to_hold q g t = if falls q then over g t else under g t

abbrev pub part_to_fail : Predicate → Digraph → List ℤ → List Bool
part_to_fail q g t = if falls q then under g t else over g t

-- the atom forces the literal: its variable, where the predicate holds whatever comes, or its negation, where it fails whatever comes
abbrev pub Forces : Digraph → Atom → List ℤ → ℤ → Type 0
Forces g x t l =
    ((l ≡ pos x.var) × Holds g (part_to_hold x.predicate g t) x.predicate)
    ⊎ ((l ≡ neg_ℤ (pos x.var)) × ¬ Holds g (part_to_fail x.predicate g t) x.predicate)

-- each literal that the atom forces is true in the list
abbrev pub HasForcedTrue : Digraph → List ℤ → Atom → Type 0
HasForcedTrue g t x = (l : ℤ) → Forces g x t l → IsTrue (is_true_in t l)

-- the atom forces nothing that the list doesn't say: its variable is true in the list where its predicate holds whatever comes, and
-- where its variable isn't false its predicate holds with the edges with which it would fail whatever comes
abbrev pub IsQuietAtom : Digraph → List ℤ → Atom → Type 0
IsQuietAtom g t x =
    (Holds g (part_to_hold x.predicate g t) x.predicate → IsTrue (is_true_in t (pos x.var)))
    × (is_false_in t (pos x.var) ≡ false → Holds g (part_to_fail x.predicate g t) x.predicate)

-- the atom forces nothing that the list doesn't say, where of its predicate with the edges with which it would fail whatever
-- comes no more is said than that it doesn't fail
abbrev pub IsNearlyQuiet : Digraph → List ℤ → Atom → Type 0
IsNearlyQuiet g t x =
    (Holds g (part_to_hold x.predicate g t) x.predicate → IsTrue (is_true_in t (pos x.var)))
    × (is_false_in t (pos x.var) ≡ false → ¬ ¬ Holds g (part_to_fail x.predicate g t) x.predicate)

-- no atom forces anything that the list doesn't say
abbrev pub TheoryQuiet : Digraph → List Atom → List ℤ → Type 0
TheoryQuiet g atoms t = All (IsQuietAtom g t) atoms
