-- What a problem's calls hand out.
use Rattle.std.specs.Prelude.{ℕ, ◌-◌, ℤ, pos, List, [], slice_index_or}
use Rattle.mono_problem.specs.declared.atom.Atom.{Atom}
use Rattle.mono_problem.specs.declared.atom.Predicate.TheVariants as kind
use Rattle.mono_problem.specs.Instance.{Instance}

-- what stands at a number that no atom has
abbrev pub no_atom : Atom
no_atom = record { number = 0; graph = 0; var = 0; predicate = kind.Tree (pos 0) }

-- the atom and the clause of a number that is held, from 1
abbrev pub atom_numbered : Instance → ℕ → Atom
atom_numbered p n = slice_index_or p.atoms (n - 1) no_atom

abbrev pub clause_numbered : Instance → ℕ → List ℤ
clause_numbered p n = slice_index_or p.clauses (n - 1) []
