-- Problems that ask for a bound.
use Rattle.std.specs.Prelude.{ℕ, ◌+◌, ◌<◌, ◌≤◌, ℤ, pos, [], ◌∷◌, ◌++◌, length, IsTrue}
use Rattle.mono_base.specs.declared.limits.TheConstants.{MAX_VARS, MAX_ATOMS, MAX_CLAUSES, MAX_LITERALS}
use Rattle.mono_problem.specs.declared.atom.Atom.{Atom}
use Rattle.mono_problem.specs.declared.atom.Predicate.{Predicate}
use Rattle.mono_problem.specs.Instance.{Instance, literals_total}
use Rattle.mono_problem.specs.Read.{atom_numbered}
use Rattle.mono_best.specs.Bounds.{has_bound, with_bound}

-- what the variable of an atom stands for
abbrev pub predicate_of : Instance → ℕ → Predicate
predicate_of p n = (atom_numbered p n).predicate

-- the atom of this number once more, with this bound and a new variable
abbrev pub asked_atom : Instance → ℕ → ℤ → Atom
asked_atom p n b = record { number = length p.atoms + 1; graph = (atom_numbered p n).graph; var = p.vars + 1; predicate = with_bound (predicate_of p n) b }

-- the problem with that atom, and with one more clause: its variable is true
abbrev pub asking : Instance → ℕ → ℤ → Instance
asking p n b = record p { vars = p.vars + 1; atoms = p.atoms ++ asked_atom p n b ∷ []; clauses = p.clauses ++ (pos (p.vars + 1) ∷ []) ∷ [] }

-- the problem has an atom of this number, with a bound
pub record HasBoundedAtom (p : Instance) (n : ℕ) : Type 0 where
  pub low : 0 < n
  pub high : n ≤ length p.atoms
  pub bounded : IsTrue (has_bound (predicate_of p n))

-- there is room for one more variable, atom and clause of one literal
pub record HasRoomToAsk (p : Instance) : Type 0 where
  pub vars : p.vars < MAX_VARS
  pub atoms : length p.atoms < MAX_ATOMS
  pub clauses : length p.clauses < MAX_CLAUSES
  pub literals : literals_total p < MAX_LITERALS
