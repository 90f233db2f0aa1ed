-- A small problem for the worked rows.
use Rattle.std.specs.Prelude.{ℕ, ◌+◌, pos, List, [], ◌∷◌, map}
use Rattle.mono_graph.specs.Worked.{parallel}
use Rattle.mono_problem.specs.declared.atom.Atom.{Atom}
use Rattle.mono_problem.specs.declared.atom.Predicate.{Predicate}
use Rattle.mono_problem.specs.declared.atom.Predicate.TheVariants as kind
use Rattle.mono_problem.specs.Instance.{Instance}
use Rattle.mono_problem.specs.Read.{atom_numbered}
use Rattle.mono_theory.specs.Theories.{Facts}

-- the predicate of this number, over the graph at a place
abbrev pub atom_over : ℕ → ℕ → Predicate → Atom
atom_over n graph q = record { number = n; graph = graph; var = 2 + n; predicate = q }

-- a walk of weight at most 7, one of at most 3 edges, and any walk in the first graph, and any walk in the second
abbrev pub four_atoms : Instance
four_atoms = record {
  vars = 6;
  graphs = (0, parallel 1 1) ∷ (1, parallel 1 1) ∷ [];
  atoms = atom_over 1 0 (kind.Distance 0 1 (pos 7)) ∷ atom_over 2 0 (kind.Steps 0 1 (pos 3))
      ∷ atom_over 3 0 (kind.Reach 0 1) ∷ atom_over 4 1 (kind.Reach 0 1) ∷ [];
  clauses = [];
}

-- a theory that owns the atoms of these numbers, and several
abbrev pub owner : List ℕ → Facts
owner ns = record { graph = parallel 1 1; atoms = map (atom_numbered four_atoms) ns; seen = [] }

abbrev pub owners : List (List ℕ) → List Facts
owners groups = map owner groups
