-- A problem and the theories that own its atoms.
use Rattle.std.specs.Prelude.{◌≡◌, ℕ, ◌≤◌, Bool, ℤ, List, length, take, map, replicate, Option, All}
use Rattle.mono_problem.specs.Instance.{Instance, graph_at}
use Rattle.mono_problem.specs.Quiet.{IsQuietAtom}
use Rattle.mono_theory.specs.Owners.{OwnsEach}
use Rattle.mono_theory.specs.Theories.{Facts}
use Rattle.mono_search.specs.TheoryLists.{with_seen, IsCurrent, IsConcernTable, AreOwners, OthersAreQuiet}

-- as contracts see them. Each theory has seen what concerns it of the first `handed` literals of the trail, and so many lemmas of
-- theirs were given to the clauses
pub record TheoriesView : Type 0 where
  pub problem : Instance
  pub facts : List Facts
  pub handed : ℕ
  pub given : ℕ

-- what is kept of a problem and its theories: the table of whom each variable concerns, who is known to own an atom, a 0 for each
-- theory, and which of them are to be asked
pub record AreTheoryTables (p : Instance) (fs : List Facts) (table : List (List ℕ)) (owners : List (Option ℕ)) (counts : List ℕ)
    (listed : List Bool) : Type 0 where
  pub owns : OwnsEach p fs
  pub concerned : IsConcernTable p.vars fs table
  pub known : AreOwners fs owners
  pub zero : counts ≡ replicate (length fs) 0
  pub others : OthersAreQuiet fs listed

-- the theories have seen so much of a list
pub record HaveSeen (b : TheoriesView) (t : List ℤ) : Type 0 where
  pub within : b.handed ≤ length t
  pub current : All (IsCurrent (take b.handed t)) b.facts

-- the theories once they have seen the first n literals of a list
abbrev pub having_seen : TheoriesView → List ℤ → ℕ → TheoriesView
having_seen b t n = record b { facts = map (with_seen (take n t)) b.facts; handed = n }

-- no atom forces anything that the list doesn't say
pub record AtomsQuiet (p : Instance) (t : List ℤ) : Type 0 where
  pub at : All (λ x. IsQuietAtom (graph_at p x.graph) t x) p.atoms
