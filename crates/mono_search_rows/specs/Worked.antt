-- Small problems, atoms and parts for the worked rows.
use Rattle.std.specs.Prelude.{ℕ, zero, suc, Bool, true, ℤ, List, [], ◌∷◌, Option}
use Rattle.mono_graph.specs.Digraph.{Digraph}
use Rattle.mono_graph.specs.Worked.{both, neither, pipe, round_trip}
use Rattle.mono_cycles.specs.Kept.{PartWithOrder}
use Rattle.mono_problem.specs.declared.atom.Atom.{Atom}
use Rattle.mono_problem.specs.declared.atom.Predicate.{Predicate}
use Rattle.mono_problem.specs.declared.atom.Predicate.TheVariants as kind
use Rattle.mono_problem.specs.Instance.{Instance}
use Rattle.mono_problem.specs.Read.{atom_numbered}
use Rattle.mono_steps.specs.declared.lemma.Witness.TheVariants as by
use Rattle.mono_theory.specs.declared.either_side.EitherSide.{EitherSide}
use Rattle.mono_theory.specs.declared.either_side.EitherSide.TheVariants as side
use Rattle.mono_theory.specs.declared.evidence.Evidence.{Evidence}
use Rattle.mono_theory.specs.declared.stage.Stage.{Stage}
use Rattle.mono_theory.specs.declared.watch.Watch.{Watch}
use Rattle.mono_theory.specs.Supports.{SideView}
use Rattle.mono_graph.specs.declared.limit.Limit.TheVariants as limit
use Rattle.mono_theory.specs.SureRows.{SureRowsView}
use Rattle.mono_theory.specs.Theories.{Facts}
use Rattle.mono_theory.specs.Watching.{watch_by}
use Rattle.mono_trail.specs.declared.reason.Mark.{Mark}
use Rattle.mono_trail.specs.declared.reason.Reason.TheVariants.{Decided}
use Rattle.mono_search.specs.Worked.{two_clauses}
use Rattle.mono_acyclic.specs.declared.ordered_edges.Closing.{Closing}
use Rattle.mono_acyclic.specs.Orders.{OrderedView}

-- the atom of this number and variable
abbrev pub atom : ℕ → ℕ → Predicate → Atom
atom n x q = record { number = n; graph = 0; var = x; predicate = q }

-- two graphs with two edges each. The second atom is on cycles, and the third one is of the second graph
abbrev pub of_four_atoms : Instance
of_four_atoms = record {
  vars = 9;
  graphs = (0, pipe 1 1) ∷ (1, round_trip 1 1) ∷ [];
  atoms = atom 1 3 (kind.Reach 0 2) ∷ atom 2 4 kind.Acyclic ∷ record (atom 3 5 (kind.Reach 0 1)) { graph = 1 } ∷ atom 4 6 (kind.Reach 0 1) ∷ [];
  clauses = [];
}

-- node 1 can be reached from node 0 exactly where variable 3 is true, and there is no cycle exactly where variable 4 is
abbrev pub reaches_without_cycles : List Atom
reaches_without_cycles = atom 1 3 (kind.Reach 0 1) ∷ atom 2 4 kind.Acyclic ∷ []

-- {1, 2} and {1, -2} over seven variables
abbrev pub over_seven : Instance
over_seven = record two_clauses { vars = 7 }

-- one literal, decided at level 1
abbrev pub decided_at_1 : List Mark
decided_at_1 = record { level = 1; reason = Decided } ∷ []

-- no edge, until with the second step both come
abbrev pub second_brings_both : ℕ → List Bool
second_brings_both zero = neither
second_brings_both (suc zero) = neither
second_brings_both (suc (suc n)) = both

-- ---- edges in an order

-- over the graph these literals were seen
abbrev pub having_seen : Digraph → List ℤ → Facts
having_seen g t = record { graph = g; atoms = atom 1 3 kind.Acyclic ∷ []; seen = t }

-- the edges that are there, and an order of the nodes
abbrev pub ordered_by : List Bool → List ℕ → PartWithOrder
ordered_by part order = record { part = part; order = order; cycle = [] }

-- and which literal closed a cycle, if one did
abbrev pub kept_by : PartWithOrder → Option Closing → OrderedView
kept_by o closing = record { ordered = o; closing = closing }

-- ---- atoms and who owns them

-- the atom of that number, and a theory over a graph with these atoms
abbrev pub its : ℕ → Atom
its n = atom_numbered of_four_atoms n

abbrev pub over : Digraph → List Atom → Facts
over g atoms = record { graph = g; atoms = atoms; seen = [] }

-- ---- what is kept on a side

-- the walk along the second of two edges from node 0 to node 1, and the cut between these nodes
abbrev pub along_the_second : Evidence
along_the_second = record { witness = by.Path (2 ∷ []); edges = 1 ∷ [] }

abbrev pub cut_at_0 : Evidence
cut_at_0 = record { witness = by.Cut (0 ∷ []); edges = 0 ∷ 1 ∷ [] }

-- the only atom watches the second of two edges, the first of those on which its support rests
abbrev pub second_is_watched : List (List Watch)
second_is_watched = [] ∷ (watch_by 0 0 ∷ []) ∷ []

-- of the only atom with the possibly present edges
abbrev pub keeping : Option Evidence → Option Evidence → List (List Watch) → Stage → SideView
keeping support shown watchers at = record { possible = true; supports = support ∷ []; shown = shown ∷ []; watchers = watchers; stages = at ∷ []; thorough = true }

-- rows of which only these numbers are told
abbrev pub rows_told : ℕ → ℕ → EitherSide ℕ
rows_told looked rows = side.Rows (record { part = []; looked = looked; rows = rows; due = [] })

-- one row, which the only atom has. Its walk is to lead to node 6
abbrev pub one_row : ℕ → SureRowsView ℕ
one_row row = record { rows = row ∷ []; row_of = 0 ∷ []; targets = record { node = 6; limit = limit.Free } ∷ [] }
