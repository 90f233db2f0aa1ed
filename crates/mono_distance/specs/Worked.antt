-- Small theories of distances for the worked rows: one edge of weight 5 leads from node 0 to node 1, and the only atom has the
-- number 4.
use Rattle.std.specs.Prelude.{ℕ, true, false, ℤ, pos, List, [], ◌∷◌, ◌++◌, Option, None, Some}
use Rattle.mono_graph.specs.declared.label.Label.{Label}
use Rattle.mono_graph.specs.declared.limit.Limit.TheVariants as limit
use Rattle.mono_graph.specs.Worked.{edge, single}
use Rattle.mono_dynamic.specs.declared.arrival.Arrival.{Arrival}
use Rattle.mono_dynamic.specs.declared.walk_target.WalkTarget.{WalkTarget}
use Rattle.mono_dynamic.specs.Costs.{Costs}
use Rattle.mono_dynamic.specs.Rows.{alone}
use Rattle.mono_dynamic.specs.Targets.{Targets}
use Rattle.mono_dynamic.specs.Ways.{Ways}
use Rattle.mono_problem.specs.declared.atom.Predicate.{Predicate}
use Rattle.mono_problem.specs.declared.atom.Predicate.TheVariants as kind
use Rattle.mono_steps.specs.declared.lemma.Witness.{Witness}
use Rattle.mono_steps.specs.declared.lemma.Witness.TheVariants as by
use Rattle.mono_theory.specs.declared.stage.Stage.{Stage}
use Rattle.mono_theory.specs.declared.stage.Stage.TheVariants as stage
use Rattle.mono_theory.specs.PossibleRows.{PossibleView}
use Rattle.mono_theory.specs.Supports.{SideView}
use Rattle.mono_theory.specs.Theories.{Facts}
use Rattle.mono_theory.specs.declared.either_side.EitherSide.{EitherSide}
use Rattle.mono_theory.specs.declared.either_side.EitherSide.TheVariants as side
use Rattle.mono_distance.specs.Readings.{DistanceView}
use Rattle.mono_distance.specs.SureLabels.{SureLabels}

-- the only atom is at this stage with the possibly present edges, and this was shown of it
abbrev pub showing : Stage → Option Witness → SideView
showing at None = record { possible = true; supports = None ∷ []; shown = None ∷ []; watchers = [] ∷ []; stages = at ∷ []; thorough = true }
showing at (Some w) = record {
  possible = true;
  supports = None ∷ [];
  shown = Some (record { witness = w; edges = [] }) ∷ [];
  watchers = [] ∷ [];
  stages = at ∷ [];
  thorough = true;
}

-- what searches found of it with the possibly present edges
abbrev pub possibly : Stage → Option Witness → EitherSide PossibleView
possibly at w = side.Searches (showing at w)

-- these labels were shown of it
abbrev pub labelled : List Label → EitherSide PossibleView
labelled ls = possibly (stage.Shows 0) (Some (by.Label ls))

abbrev row_of_labels : List ℕ → Costs
row_of_labels labels = record { limit = limit.Weight (pos 7); cap = 9; labels = labels; changes = [] }

-- the atom asks for a walk to node 1 within 7
abbrev pub to_node_1 : WalkTarget
to_node_1 = record { node = 1; limit = limit.Weight (pos 7) }

-- the atom's row has these labels. There is another row before it
abbrev pub rows_with : ℕ → List ℕ → EitherSide SureLabels
rows_with looked labels = side.Rows (record {
  part = [];
  looked = looked;
  rows = record { rows = row_of_labels (3 ∷ 3 ∷ []) ∷ row_of_labels labels ∷ []; row_of = 1 ∷ []; targets = to_node_1 ∷ [] };
  due = [];
})

-- the same two rows, of two atoms: they ask for node 1 within 7, and for node 0 within 4
abbrev pub labels_with : List ℕ → SureLabels
labels_with labels = record {
  rows = row_of_labels (3 ∷ 3 ∷ []) ∷ row_of_labels labels ∷ [];
  row_of = 1 ∷ 1 ∷ [];
  targets = to_node_1 ∷ record { node = 0; limit = limit.Weight (pos 4) } ∷ [];
}

-- what searches found of it with the surely present edges
abbrev pub searched : Stage → EitherSide SureLabels
searched at = side.Searches (record (showing at None) { possible = false })

-- ---- rows of the possibly present edges

-- behind node 0 these arrivals are in the tree, and its nodes have these labels
abbrev pub ways_from : ℕ → List Arrival → List ℕ → Ways
ways_from u arrivals labels = record {
  limit = limit.Weight (pos 7);
  cap = 8;
  tree = record (alone 2 u) { arrivals = (alone 2 u).arrivals ++ arrivals };
  labels = labels;
}

-- node 1 was reached from node 0 along the edge
abbrev pub along_the_edge : List Arrival
along_the_edge = record { node = 1; place = 0; before = 0; stamp = 0 } ∷ []

-- The row from node 0 is the second of two. Since so many literals what it lacks is out of reach, if that is known, and an edge
-- of the tree went with one, if it did.
abbrev pub tree_rows : List WalkTarget → Option ℕ → Option ℕ → Ways → List Targets
tree_rows targets since lost ways =
    record { ways = ways_from 1 [] (8 ∷ 0 ∷ []); targets = []; since = Some 0; lost = None }
    ∷ record { ways = ways; targets = targets; since = since; lost = lost } ∷ []

-- the atom's row is the one at this place
abbrev pub tree_view : ℕ → List Targets → PossibleView
tree_view r rows = record { rows = record { nodes = 2; rows = rows }; row_of = r ∷ []; targets = to_node_1 ∷ [] }

abbrev pub trees_with : ℕ → Option ℕ → Option ℕ → Ways → EitherSide PossibleView
trees_with looked since lost ways = side.Rows (record {
  part = [];
  looked = looked;
  rows = tree_view 1 (tree_rows (to_node_1 ∷ []) since lost ways);
  due = [];
})

-- one edge, the atom, and one literal that was seen
abbrev pub facts_with : Predicate → ℤ → Facts
facts_with q l = record { graph = single (edge 1 0 1 5); atoms = record { number = 4; graph = 0; var = 3; predicate = q } ∷ []; seen = l ∷ [] }

-- the theory, which has seen one literal
abbrev pub keeping : Predicate → EitherSide SureLabels → EitherSide PossibleView → DistanceView
keeping q surely possibly = record {
  graph = single (edge 1 0 1 5);
  atoms = record { number = 4; graph = 0; var = 3; predicate = q } ∷ [];
  seen = pos 1 ∷ [];
  surely = surely;
  possibly = possibly;
}

abbrev pub within_7 : Predicate
within_7 = kind.Distance 0 1 (pos 7)
