-- A predicate of each kind, and small theories of two atoms for the worked rows. One edge of weight 5 leads from node 0 to node 1. The
-- first atom, by the number 2, asks for a walk from node 1 to node 0, and the second one, by the number 4, for a walk along the edge.
use Rattle.std.specs.Prelude.{Bool, true, false, pos, List, [], ◌∷◌, Option, None, Some}
use Rattle.mono_graph.specs.declared.limit.Limit.TheVariants as limit
use Rattle.mono_graph.specs.Worked.{edge, label, single}
use Rattle.mono_dynamic.specs.declared.walk_target.WalkTarget.{WalkTarget}
use Rattle.mono_dynamic.specs.Rows.{alone}
use Rattle.mono_dynamic.specs.Ways.{ways_of}
use Rattle.mono_problem.specs.declared.atom.Predicate.{Predicate}
use Rattle.mono_problem.specs.declared.atom.Predicate.TheVariants as kind
use Rattle.mono_steps.specs.declared.lemma.Witness.{Witness}
use Rattle.mono_steps.specs.declared.lemma.Witness.TheVariants as by
use Rattle.mono_theory.specs.declared.either_side.EitherSide.{EitherSide}
use Rattle.mono_theory.specs.declared.either_side.EitherSide.TheVariants as side
use Rattle.mono_theory.specs.declared.stage.Stage.TheVariants as stage
use Rattle.mono_theory.specs.PossibleRows.{PossibleView}
use Rattle.mono_theory.specs.Supports.{SideView}
use Rattle.mono_reach.specs.Marks.{SureMarks}
use Rattle.mono_reach.specs.Readings.{ReachView}
use Rattle.mono_reach.specs.Worked.{showing, walk_to}
use Rattle.mono_distance.specs.Readings.{DistanceView}
use Rattle.mono_distance.specs.SureLabels.{SureLabels}
use Rattle.mono_distance.specs.Worked.{along_the_edge, labels_with, to_node_1, tree_rows, tree_view, ways_from}
use Rattle.mono_flow.specs.Worked.{behind_another}
use Rattle.mono_search_rows.specs.Worked.{atom}

-- a predicate of each kind
abbrev pub one_of_each : List Predicate
one_of_each = kind.Reach 0 1 ∷ kind.Steps 0 1 (pos 3) ∷ kind.Distance 0 1 (pos 7) ∷ kind.Flow 0 1 (pos 2) ∷ kind.Tree (pos 5) ∷ kind.Acyclic ∷ []

-- searches showed this of the second atom, and nothing of the first, which waits
abbrev pub second_shown : Bool → Option Witness → SideView
second_shown possible w = behind_another (showing possible (stage.Shows 1) w)

-- ---- reachability

abbrev pub reach_of_two : EitherSide SureMarks → EitherSide PossibleView → ReachView
reach_of_two surely possibly = record {
  graph = single (edge 1 0 1 5);
  atoms = atom 2 2 (kind.Reach 1 0) ∷ atom 4 3 (kind.Reach 0 1) ∷ [];
  seen = pos 1 ∷ [];
  surely = surely;
  possibly = possibly;
}

-- searches found a walk for the second atom, and that only node 0 is in reach
abbrev pub second_searched : ReachView
second_searched = reach_of_two (side.Searches (second_shown false None)) (side.Searches (second_shown true (Some (by.Cut (0 ∷ [])))))

-- each atom has a row of its own, in which its first node alone is reached
abbrev pub marks_of_each : EitherSide SureMarks
marks_of_each = side.Rows (record {
  part = [];
  looked = 1;
  rows = record { rows = alone 2 1 ∷ alone 2 0 ∷ []; row_of = 0 ∷ 1 ∷ []; targets = walk_to 0 ∷ walk_to 1 ∷ [] };
  due = [];
})

-- and so with the possibly present edges, where the second row alone was searched
abbrev pub trees_of_each : EitherSide PossibleView
trees_of_each = side.Rows (record {
  part = [];
  looked = 1;
  rows = record {
    rows = record {
      nodes = 2;
      rows = record { ways = ways_of (alone 2 1) None; targets = walk_to 0 ∷ []; since = None; lost = None }
          ∷ record { ways = ways_of (alone 2 0) None; targets = walk_to 1 ∷ []; since = Some 1; lost = None } ∷ [];
    };
    row_of = 0 ∷ 1 ∷ [];
    targets = walk_to 0 ∷ walk_to 1 ∷ [];
  };
  due = [];
})

-- ---- distances: the walk back may weigh 2, and the other one 7

abbrev pub distances_of_two : EitherSide SureLabels → EitherSide PossibleView → DistanceView
distances_of_two surely possibly = record {
  graph = single (edge 1 0 1 5);
  atoms = atom 2 2 (kind.Distance 1 0 (pos 2)) ∷ atom 4 3 (kind.Distance 0 1 (pos 7)) ∷ [];
  seen = pos 1 ∷ [];
  surely = surely;
  possibly = possibly;
}

-- searches found a walk for the second atom, and labels
abbrev pub second_measured : DistanceView
second_measured = distances_of_two (side.Searches (second_shown false None)) (side.Searches (second_shown true (Some (by.Label (label 0 0 ∷ label 1 5 ∷ [])))))

abbrev pub targets_of_two : List WalkTarget
targets_of_two = record { node = 0; limit = limit.Weight (pos 2) } ∷ to_node_1 ∷ []

-- each atom has a row of its own: in the first one both labels are 3, and in the second one they are 0 and 5
abbrev pub labels_of_each : EitherSide SureLabels
labels_of_each = side.Rows (record {
  part = [];
  looked = 1;
  rows = record (labels_with (0 ∷ 5 ∷ [])) { row_of = 0 ∷ 1 ∷ []; targets = targets_of_two };
  due = [];
})

-- and so with the possibly present edges, where only the search of the second row found the walk that its atom asks for
abbrev pub walks_of_each : EitherSide PossibleView
walks_of_each = side.Rows (record {
  part = [];
  looked = 1;
  rows = record (tree_view 0 (tree_rows (to_node_1 ∷ []) (Some 1) None (ways_from 0 along_the_edge (0 ∷ 5 ∷ [])))) {
    row_of = 0 ∷ 1 ∷ [];
    targets = targets_of_two;
  };
  due = [];
})
