-- Small theories of reachability for the worked rows: one edge leads from node 0 to node 1, and the only atom says that node 1
-- can be reached from node 0.
use Rattle.std.specs.Prelude.{ℕ, Bool, true, false, pos, List, [], ◌∷◌, ◌++◌, Option, None, Some}
use Rattle.mono_graph.specs.declared.limit.Limit.TheVariants as limit
use Rattle.mono_graph.specs.Worked.{edge, single}
use Rattle.mono_dynamic.specs.declared.arrival.Arrival.{Arrival}
use Rattle.mono_dynamic.specs.declared.walk_target.WalkTarget.{WalkTarget}
use Rattle.mono_dynamic.specs.Reached.{Reached}
use Rattle.mono_dynamic.specs.Rows.{alone}
use Rattle.mono_dynamic.specs.Ways.{ways_of}
use Rattle.mono_steps.specs.declared.lemma.Witness.{Witness}
use Rattle.mono_theory.specs.declared.stage.Stage.{Stage}
use Rattle.mono_theory.specs.PossibleRows.{PossibleView}
use Rattle.mono_theory.specs.Supports.{SideView}
use Rattle.mono_theory.specs.Worked.{reaches}
use Rattle.mono_theory.specs.declared.either_side.EitherSide.{EitherSide}
use Rattle.mono_theory.specs.declared.either_side.EitherSide.TheVariants as side
use Rattle.mono_reach.specs.Marks.{SureMarks}
use Rattle.mono_reach.specs.Readings.{ReachView}

-- on this side, the only atom is at this stage, and this was shown of it
abbrev pub showing : Bool → Stage → Option Witness → SideView
showing possible at None = record { possible = possible; supports = None ∷ []; shown = None ∷ []; watchers = [] ∷ []; stages = at ∷ []; thorough = true }
showing possible at (Some w) = record {
  possible = possible;
  supports = None ∷ [];
  shown = Some (record { witness = w; edges = [] }) ∷ [];
  watchers = [] ∷ [];
  stages = at ∷ [];
  thorough = true;
}

-- predicates of atoms whose variables have values aren't decided
abbrev pub lazily : SideView → SideView
lazily s = record s { thorough = false }

-- searches along the surely present edges left the atom at this stage
abbrev pub searched : Stage → EitherSide SureMarks
searched at = side.Searches (showing false at None)

-- searches along the possibly present edges left the atom at this stage, and showed this
abbrev pub cut_off : Stage → Option Witness → EitherSide PossibleView
cut_off at w = side.Searches (showing true at w)

-- any walk to the node
abbrev pub walk_to : ℕ → WalkTarget
walk_to v = record { node = v; limit = limit.Free }

-- in a graph with two nodes, node 0 was reached, and then these
abbrev pub from_node_0 : List Arrival → Reached
from_node_0 arrivals = record (alone 2 0) { arrivals = (alone 2 0).arrivals ++ arrivals }

-- the atom's row is the second of two, with these arrivals behind the one at its source
abbrev pub rows_with : ℕ → List Arrival → EitherSide SureMarks
rows_with looked arrivals = side.Rows (record {
  part = [];
  looked = looked;
  rows = record { rows = alone 2 1 ∷ from_node_0 arrivals ∷ []; row_of = 1 ∷ []; targets = walk_to 1 ∷ [] };
  due = false ∷ [];
})

-- the same two rows, of two atoms that ask for node 1 and for node 0 itself
abbrev pub marks_with : List Arrival → SureMarks
marks_with arrivals = record { rows = alone 2 1 ∷ from_node_0 arrivals ∷ []; row_of = 1 ∷ 1 ∷ []; targets = walk_to 1 ∷ walk_to 0 ∷ [] }

-- The atom's row of the possibly present edges is the second of two: these arrivals are in its tree. What the tree lacks is out
-- of reach since so many literals, if that is known, and an edge of the tree went with one, if it did.
abbrev pub trees_with : ℕ → Option ℕ → Option ℕ → List Arrival → EitherSide PossibleView
trees_with looked since lost arrivals = side.Rows (record {
  part = [];
  looked = looked;
  rows = record {
    rows = record {
      nodes = 2;
      rows = record { ways = ways_of (alone 2 1) None; targets = []; since = Some 0; lost = None }
          ∷ record { ways = ways_of (from_node_0 arrivals) None; targets = walk_to 1 ∷ []; since = since; lost = lost } ∷ [];
    };
    row_of = 1 ∷ [];
    targets = walk_to 1 ∷ [];
  };
  due = false ∷ [];
})

-- node 1 was reached from node 0 along the edge, with the first literal
abbrev pub along_the_edge : List Arrival
along_the_edge = record { node = 1; place = 0; before = 0; stamp = 1 } ∷ []

-- the theory, which has seen one literal
abbrev pub keeping : EitherSide SureMarks → EitherSide PossibleView → ReachView
keeping surely possibly = record { graph = single (edge 1 0 1 5); atoms = reaches; seen = pos 1 ∷ []; surely = surely; possibly = possibly }
