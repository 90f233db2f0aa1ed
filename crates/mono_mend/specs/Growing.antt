-- What two searches that grow towards each other keep: marks by node, and lists of nodes.
use Rattle.std.specs.Prelude.{◌≡◌, ℕ, ◌<◌, false, List, All, length, slice_index_or}
use Rattle.mono_graph.specs.Digraph.{Digraph, has}
use Rattle.mono_mend.specs.declared.way.Way.{Way}
use Rattle.mono_mend.specs.declared.way.Way.TheVariants as way
use Rattle.mono_mend.specs.declared.way.Mark.{Mark}
use Rattle.mono_mend.specs.declared.growth.Growth.{Growth}

-- the mark of a node that wasn't reached
abbrev pub no_mark : Mark
no_mark = record { way = way.Unreached; cost = 0 }

-- the edge by which a node was reached, where it was by one, is an edge of the graph
abbrev pub IsWayIn : Digraph → Way → Type 0
IsWayIn g way.Unreached = Unit {0}
IsWayIn g way.First = Unit {0}
IsWayIn g way.Last = Unit {0}
IsWayIn g (way.Before k) = k < length g.edges
IsWayIn g (way.Behind k) = k < length g.edges
IsWayIn g (way.Forward k) = k < length g.edges
IsWayIn g (way.Backward k) = k < length g.edges

-- each node that has a mark is listed
pub record AreMarksListed (marks : List Mark) (reached : List ℕ) : Type 0 where
  pub within : All (λ u. u < length marks) reached
  pub unlisted : (u : ℕ) → has reached u ≡ false → slice_index_or marks u no_mark ≡ no_mark

-- the marks are those of the graph's nodes and name its edges, and all lists name its nodes
pub record AreGrown (g : Digraph) (marks : List Mark) (reached front behind : List ℕ) : Type 0 where
  pub count : length marks ≡ g.nodes
  pub ways : All (λ m. IsWayIn g m.way) marks
  pub listed : AreMarksListed marks reached
  pub onward : All (λ u. u < g.nodes) front
  pub back : All (λ u. u < g.nodes) behind

abbrev pub IsRoom : Growth → Type 0
IsRoom s = AreMarksListed s.marks.items s.reached.items

abbrev pub IsGrowth : Digraph → Growth → Type 0
IsGrowth g s = AreGrown g s.marks.items s.reached.items s.front.items s.behind.items
