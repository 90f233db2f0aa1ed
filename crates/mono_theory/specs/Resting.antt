-- Absent edges on which a witness rests. Each such witness asks something of some present edges alone, as a cut does of those
-- that leave it, so it rests on those of them that are absent.
use Rattle.std.specs.Prelude.{◌≡◌, ℕ, ◌<◌, Bool, false, not, ◌&&◌, ◌||◌, List, ◌++◌, length, filter, flat_map, slice_index_or, IsTrue, All}
use Rattle.mono_graph.specs.declared.edge.Edge.{Edge}
use Rattle.mono_graph.specs.Digraph.{Digraph, crosses, edge_at, present, leaving, entering, has}

-- the edges are absent, and each absent edge that passes the test is one of them
pub record AreAbsent (test : Edge → Bool) (g : Digraph) (P : List Bool) (ks : List ℕ) : Type 0 where
  pub absent : All (λ k. (k < length g.edges) × (present P k ≡ false)) ks
  pub all : (k : ℕ) → k < length g.edges → IsTrue (test (edge_at g k)) → present P k ≡ false → IsTrue (has ks k)

-- two parts agree on the edges that pass the test
pub record AreAlike (test : Edge → Bool) (g : Digraph) (P Q : List Bool) : Type 0 where
  pub each : (k : ℕ) → k < length g.edges → IsTrue (test (edge_at g k)) → present P k ≡ present Q k

-- no mark is set
pub record AreClear (marks : List Bool) : Type 0 where
  pub none : (u : ℕ) → slice_index_or marks u false ≡ false

-- whether the edge joins a marked node with one that isn't
abbrev pub is_joining : List Bool → Edge → Bool
is_joining marks e = (slice_index_or marks e.from false && not (slice_index_or marks e.to false))
    || (slice_index_or marks e.to false && not (slice_index_or marks e.from false))

-- of these edges those that are absent and join the set with the rest
abbrev pub absent_joining : Digraph → List Bool → List ℕ → List ℕ → List ℕ
absent_joining g P s ks = filter (λ k. not (present P k) && crosses s (edge_at g k)) ks

-- those that leave a node, and those that enter it
abbrev pub absent_from : Digraph → List Bool → List ℕ → ℕ → List ℕ
absent_from g P s u = absent_joining g P s (leaving g u)

abbrev pub absent_into : Digraph → List Bool → List ℕ → ℕ → List ℕ
absent_into g P s u = absent_joining g P s (entering g u)

-- the absent edges that leave the set, and those that join it with the rest
abbrev pub absent_out : Digraph → List Bool → List ℕ → List ℕ
absent_out g P s = flat_map (absent_from g P s) s

abbrev pub absent_across : Digraph → List Bool → List ℕ → List ℕ
absent_across g P s = flat_map (λ u. absent_from g P s u ++ absent_into g P s u) s
