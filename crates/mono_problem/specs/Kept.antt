-- What a draft and a problem keep beside what they say.
use Rattle.std.specs.Prelude.{◌≡◌, ℕ, ◌+◌, ◌<◌, List, length, slice_index, IsTrue}
use Rattle.mono_problem.specs.declared.uses.Use.{Use}
use Rattle.mono_problem.specs.Instance.{Instance, graph_at, has_number, nodes_total, edges_total}
use Rattle.mono_problem.specs.WellFormed.{IsInstance}
use Rattle.mono_problem.specs.Uses.{chosen, uses_of}

-- the place of the graph of each edge, by the edge's number less 1
pub record AreHomes (p : Instance) (homes : List ℕ) : Type 0 where
  pub len : length homes ≡ edges_total p
  pub held : (k : ℕ) → k < length homes → slice_index homes k < length p.graphs
  pub each : (k : ℕ) → k < length homes → IsTrue (has_number (graph_at p (slice_index homes k)) (k + 1))

pub record IsDraft (p : Instance) (node_count : ℕ) (places : List ℕ) : Type 0 where
  pub problem : IsInstance p
  pub nodes : node_count ≡ nodes_total p
  pub homes : AreHomes p places

-- the table has the variables and their uses, side by side
pub record IsProblem (p : Instance) (places : List ℕ) (table : List ℕ × List Use) : Type 0 where
  pub problem : IsInstance p
  pub homes : AreHomes p places
  pub uses : (x : ℕ) → chosen x table.0 table.1 ≡ uses_of p x
