-- Nodes that are asked for at once, each with a bound of its own.
use Rattle.std.specs.Prelude.{◌≡◌, ℕ, ℤ, pos, negsuc, ◌≤ℤ◌, ◌<◌, ◌↔◌, Bool, false, List, length, slice_index_or, IsTrue}
use Rattle.mono_base.specs.declared.limits.TheConstants.{MAX_BOUND}
use Rattle.mono_graph.specs.declared.limit.Limit.{Limit}
use Rattle.mono_graph.specs.declared.limit.Limit.TheVariants as limit
use Rattle.mono_graph.specs.Digraph.{Digraph}
use Rattle.mono_graph.specs.Walks.{is_path}
use Rattle.mono_paths.specs.declared.measure.Measure.{Measure}
use Rattle.mono_paths.specs.declared.measure.Measure.TheVariants as measure
use Rattle.mono_paths.specs.declared.target.Target.{Target}

-- the limit of so many edges or of so much weight; none where nothing is measured
abbrev pub limit_by : Measure → ℤ → Limit
limit_by measure.Free most = limit.Free
limit_by measure.Steps most = limit.Steps most
limit_by measure.Weight most = limit.Weight most

abbrev pub target_at : List Target → ℕ → Target
target_at ts i = slice_index_or ts i (record { node = 0; most = pos 0 })

-- it is a node of the graph, and its bound is from -1 to the greatest
abbrev pub IsTarget : Digraph → Target → Type 0
IsTarget g t = (t.node < g.nodes) × (negsuc 0 ≤ℤ t.most) × (t.most ≤ℤ pos MAX_BOUND)

-- some walk in the part leads from u to v within the limit
abbrev pub HasPath : Digraph → List Bool → ℕ → ℕ → Limit → Type 0
HasPath g P u v l = (walk : List ℕ) × IsTrue (is_path g P u v l walk)

-- each answer is true exactly where a walk leads from u to the target within its bound
pub record AreAnswers (g : Digraph) (P : List Bool) (m : Measure) (u : ℕ) (ts : List Target) (answers : List Bool) : Type 0 where
  pub len : length answers ≡ length ts
  pub each : (i : ℕ) → i < length ts → IsTrue (slice_index_or answers i false) ↔ HasPath g P u (target_at ts i).node (limit_by m (target_at ts i).most)
