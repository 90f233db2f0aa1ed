use Rattle.std.proofs.Common.{◌≡◌, ℕ, ◌<◌, get_or}
use Rattle.std.specs.Prelude.{IsTrue}
use Rattle.mono_graph.specs.Digraph.{has}
use Rattle.mono_dynamic.specs.declared.walk_target.WalkTarget.{WalkTarget}
use Rattle.mono_dynamic.specs.Costs.{label_of}
use Rattle.mono_graph.specs.Walks.{admits}
use Rattle.mono_dynamic.specs.Ways.{labels_in, IsTarget}
use Rattle.mono_dynamic.proofs.search_tree.asked_nodes.Given as goal

abbrev pub invariant-loop-target : goal.invariant-loop-target
invariant-loop-target l = record {
  each : (j : ℕ) (d : WalkTarget) → j < l.target-index → IsTrue (admits (get_or l.targets j d).limit (label_of (labels_in l.costs) (get_or l.targets j d).node)) → IsTrue (has l.nodes.items (get_or l.targets j d).node);
  only : (v : ℕ) → IsTrue (has l.nodes.items v) → (t : WalkTarget) × IsTarget l.targets t × IsTrue (admits t.limit (label_of (labels_in l.costs) t.node)) × (t.node ≡ v);
}
