use Rattle.std.proofs.Common.{◌≡◌, ℕ, cond, length, take}
use Rattle.mono_graph.specs.Digraph.{present}
use Rattle.mono_problem.specs.Uses.{has_edge_use}
use Rattle.mono_steps.proofs.switching.switch_uses.Given as goal

abbrev pub invariant-loop-used : goal.invariant-loop-used
invariant-loop-used l = record {
  size : length l.part ≡ length l.fn.part;
  places : (k : ℕ) → present l.part k ≡ cond (has_edge_use l.graph k (take l.used-index l.uses)) l.on (present l.fn.part k);
}
