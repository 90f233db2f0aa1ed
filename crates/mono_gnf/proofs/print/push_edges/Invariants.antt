use Rattle.std.proofs.Common.{◌≡◌, ◌++◌, map, flat_map, length}
use Rattle.mono_text.specs.Text.{spaced}
use Rattle.mono_gnf.specs.Printed.{edge_line, edges_up_to}
use Rattle.mono_gnf.proofs.print.push_edges.Given as goal

abbrev pub invariant-loop-done : goal.invariant-loop-done
invariant-loop-done l = record {
  graphs : length l.next.items ≡ length l.problem.graphs;
  written : l.out.items ≡ l.initial.out.items ++ flat_map spaced (map edge_line (edges_up_to l.problem l.done));
}
