use Rattle.std.proofs.Common.{◌≡◌, ◌++◌, take, map, flat_map}
use Rattle.mono_text.specs.Text.{spaced}
use Rattle.mono_gnf.specs.Printed.{graph_line}
use Rattle.mono_gnf.proofs.print.push_graphs.Given as goal

abbrev pub invariant-loop-place : goal.invariant-loop-place
invariant-loop-place l = l.out.items ≡ l.initial.out.items ++ flat_map spaced (map graph_line (take l.place l.problem.graphs))
