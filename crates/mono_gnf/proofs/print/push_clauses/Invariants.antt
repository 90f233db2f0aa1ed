use Rattle.std.proofs.Common.{◌≡◌, ◌++◌, take, map, flat_map}
use Rattle.mono_text.specs.Text.{spaced}
use Rattle.mono_gnf.specs.Printed.{clause_line}
use Rattle.mono_gnf.proofs.print.push_clauses.Given as goal

abbrev pub invariant-loop-done : goal.invariant-loop-done
invariant-loop-done l = l.out.items ≡ l.initial.out.items ++ flat_map spaced (map clause_line (take l.done l.problem.clauses))
