use Rattle.std.proofs.Common.{◌≡◌, ◌++◌, take, map, flat_map}
use Rattle.mono_text.specs.Text.{spaced}
use Rattle.mono_gnf.specs.Printed.{atom_line}
use Rattle.mono_gnf.proofs.print.push_atoms.Given as goal

abbrev pub invariant-loop-done : goal.invariant-loop-done
invariant-loop-done l = l.out.items ≡ l.initial.out.items ++ flat_map spaced (map (atom_line l.problem) (take l.done l.problem.atoms))
