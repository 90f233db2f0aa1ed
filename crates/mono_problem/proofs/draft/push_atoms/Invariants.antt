use Rattle.std.proofs.Common.{◌≡◌, ◌++◌, map, take}
use Rattle.mono_problem.specs.Uses.{atom_use}
use Rattle.mono_problem.proofs.draft.push_atoms.Given as goal

abbrev pub invariant-loop-atom : goal.invariant-loop-atom
invariant-loop-atom l = l.all.items ≡ l.initial.all.items ++ map atom_use (take l.atom-index l.atoms)
