use Rattle.mono_theory.specs.Owners.{facts_of}
use Rattle.mono_any.specs.Kinds.{graph_of, atoms_of, seen_of}
use Rattle.mono_kinds.specs.Slots.{AreMade}
use Rattle.mono_kinds.proofs.every.theories_of.Given as goal

abbrev pub invariant-loop-slot : goal.invariant-loop-slot
invariant-loop-slot l = AreMade l.problem l.slot (facts_of graph_of atoms_of seen_of l.theories.items)
