use Rattle.std.proofs.Common.{take}
use Rattle.mono_theory.specs.Sound.{AllHave}
use Rattle.mono_theory.proofs.kept_evidence.have.Given as goal

abbrev pub invariant-loop-edge : goal.invariant-loop-edge
invariant-loop-edge l = AllHave l.part l.value (take l.edge-index l.edges)
