use Rattle.std.proofs.Common.{◌<◌}
use Rattle.std.specs.Prelude.{All}
use Rattle.mono_theory.specs.Asked.{AreOfAtoms, HasTarget}
use Rattle.mono_theory.proofs.asked.targets_of.Given as goal

abbrev pub invariant-loop-place : goal.invariant-loop-place
invariant-loop-place g l = record {
  targets : AreOfAtoms HasTarget l.frame.atoms l.place l.targets.items;
  known : All (λ t. t.node < l.frame.graph.nodes) l.targets.items;
}
