use Rattle.std.specs.Prelude.{All}
use Rattle.mono_dynamic.specs.LeastRows.{IsCostSource}
use Rattle.mono_theory.specs.Asked.{AreOfAtoms, IsSourceFor}
use Rattle.mono_theory.proofs.asked.asked_by.Given as goal

abbrev pub invariant-loop-place : goal.invariant-loop-place
invariant-loop-place g l = record {
  asked : AreOfAtoms IsSourceFor l.frame.atoms l.place l.sources.items;
  known : All (IsCostSource l.frame.graph.nodes) l.sources.items;
}
