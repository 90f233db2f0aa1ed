use Rattle.std.proofs.Common.{ℕ, ◌<◌, get_or}
use Rattle.std.specs.Prelude.{IsTrue}
use Rattle.mono_dynamic.specs.declared.walk_target.WalkTarget.{WalkTarget}
use Rattle.mono_dynamic.specs.Ways.{has_target}
use Rattle.mono_dynamic.proofs.reached_targets.has_all.Given as goal

abbrev pub invariant-loop-target : goal.invariant-loop-target
invariant-loop-target l = (j : ℕ) (d : WalkTarget) → j < l.target-index → IsTrue (has_target l.tree (get_or l.targets j d))
