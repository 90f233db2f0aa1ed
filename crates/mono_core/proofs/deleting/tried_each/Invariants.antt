use Rattle.std.proofs.Common.{◌≡◌, ◌+◌, length}
use Rattle.mono_core.specs.Cores.{IsRefuted, AreFound}
use Rattle.mono_core.proofs.deleting.tried_each.Given as goal

abbrev pub invariant-loop-place : goal.invariant-loop-place
invariant-loop-place g l =
    IsRefuted l.problem l.assumed l.deletion.refuted.kept.items l.deletion.refuted.steps
    × AreFound l.problem l.budget l.assumed l.deletion.refuted.kept.items l.found.items
    × (length l.found.items + l.place ≡ length l.assumed)

abbrev pub decreases-loop-place : goal.decreases-loop-place
decreases-loop-place g l = l.place
