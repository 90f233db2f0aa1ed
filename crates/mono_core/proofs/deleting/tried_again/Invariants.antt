use Rattle.std.proofs.Common.{◌≡◌, ◌+◌, length}
use Rattle.mono_core.specs.Cores.{IsRefuted, AreFound, AreLeft}
use Rattle.mono_core.proofs.deleting.tried_again.Given as goal

abbrev pub invariant-loop-place : goal.invariant-loop-place
invariant-loop-place g l =
    IsRefuted l.problem l.assumed l.deletion.refuted.kept.items l.deletion.refuted.steps
    × AreFound l.problem l.budget l.assumed l.deletion.refuted.kept.items l.found.items
    × (length l.found.items + l.place ≡ length l.assumed)
    × AreLeft l.problem l.assumed l.deletion.refuted.kept.items l.soon.items
    × (length l.soon.items ≡ l.place)

abbrev pub decreases-loop-place : goal.decreases-loop-place
decreases-loop-place g l = l.place
