use Rattle.std.proofs.Common.{◌<◌, ◌^◌}
use Rattle.std.specs.List.{AllWithin}
use Rattle.mono_trail.proofs.heap.scale_down.Given as goal

abbrev pub invariant-loop-activity : goal.invariant-loop-activity
invariant-loop-activity l = AllWithin (λ a. a < 2 ^ 24) l.activity-items 0 l.activity-index
