use Rattle.std.proofs.Common.{◌<◌}
use Rattle.std.specs.List.{AllWithin}
use Rattle.mono_bounds.specs.Entries.{bucket}
use Rattle.mono_bounds.proofs.entries.start_of.Given as goal

abbrev pub invariant-loop-at : goal.invariant-loop-at
invariant-loop-at l = AllWithin (λ e. bucket l.least l.shift e.key < l.number) l.entries 0 l.at
