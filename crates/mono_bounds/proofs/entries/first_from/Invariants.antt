use Rattle.std.proofs.Common.{◌<◌, ◌≤◌, ◌-◌, length}
use Rattle.std.specs.List.{AllWithin}
use Rattle.mono_bounds.proofs.entries.first_from.Given as goal

abbrev pub invariant-loop-first : goal.invariant-loop-first
invariant-loop-first l = record {
  low : l.low ≤ l.first;
  order : l.first ≤ l.end;
  end : l.end ≤ l.high;
  below : AllWithin (λ e. e.key < l.key) l.entries 0 l.first;
  from : AllWithin (λ e. l.key ≤ e.key) l.entries l.end (length l.entries);
}

abbrev pub decreases-loop-first : goal.decreases-loop-first
decreases-loop-first l = l.end - l.first
