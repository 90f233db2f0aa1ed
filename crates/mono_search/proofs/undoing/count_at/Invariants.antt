use Rattle.std.proofs.Common.{◌≡◌, ◌<◌, ◌+◌, ◌^◌, Bool, List, drop, length}
use Rattle.mono_search.specs.TheoryLists.{AreListed}
use Rattle.mono_search.specs.Updates.{update_all, CanUpdate}
use Rattle.mono_search.proofs.undoing.count_at.Given as goal

abbrev pub invariant-loop-place : goal.invariant-loop-place
invariant-loop-place l = record {
  can : CanUpdate (λ n. n + 1 < 2 ^ 64) (λ n. n + 1) (drop l.place-index l.places) l.counts.items;
  as_many : length l.counts.items ≡ length l.worklist.listed;
  listed : (before : List Bool) → AreListed l.fn.counts.items before l.fn.worklist.listed → AreListed l.counts.items before l.worklist.listed;
  left : update_all (λ n. n + 1) (drop l.place-index l.places) l.counts.items ≡ update_all (λ n. n + 1) l.places l.fn.counts.items;
}
