use Rattle.std.proofs.Common.{◌≡◌, ◌<◌, length}
use Rattle.mono_base.specs.Ranking.{AreInverse}
use Rattle.mono_trail.specs.Heap.{waits_of}
use Rattle.mono_trail.proofs.heap.sift_up.Given as goal

abbrev pub invariant-loop-place : goal.invariant-loop-place
invariant-loop-place l = record {
  inverse : AreInverse l.ranking.items l.ranking.places;
  as_many : length l.ranking.items ≡ length l.fn.ranking.items;
  waits : waits_of l.count l.ranking.places ≡ waits_of l.count l.fn.ranking.places;
  inside : l.place < l.count;
}

abbrev pub decreases-loop-place : goal.decreases-loop-place
decreases-loop-place l = l.place
