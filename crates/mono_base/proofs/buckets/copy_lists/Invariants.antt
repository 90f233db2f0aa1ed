use Rattle.std.proofs.Common.{◌≡◌, length, take}
use Rattle.mono_base.specs.Buckets.{AreApart, lists_in}
use Rattle.mono_base.proofs.buckets.copy_lists.Given as goal

abbrev pub invariant-loop-at : goal.invariant-loop-at
invariant-loop-at g l = record {
  apart : AreApart (length l.all.items) l.copied.items;
  so_far : lists_in l.all.items l.copied.items ≡ lists_in l.items (take l.at-index l.stretches);
}
