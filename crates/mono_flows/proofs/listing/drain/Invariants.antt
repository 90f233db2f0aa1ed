use Rattle.std.proofs.Common.{◌≡◌, length, take}
use Rattle.mono_flows.specs.Drained.{AreDrained}
use Rattle.mono_flows.proofs.listing.drain.Given as goal

abbrev pub invariant-loop-place : goal.invariant-loop-place
invariant-loop-place l = record {
  len : length l.amounts.items ≡ length l.fn.amounts.items;
  drained : AreDrained l.fn.amounts.items l.amounts.items (take l.place-index l.touched) l.listed.items;
}
