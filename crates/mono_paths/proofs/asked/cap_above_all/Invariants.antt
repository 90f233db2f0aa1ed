use Rattle.std.proofs.Common.{◌<◌, ◌<ℤ◌, pos, take, All}
use Rattle.mono_paths.proofs.asked.cap_above_all.Given as goal

abbrev pub invariant-loop-target : goal.invariant-loop-target
invariant-loop-target l = record {
  some : 0 < l.cap;
  above : All (λ t. t.most <ℤ pos l.cap) (take l.target-index l.targets);
}
