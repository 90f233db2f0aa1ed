use Rattle.std.proofs.Common.{◌-◌, ◌+◌}
use Rattle.mono_bench.proofs.rounds.pick.Given as goal

abbrev pub decreases-pick : goal.decreases-pick
decreases-pick l = l.kind.vars + 1 - l.var
