use Rattle.std.proofs.Common.{◌≡◌}
use Rattle.mono_clauses.specs.Store.{Follows}
use Rattle.mono_bench.proofs.rounds.run.Given as goal

abbrev pub invariant-rounds : goal.invariant-rounds
invariant-rounds l = record {
  vars : l.kind.vars ≡ l.trail.vars;
  follows : Follows l.store l.trail;
}
