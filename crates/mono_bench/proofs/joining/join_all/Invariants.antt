use Rattle.std.proofs.Common.{◌≡◌, ◌<◌, ◌-◌}
use Rattle.std.specs.Prelude.{All}
use Rattle.mono_clauses.specs.Store.{Held, Follows}
use Rattle.mono_bench.proofs.joining.join_all.Given as goal

abbrev pub invariant-join : goal.invariant-join
invariant-join l = record {
  vars : l.store.vars ≡ l.kind.vars;
  follows : Follows l.store l.trail;
  rising : All (λ (c : Held). c.number < l.place) l.store.clauses;
}

abbrev pub decreases-join : goal.decreases-join
decreases-join l = l.count - l.place
