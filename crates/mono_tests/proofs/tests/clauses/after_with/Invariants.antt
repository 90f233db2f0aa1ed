use Rattle.std.proofs.Common.{◌<◌, length}
use Rattle.std.specs.Prelude.{All}
use Rattle.mono_clauses.specs.Store.{Held, Follows}
use Rattle.mono_tests.proofs.tests.clauses.after_with.Given as goal

abbrev pub invariant-calls : goal.invariant-calls
invariant-calls g l = record {
  numbered : All (λ (c : Held). c.number < length l.store.clauses) l.store.clauses;
  follows : Follows l.store l.trail;
}
