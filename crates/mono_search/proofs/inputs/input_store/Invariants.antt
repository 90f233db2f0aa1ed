use Rattle.std.proofs.Common.{◌≡◌, take}
use Rattle.mono_clauses.specs.Store.{Follows}
use Rattle.mono_search.specs.Stored.{inputs_from}
use Rattle.mono_search.proofs.inputs.input_store.Given as goal

abbrev pub invariant-loop-place : goal.invariant-loop-place
invariant-loop-place l = record {
  vars : l.store.vars ≡ l.problem.vars;
  clauses : l.store.clauses ≡ inputs_from 0 (take l.place l.problem.clauses);
  follows : Follows l.store l.trail;
}
