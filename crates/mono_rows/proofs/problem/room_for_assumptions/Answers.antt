use Rattle.std.proofs.Common.{arith}
use Rattle.mono_rows.proofs.problem.room_for_assumptions.Goals as goal

pub returns : goal.returns
returns c = record {
  last = λ p lits clauses literals. record { clauses = omega (arith, clauses); literals = omega (arith, literals) };
  no_clause = λ p lits clauses room. let low = room.clauses in omega (arith, clauses, low);
  no_literal = λ p lits literals room. let low = room.literals in omega (arith, literals, low);
}
