use Rattle.std.specs.Prelude.{All}
use Rattle.mono_base.specs.Literal.{IsLitWithin}
use Rattle.mono_tests.proofs.tests.clauses.literals.Given as goal

abbrev pub invariant-loop-number : goal.invariant-loop-number
invariant-loop-number l = All (IsLitWithin l.vars) l.lits.items
