use Rattle.std.proofs.Common.{arith}
use Rattle.mono_rows.proofs.trail.variables_in_range.Goals as goal

pub returns-clause-first : goal.returns-clause-first
returns-clause-first c = (omega arith, omega arith)

pub returns-clause-last : goal.returns-clause-last
returns-clause-last c = (omega arith, omega arith)

pub returns-clause-none : goal.returns-clause-none
returns-clause-none c = λ v. omega (arith, v.0)

pub returns-clause-beyond : goal.returns-clause-beyond
returns-clause-beyond c = λ v. omega (arith, v.1)
