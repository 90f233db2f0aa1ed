use Rattle.std.proofs.Common.{arith}
use Rattle.mono_graph.specs.Worked.{edge_of}
use Rattle.mono_rows.proofs.GraphRows.{two_numbers_rise}
use Rattle.mono_rows.proofs.graph.rising_numbers.Goals as goal

pub returns-clause-variables_fall : goal.returns-clause-variables_fall
returns-clause-variables_fall c = two_numbers_rise 2 (edge_of 2 0 1 2 0) (edge_of 3 0 1 1 0) (omega arith)

pub returns-clause-numbers_fall : goal.returns-clause-numbers_fall
returns-clause-numbers_fall c = λ rises. let e = rises 0 1 (omega arith) (omega arith) in omega (arith, e)

pub returns-clause-number_twice : goal.returns-clause-number_twice
returns-clause-number_twice c = λ rises. let e = rises 0 1 (omega arith) (omega arith) in omega (arith, e)
