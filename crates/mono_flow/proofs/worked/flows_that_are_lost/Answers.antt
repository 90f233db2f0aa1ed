use Rattle.std.proofs.Common.{refl, arith}
use Rattle.mono_flow.proofs.WorkedRows.{another_stays, nothing_lost}
use Rattle.mono_flow.proofs.worked.flows_that_are_lost.Goals as goal

pub returns-clause-lost : goal.returns-clause-lost
returns-clause-lost c = record { edge = 0; held = omega arith; var = refl; absent = refl; carried = omega arith }

pub returns-clause-carries_nothing : goal.returns-clause-carries_nothing
returns-clause-carries_nothing c = nothing_lost

pub returns-clause-edge_comes : goal.returns-clause-edge_comes
returns-clause-edge_comes c = λ h. let e = h.absent in cc

pub returns-clause-another_edge : goal.returns-clause-another_edge
returns-clause-another_edge c = another_stays
