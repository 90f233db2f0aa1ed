use Rattle.std.proofs.Common.{true, [], ◌∷◌, refl}
use Rattle.mono_graph.specs.Worked.{both, first_alone, lone, looped, parallel, round_trip}
use Rattle.mono_graph.proofs.RisingRanks.{order_acyclic, cycle_cyclic}
use Rattle.mono_rows.proofs.falling.parts_without_a_cycle.Goals as goal

pub returns-clause-one_way : goal.returns-clause-one_way
returns-clause-one_way c = order_acyclic (round_trip 2 3) first_alone (0 ∷ 1 ∷ []) refl

pub returns-clause-no_edge : goal.returns-clause-no_edge
returns-clause-no_edge c = order_acyclic lone [] (0 ∷ []) refl

pub returns-clause-parallel : goal.returns-clause-parallel
returns-clause-parallel c = order_acyclic (parallel 1 1) both (0 ∷ 1 ∷ []) refl

pub returns-clause-there_and_back : goal.returns-clause-there_and_back
returns-clause-there_and_back c = cycle_cyclic (round_trip 2 3) both (0 ∷ 1 ∷ []) refl

pub returns-clause-to_itself : goal.returns-clause-to_itself
returns-clause-to_itself c = cycle_cyclic looped (true ∷ []) (0 ∷ []) refl
