use Rattle.std.proofs.Common.{true, false, [], ◌∷◌, refl}
use Rattle.mono_graph.specs.Worked.{both, last_alone, lone, looped, parallel, pipe, round_trip}
use Rattle.mono_graph.proofs.RisingRanks.{order_acyclic, cycle_cyclic}
use Rattle.mono_rows.specs.SmallCycles.{behind_a_loop}
use Rattle.mono_rows.proofs.cycles.parts_without_cycles.Goals as goal

pub returns-clause-pipe : goal.returns-clause-pipe
returns-clause-pipe c = order_acyclic (pipe 1 1) both (0 ∷ 1 ∷ 2 ∷ []) refl

pub returns-clause-parallel : goal.returns-clause-parallel
returns-clause-parallel c = order_acyclic (parallel 1 1) both (0 ∷ 1 ∷ []) refl

pub returns-clause-no_edge : goal.returns-clause-no_edge
returns-clause-no_edge c = order_acyclic lone [] (0 ∷ []) refl

pub returns-clause-one_way : goal.returns-clause-one_way
returns-clause-one_way c = order_acyclic (round_trip 2 3) last_alone (1 ∷ 0 ∷ []) refl

pub returns-clause-absent_loop : goal.returns-clause-absent_loop
returns-clause-absent_loop c = order_acyclic looped (false ∷ []) (0 ∷ []) refl

pub returns-clause-to_itself : goal.returns-clause-to_itself
returns-clause-to_itself c = cycle_cyclic looped (true ∷ []) (0 ∷ []) refl

pub returns-clause-there_and_back : goal.returns-clause-there_and_back
returns-clause-there_and_back c = cycle_cyclic (round_trip 2 3) both (0 ∷ 1 ∷ []) refl

pub returns-clause-away_from_node_0 : goal.returns-clause-away_from_node_0
returns-clause-away_from_node_0 c = cycle_cyclic behind_a_loop (false ∷ true ∷ false ∷ []) (1 ∷ []) refl
