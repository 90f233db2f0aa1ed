use Rattle.std.proofs.Common.{true, [], ◌∷◌, refl, arith}
use Rattle.mono_graph.specs.Worked.{round_trip, parallel, looped, both}
use Rattle.mono_dynamic.specs.Arrivals.{at_source}
use Rattle.mono_dynamic.specs.Worked.{arrival}
use Rattle.mono_dynamic.proofs.Followed.{tree_push}
use Rattle.mono_dynamic.proofs.Rows.{reached_by_test, tree_alone}
use Rattle.mono_dynamic.proofs.worked.reached_round_a_cycle.Goals as goal

pub returns-clause-cycle : goal.returns-clause-cycle
returns-clause-cycle c = reached_by_test (round_trip 1 1) both 0 (at_source 0 ∷ arrival 1 0 0 1 ∷ [])
    (tree_push (round_trip 1 1) both 0 (at_source 0 ∷ []) (arrival 1 0 0 1) (tree_alone (round_trip 1 1) both 0) (record { before = omega arith; known = omega arith; present = refl; from = refl; to = refl })) refl

pub returns-clause-to_itself : goal.returns-clause-to_itself
returns-clause-to_itself c = reached_by_test looped (true ∷ []) 0 (at_source 0 ∷ []) (tree_alone looped (true ∷ []) 0) refl

pub returns-clause-by_first : goal.returns-clause-by_first
returns-clause-by_first c = reached_by_test (parallel 1 4) both 0 (at_source 0 ∷ arrival 1 0 0 1 ∷ [])
    (tree_push (parallel 1 4) both 0 (at_source 0 ∷ []) (arrival 1 0 0 1) (tree_alone (parallel 1 4) both 0) (record { before = omega arith; known = omega arith; present = refl; from = refl; to = refl })) refl

pub returns-clause-by_last : goal.returns-clause-by_last
returns-clause-by_last c = reached_by_test (parallel 1 4) both 0 (at_source 0 ∷ arrival 1 1 0 1 ∷ [])
    (tree_push (parallel 1 4) both 0 (at_source 0 ∷ []) (arrival 1 1 0 1) (tree_alone (parallel 1 4) both 0) (record { before = omega arith; known = omega arith; present = refl; from = refl; to = refl })) refl

pub returns-clause-by_absent : goal.returns-clause-by_absent
returns-clause-by_absent c = λ r. (let h = (r.tree.led 1 (omega arith) (omega arith)).present in cc)
