use Rattle.std.proofs.Common.{[], ◌∷◌, refl, inl, inr, pos}
use Rattle.mono_graph.specs.Worked.{round_trip}
use Rattle.mono_graph.proofs.RisingRanks.{order_acyclic, cycle_cyclic}
use Rattle.mono_problem.specs.Quiet.{under, over}
use Rattle.mono_problem.specs.Worked.{minus}
use Rattle.mono_rows.proofs.falling.literals_forced_by_cycles.Goals as goal

pub returns-clause-by_order : goal.returns-clause-by_order
returns-clause-by_order c = inl (refl, order_acyclic (round_trip 2 3) (over (round_trip 2 3) (minus 2 ∷ [])) (0 ∷ 1 ∷ []) refl)

pub returns-clause-by_cycle : goal.returns-clause-by_cycle
returns-clause-by_cycle c = inr (refl, cycle_cyclic (round_trip 2 3) (under (round_trip 2 3) (pos 1 ∷ pos 2 ∷ [])) (0 ∷ 1 ∷ []) refl)

pub returns-clause-cycle_is_possible : goal.returns-clause-cycle_is_possible
returns-clause-cycle_is_possible c = λ f. elim f [
  | inl holds ↦ cycle_cyclic (round_trip 2 3) (over (round_trip 2 3) (pos 1 ∷ [])) (0 ∷ 1 ∷ []) refl holds.1
  | inr fails ↦ (let e = fails.0 in cc)
]

pub returns-clause-cycle_is_not_sure : goal.returns-clause-cycle_is_not_sure
returns-clause-cycle_is_not_sure c = λ f. elim f [
  | inl holds ↦ (let e = holds.0 in cc)
  | inr fails ↦ fails.1 (order_acyclic (round_trip 2 3) (under (round_trip 2 3) (pos 1 ∷ [])) (0 ∷ 1 ∷ []) refl)
]

pub returns-clause-quiet : goal.returns-clause-quiet
returns-clause-quiet c = (
  λ holds. absurd (cycle_cyclic (round_trip 2 3) (over (round_trip 2 3) (pos 1 ∷ [])) (0 ∷ 1 ∷ []) refl holds),
  λ open_yet. order_acyclic (round_trip 2 3) (under (round_trip 2 3) (pos 1 ∷ [])) (0 ∷ 1 ∷ []) refl,
)

pub returns-clause-quiet_once_true : goal.returns-clause-quiet_once_true
returns-clause-quiet_once_true c = (λ holds. refl, λ open_yet. order_acyclic (round_trip 2 3) (under (round_trip 2 3) (minus 2 ∷ pos 3 ∷ [])) (0 ∷ 1 ∷ []) refl)

pub returns-clause-quiet_once_false : goal.returns-clause-quiet_once_false
returns-clause-quiet_once_false c = (λ holds. absurd (cycle_cyclic (round_trip 2 3) (over (round_trip 2 3) (pos 1 ∷ pos 2 ∷ minus 3 ∷ [])) (0 ∷ 1 ∷ []) refl holds), λ open_yet. absurd cc)

pub returns-clause-not_yet_true : goal.returns-clause-not_yet_true
returns-clause-not_yet_true c = λ q. let e = q.0 (order_acyclic (round_trip 2 3) (over (round_trip 2 3) (minus 2 ∷ [])) (0 ∷ 1 ∷ []) refl) in cc

pub returns-clause-not_yet_false : goal.returns-clause-not_yet_false
returns-clause-not_yet_false c = λ q. cycle_cyclic (round_trip 2 3) (under (round_trip 2 3) (pos 1 ∷ pos 2 ∷ [])) (0 ∷ 1 ∷ []) refl (q.1 refl)
