use Rattle.std.proofs.Common.{ℕ, ◌≡◌, zero, suc, ◌<◌, ◌≤◌, [], ◌∷◌, refl, arith, pos}
use Rattle.std.proofs.lemmas.List.Elements.{All-cons, All-nil}
use Rattle.mono_graph.specs.declared.limit.Limit.TheVariants.{Weight}
use Rattle.mono_graph.specs.Worked.{parallel}
use Rattle.mono_dynamic.specs.declared.change.Change.{Change}
use Rattle.mono_dynamic.specs.Costs.{Costs, AreLeast, IsLed, change_at, label_of, unwound, labels_after}
use Rattle.mono_dynamic.specs.Worked.{change, last_first, lowered_twice}
use Rattle.mono_dynamic.proofs.CostRows.{least_both, least_last, least_none}
use Rattle.mono_dynamic.proofs.worked.least_costs_step_by_step.Goals as goal

twice : Costs
twice = lowered_twice

each : (m : ℕ) → m ≤ 2 → AreLeast (parallel 1 4) (last_first m) (Weight (pos 9)) 0 10 (labels_after m twice)
unfolding twice
each zero le = least_none
each (suc zero) le = least_last
each (suc (suc zero)) le = least_both
each (suc (suc (suc m))) le = absurd (omega arith)

led : (m i : ℕ) → m ≤ 2 → i < 2 → (change_at twice.changes i).stamp ≤ m → IsLed (parallel 1 4) (last_first m) (Weight (pos 9)) 0 twice.changes i
unfolding twice
led zero zero le lt early = absurd (omega arith)
led (suc zero) zero le lt early = record { before = omega arith; known = omega arith; present = refl; from = refl; to = refl; label = refl }
led (suc (suc m)) zero le lt early = record { before = omega arith; known = omega arith; present = refl; from = refl; to = refl; label = refl }
led zero (suc zero) le lt early = absurd (omega arith)
led (suc zero) (suc zero) le lt early = absurd (omega arith)
led (suc (suc m)) (suc zero) le lt early = record { before = omega arith; known = omega arith; present = refl; from = refl; to = refl; label = refl }
led m (suc (suc i)) le lt early = absurd (omega arith)

alone : (v : ℕ) → v < 2 → label_of (unwound twice.labels twice.changes) v < 10 → v ≡ 0
unfolding twice
alone zero lt low = refl
alone (suc zero) lt low = absurd (omega arith)
alone (suc (suc v)) lt low = absurd (omega arith)

pub returns-clause-falls : goal.returns-clause-falls
unfolding twice
returns-clause-falls c = record {
  each = each;
  latest =
      let P : Change → Type 0 = λ x. x.stamp ≤ 2 in
      All-cons P (change 1 1 0 10 4 1) (change 1 0 1 4 1 2 ∷ []) (omega arith) (All-cons P (change 1 0 1 4 1 2) [] (omega arith) (All-nil P));
  source = record { alone = alone };
  led = led;
}

pub returns-clause-by_another_edge : goal.returns-clause-by_another_edge
returns-clause-by_another_edge c = λ r. (let h = (r.led 1 0 (omega arith) (omega arith) (omega arith)).present in cc)

pub returns-clause-too_late : goal.returns-clause-too_late
returns-clause-too_late c = λ r. (let h : 10 ≤ 4 = (r.each 1 (omega arith)).least 1 (1 ∷ []) refl in omega arith)
