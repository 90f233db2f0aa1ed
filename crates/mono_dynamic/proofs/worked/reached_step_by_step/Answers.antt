use Rattle.std.proofs.Common.{ℕ, zero, suc, ◌≤◌, [], ◌∷◌, refl, arith}
use Rattle.std.specs.Prelude.{All}
use Rattle.std.proofs.lemmas.List.Elements.{All-cons, All-nil}
use Rattle.mono_graph.specs.Worked.{pipe, both, first_alone, neither}
use Rattle.mono_dynamic.specs.declared.arrival.Arrival.{Arrival}
use Rattle.mono_dynamic.specs.Arrivals.{at_source, within, AreReached}
use Rattle.mono_dynamic.specs.Worked.{arrival, one_by_one, at_once}
use Rattle.mono_dynamic.proofs.Followed.{tree_push}
use Rattle.mono_dynamic.proofs.Rows.{reached_by_test, tree_alone}
use Rattle.mono_dynamic.proofs.worked.reached_step_by_step.Goals as goal

none_reached : AreReached (pipe 1 1) neither 0 (at_source 0 ∷ [])
none_reached = reached_by_test (pipe 1 1) neither 0 (at_source 0 ∷ []) (tree_alone (pipe 1 1) neither 0) refl

one_reached : AreReached (pipe 1 1) first_alone 0 (at_source 0 ∷ arrival 1 0 0 1 ∷ [])
one_reached = reached_by_test (pipe 1 1) first_alone 0 (at_source 0 ∷ arrival 1 0 0 1 ∷ [])
    (tree_push (pipe 1 1) first_alone 0 (at_source 0 ∷ []) (arrival 1 0 0 1) (tree_alone (pipe 1 1) first_alone 0) (record { before = omega arith; known = omega arith; present = refl; from = refl; to = refl })) refl

two_reached : (stamp : ℕ) → AreReached (pipe 1 1) both 0 (at_source 0 ∷ arrival 1 0 0 1 ∷ arrival 2 1 1 stamp ∷ [])
two_reached stamp = reached_by_test (pipe 1 1) both 0 (at_source 0 ∷ arrival 1 0 0 1 ∷ arrival 2 1 1 stamp ∷ [])
    (tree_push (pipe 1 1) both 0 (at_source 0 ∷ arrival 1 0 0 1 ∷ []) (arrival 2 1 1 stamp)
    (tree_push (pipe 1 1) both 0 (at_source 0 ∷ []) (arrival 1 0 0 1) (tree_alone (pipe 1 1) both 0) (record { before = omega arith; known = omega arith; present = refl; from = refl; to = refl }))
    (record { before = omega arith; known = omega arith; present = refl; from = refl; to = refl })) refl

each_by_one : (m : ℕ) → m ≤ 2 → AreReached (pipe 1 1) (one_by_one m) 0 (within m (at_source 0 ∷ arrival 1 0 0 1 ∷ arrival 2 1 1 2 ∷ []))
each_by_one zero le = none_reached
each_by_one (suc zero) le = one_reached
each_by_one (suc (suc zero)) le = two_reached 2
each_by_one (suc (suc (suc m))) le = absurd (omega arith)

each_at_once : (m : ℕ) → m ≤ 1 → AreReached (pipe 1 1) (at_once m) 0 (within m (at_source 0 ∷ arrival 1 0 0 1 ∷ arrival 2 1 1 1 ∷ []))
each_at_once zero le = none_reached
each_at_once (suc zero) le = two_reached 1
each_at_once (suc (suc m)) le = absurd (omega arith)

stamps : (m s t : ℕ) → s ≤ m → t ≤ m → All (λ (a : Arrival). a.stamp ≤ m) (at_source 0 ∷ arrival 1 0 0 s ∷ arrival 2 1 1 t ∷ [])
stamps m s t a b =
    let P : Arrival → Type 0 = λ x. x.stamp ≤ m in
    All-cons P (at_source 0) (arrival 1 0 0 s ∷ arrival 2 1 1 t ∷ []) (omega arith) (All-cons P (arrival 1 0 0 s) (arrival 2 1 1 t ∷ []) a (All-cons P (arrival 2 1 1 t) [] b (All-nil P)))

pub returns-clause-one_by_one : goal.returns-clause-one_by_one
returns-clause-one_by_one c = record { each = each_by_one; latest = stamps 2 1 2 (omega arith) (omega arith) }

pub returns-clause-too_late : goal.returns-clause-too_late
returns-clause-too_late c = λ r. (let h = ((r.each 1 (omega arith)).exact 1).1 (0 ∷ [], refl) in cc)

pub returns-clause-too_early : goal.returns-clause-too_early
returns-clause-too_early c = λ r. (let h = ((r.each 1 (omega arith)).tree.led 2 (omega arith) (omega arith)).present in cc)

pub returns-clause-at_once : goal.returns-clause-at_once
returns-clause-at_once c = record { each = each_at_once; latest = stamps 1 1 1 (omega arith) (omega arith) }

pub returns-clause-not_yet : goal.returns-clause-not_yet
returns-clause-not_yet c = λ r. (let h = r.latest 2 (at_source 0) (omega arith) in omega (arith, h))
