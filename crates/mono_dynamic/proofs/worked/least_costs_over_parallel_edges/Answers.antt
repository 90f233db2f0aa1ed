use Rattle.std.proofs.Common.{◌≡◌, ℕ, zero, suc, ◌+◌, ◌<◌, ◌≤◌, true, [], ◌∷◌, List, refl, arith, pos}
use Rattle.std.specs.Prelude.{IsTrue}
use Rattle.std.specs.List.{list_all}
use Rattle.std.proofs.lemmas.List.Sums.{sum_by-cons}
use Rattle.mono_graph.specs.declared.limit.Limit.TheVariants.{Weight}
use Rattle.mono_graph.specs.Digraph.{edge_at, present}
use Rattle.mono_graph.specs.Walks.{is_walk, leads, cost_of, cost_along}
use Rattle.mono_graph.specs.Worked.{parallel, round_trip, looped, both, last_alone}
use Rattle.mono_dynamic.specs.Costs.{label_of}
use Rattle.mono_graph.proofs.GrownWalks.{walks}
use Rattle.mono_dynamic.proofs.Rows.{least_by_test}
use Rattle.mono_dynamic.proofs.CostRows.{least_both, least_last, least_steps, least_capped}
use Rattle.mono_dynamic.proofs.worked.least_costs_over_parallel_edges.Goals as goal

pub returns-clause-both : goal.returns-clause-both
returns-clause-both c = least_both

pub returns-clause-last : goal.returns-clause-last
returns-clause-last c = least_last

pub returns-clause-steps : goal.returns-clause-steps
returns-clause-steps c = least_steps

pub returns-clause-capped : goal.returns-clause-capped
returns-clause-capped c = least_capped

pub returns-clause-not_lowered : goal.returns-clause-not_lowered
returns-clause-not_lowered c = λ r. (let h : 4 ≤ 1 = r.least 1 (0 ∷ []) refl in omega arith)

pub returns-clause-above_cap : goal.returns-clause-above_cap
returns-clause-above_cap c = λ r. (let h : 4 ≤ 3 = r.most 1 in omega arith)

-- a walk over the last edge alone costs more than 1
dear : (ks : List ℕ) → IsTrue (list_all (present last_alone) ks) → IsTrue (leads (parallel 1 4) 0 ks 1) → cost_along (Weight (pos 9)) (parallel 1 4) ks ≡ 1 → ⊥
dear [] here way cost = cc
dear (zero ∷ ks) here way cost = cc
dear (suc zero ∷ ks) here way cost =
    let sums : cost_along (Weight (pos 9)) (parallel 1 4) (1 ∷ ks) ≡ 4 + cost_along (Weight (pos 9)) (parallel 1 4) ks = sum_by-cons (λ k. cost_of (Weight (pos 9)) (edge_at (parallel 1 4) k)) 1 ks in
    omega (arith, sums, cost)
dear (suc (suc k) ∷ ks) here way cost = cc

pub returns-clause-too_low : goal.returns-clause-too_low
returns-clause-too_low c = λ r.
    let w = r.attained.walk 1 (omega arith) (omega arith) in
    let x = walks (parallel 1 4) last_alone 0 1 w.0 w.1 in
    dear w.0 x.here x.way w.2

pub returns-clause-to_itself : goal.returns-clause-to_itself
returns-clause-to_itself c = least_by_test looped (true ∷ []) (Weight (pos 9)) 0 10 (0 ∷ []) refl refl refl refl (record { walk = walk })
  where
    walk : (v : ℕ) → v < 1 → label_of (0 ∷ []) v < 10 → (ks : List ℕ) × IsTrue (is_walk looped (true ∷ []) 0 v ks) × (cost_along (Weight (pos 9)) looped ks ≡ label_of (0 ∷ []) v)
    walk zero lt below = ([], refl, refl)
    walk (suc v) lt below = absurd (omega arith)

pub returns-clause-cycle : goal.returns-clause-cycle
returns-clause-cycle c = least_by_test (round_trip 2 3) both (Weight (pos 9)) 0 10 (0 ∷ 2 ∷ []) refl refl refl refl (record { walk = walk })
  where
    walk : (v : ℕ) → v < 2 → label_of (0 ∷ 2 ∷ []) v < 10 → (ks : List ℕ) × IsTrue (is_walk (round_trip 2 3) both 0 v ks) × (cost_along (Weight (pos 9)) (round_trip 2 3) ks ≡ label_of (0 ∷ 2 ∷ []) v)
    walk zero lt below = ([], refl, refl)
    walk (suc zero) lt below = (0 ∷ [], refl, refl)
    walk (suc (suc v)) lt below = absurd (omega arith)
