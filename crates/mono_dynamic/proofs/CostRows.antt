-- Least costs over parallel edges.
use Rattle.std.proofs.Common.{◌≡◌, ℕ, zero, suc, ◌<◌, Bool, List, [], ◌∷◌, refl, arith, pos}
use Rattle.std.specs.Prelude.{IsTrue, nat_le, not, ◌&&◌, ◌+◌}
use Rattle.std.specs.List.{list_all}
use Rattle.mono_graph.specs.declared.limit.Limit.{Limit}
use Rattle.mono_graph.specs.declared.limit.Limit.TheVariants.{Steps, Weight}
use Rattle.mono_graph.specs.Digraph.{edge_at, places, present}
use Rattle.mono_graph.specs.Walks.{cost_along, cost_of, is_walk}
use Rattle.mono_graph.specs.Worked.{parallel, both, last_alone, neither}
use Rattle.mono_dynamic.specs.Costs.{label_of, AreLeast}
use Rattle.mono_dynamic.proofs.Rows.{least_by_test}

-- the label of the second node is least where each edge is tight, and an edge leads there at that cost
least_label : (P : List Bool) (limit : Limit) (cap label : ℕ) → IsTrue (list_all (λ l. nat_le l cap) (0 ∷ label ∷ []))
    → IsTrue (list_all (λ k. not (present P k && not (nat_le (label_of (0 ∷ label ∷ []) (edge_at (parallel 1 4) k).to) (label_of (0 ∷ label ∷ []) (edge_at (parallel 1 4) k).from + cost_of limit (edge_at (parallel 1 4) k))))) (places (parallel 1 4)))
    → (label < cap → (ks : List ℕ) × IsTrue (is_walk (parallel 1 4) P 0 1 ks) × (cost_along limit (parallel 1 4) ks ≡ label))
    → AreLeast (parallel 1 4) P limit 0 cap (0 ∷ label ∷ [])
least_label P limit cap label most tight way = least_by_test (parallel 1 4) P limit 0 cap (0 ∷ label ∷ []) refl most refl tight (record { walk = walk })
  where
    walk : (v : ℕ) → v < 2 → label_of (0 ∷ label ∷ []) v < cap → (ks : List ℕ) × IsTrue (is_walk (parallel 1 4) P 0 v ks) × (cost_along limit (parallel 1 4) ks ≡ label_of (0 ∷ label ∷ []) v)
    walk zero lt below = ([], refl, refl)
    walk (suc zero) lt below = way below
    walk (suc (suc v)) lt below = absurd (omega arith)

pub least_both : AreLeast (parallel 1 4) both (Weight (pos 9)) 0 10 (0 ∷ 1 ∷ [])
least_both = least_label both (Weight (pos 9)) 10 1 refl refl (λ below. (0 ∷ [], refl, refl))

pub least_last : AreLeast (parallel 1 4) last_alone (Weight (pos 9)) 0 10 (0 ∷ 4 ∷ [])
least_last = least_label last_alone (Weight (pos 9)) 10 4 refl refl (λ below. (1 ∷ [], refl, refl))

pub least_steps : AreLeast (parallel 1 4) last_alone (Steps (pos 9)) 0 10 (0 ∷ 1 ∷ [])
least_steps = least_label last_alone (Steps (pos 9)) 10 1 refl refl (λ below. (1 ∷ [], refl, refl))

pub least_capped : AreLeast (parallel 1 4) last_alone (Weight (pos 2)) 0 3 (0 ∷ 3 ∷ [])
least_capped = least_label last_alone (Weight (pos 2)) 3 3 refl refl (λ below. absurd (omega arith))

pub least_none : AreLeast (parallel 1 4) neither (Weight (pos 9)) 0 10 (0 ∷ 10 ∷ [])
least_none = least_label neither (Weight (pos 9)) 10 10 refl refl (λ below. absurd (omega arith))
