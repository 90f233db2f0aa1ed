use Rattle.std.proofs.Common.{◌≡◌, ℕ, zero, suc, ◌<◌, [], ◌∷◌, get_or, refl, sym, arith, pos}
use Rattle.mono_graph.specs.declared.limit.Limit.TheVariants as limit
use Rattle.mono_dynamic.specs.declared.cost_source.CostSource.{CostSource}
use Rattle.mono_dynamic.specs.LeastRows.{cost_slot}
use Rattle.mono_dynamic.specs.Worked.{walks_from}
use Rattle.mono_dynamic.proofs.worked.sources_apart.Goals as goal

pair_apart : (s t : CostSource) → (cost_slot s ≡ cost_slot t → ⊥) → (i j : ℕ) (d e : CostSource) → i < 2 → j < 2
    → cost_slot (get_or (s ∷ t ∷ []) i d) ≡ cost_slot (get_or (s ∷ t ∷ []) j e) → i ≡ j
pair_apart s t differ zero zero d e i_low j_low same = refl
pair_apart s t differ zero (suc zero) d e i_low j_low same = absurd (differ same)
pair_apart s t differ (suc zero) zero d e i_low j_low same = absurd (differ (sym same))
pair_apart s t differ (suc zero) (suc zero) d e i_low j_low same = refl
pair_apart s t differ (suc (suc i)) j d e i_low j_low same = absurd (omega arith)
pair_apart s t differ i (suc (suc j)) d e i_low j_low same = absurd (omega arith)

pub returns-clause-alone : goal.returns-clause-alone
returns-clause-alone c = record { same = λ i j d e i_low j_low same. omega (arith, i_low, j_low) }

pub returns-clause-by_node : goal.returns-clause-by_node
returns-clause-by_node c = record {
  same = pair_apart (walks_from 0 limit.Free 1) (walks_from 1 limit.Free 1) (λ same. (let e : 0 ≡ 3 = same in omega (arith, e)));
}

pub returns-clause-by_measure : goal.returns-clause-by_measure
returns-clause-by_measure c = record {
  same = pair_apart (walks_from 0 (limit.Steps (pos 5)) 6) (walks_from 0 (limit.Weight (pos 5)) 6) (λ same. (let e : 1 ≡ 2 = same in omega (arith, e)));
}

pub returns-clause-by_bound_alone : goal.returns-clause-by_bound_alone
returns-clause-by_bound_alone c = λ r. (let none = walks_from 0 limit.Free 0 in let e : 0 ≡ 1 = r.same 0 1 none none (omega arith) (omega arith) refl in omega (arith, e))

pub returns-clause-twice : goal.returns-clause-twice
returns-clause-twice c = λ r. (let none = walks_from 0 limit.Free 0 in let e : 0 ≡ 2 = r.same 0 2 none none (omega arith) (omega arith) refl in omega (arith, e))
