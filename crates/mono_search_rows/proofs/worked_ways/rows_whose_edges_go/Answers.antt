use Rattle.std.proofs.Common.{◌≡◌, ℕ, zero, suc, ◌≤◌, true, false, [], ◌∷◌, refl, arith, None}
use Rattle.std.specs.Prelude.{IsTrue}
use Rattle.mono_graph.specs.Digraph.{has, present}
use Rattle.mono_graph.specs.Worked.{both, last_alone, parallel}
use Rattle.mono_dynamic.specs.Arrivals.{at_source, IsTree}
use Rattle.mono_dynamic.specs.Targets.{AreTold}
use Rattle.mono_dynamic.specs.Worked.{arrival, first_goes, known_by, with_way}
use Rattle.mono_dynamic.proofs.WaysRows.{tree_first, priced_first}
use Rattle.mono_search_rows.proofs.worked_ways.rows_whose_edges_go.Goals as goal

at_first : (m : ℕ) → m ≤ 0 → IsTree (parallel 1 4) (first_goes m) 0 (at_source 0 ∷ arrival 1 0 0 0 ∷ [])
at_first zero le = tree_first
at_first (suc m) le = absurd (omega (arith, le))

told : AreTold (parallel 1 4) first_goes 0 (known_by (with_way 0 1) None None)
told = record { tree = λ m le before. at_first m le; priced = priced_first; past = tt; early = tt; lacking = tt }

stays : (k : ℕ) → IsTrue (present both k) → has (0 ∷ []) k ≡ false → IsTrue (present last_alone k)
stays zero here none = absurd cc
stays (suc zero) here none = refl
stays (suc (suc k)) here none = absurd cc

pub returns-clause-not_lost : goal.returns-clause-not_lost
returns-clause-not_lost c = λ h.
    let later = h.told first_goes 0 (omega arith) (record { each = stays }) told in
    let e : false ≡ true = ((later.tree 1 (omega arith) tt).led 1 (omega arith) (omega arith)).present in
    cc
