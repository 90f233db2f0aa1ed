use Rattle.std.proofs.Common.{◌≡◌, ℕ, true, false, [], ◌∷◌, pos, subst}
use Rattle.mono_graph.specs.Digraph.{present}
use Rattle.mono_graph.specs.Worked.{round_trip}
use Rattle.mono_theory.specs.SureParts.{sure_parts}
use Rattle.mono_search_rows.specs.Worked.{having_seen}
use Rattle.mono_search_rows.proofs.worked_orders.edges_with_a_cycle.Goals as goal

pub returns-clause-too_few_edges : goal.returns-clause-too_few_edges
returns-clause-too_few_edges c = λ closing at items h.
    let e : false ≡ true = subst (λ (n : ℕ). false ≡ present (sure_parts (having_seen (round_trip 1 1) (pos 1 ∷ pos 2 ∷ [])) n) 0) at (h.ordered.part 0) in
    cc
