use Rattle.std.proofs.Common.{ℕ, List, ◌∷◌, [], refl, sym, subst}
use Rattle.std.specs.Prelude.{IsTrue}
use Rattle.std.proofs.lemmas.Bool.{both_ways}
use Rattle.mono_graph.specs.Cycles.{is_cycle, is_order}
use Rattle.mono_graph.specs.Worked.{both, last_alone, round_trip}
use Rattle.mono_rows.proofs.cycles.found_cycles_and_orders.Goals as goal

abbrev Cycles : List ℕ → Type 0
Cycles ks = IsTrue (is_cycle (round_trip 2 3) both ks)

pub returns-clause-cycle : goal.returns-clause-cycle
returns-clause-cycle c = λ edges is. subst Cycles (sym is) refl

pub returns-clause-not_closed : goal.returns-clause-not_closed
returns-clause-not_closed c = λ edges is passes. both_ways (is_cycle (round_trip 2 3) both (0 ∷ [])) refl (subst Cycles is passes)

pub returns-clause-order : goal.returns-clause-order
returns-clause-order c = λ nodes is. subst (λ (ns : List ℕ). IsTrue (is_order (round_trip 2 3) last_alone ns)) (sym is) refl

pub returns-clause-against_an_edge : goal.returns-clause-against_an_edge
returns-clause-against_an_edge c = λ nodes is passes. both_ways (is_order (round_trip 2 3) both (0 ∷ 1 ∷ [])) refl (subst (λ (ns : List ℕ). IsTrue (is_order (round_trip 2 3) both ns)) is passes)
