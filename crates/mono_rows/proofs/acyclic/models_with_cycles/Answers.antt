use Rattle.std.proofs.Common.{[], ◌∷◌, true, false, refl, arith, inl, inr}
use Rattle.std.proofs.lemmas.List.Elements.{All-cons, All-nil}
use Rattle.mono_base.specs.Literal.{value_in}
use Rattle.mono_problem.specs.declared.atom.Atom.{Atom}
use Rattle.mono_graph.specs.Worked.{round_trip}
use Rattle.mono_graph.proofs.RisingRanks.{order_acyclic}
use Rattle.mono_check.specs.Atoms.{IsRight}
use Rattle.mono_rows.specs.Cyclic.{there_and_back}
use Rattle.mono_rows.specs.SmallCycles.{has_no_cycle}
use Rattle.mono_rows.proofs.acyclic.models_with_cycles.Goals as goal

-- that there is no cycle: variable 2
abbrev says_2 : Atom
says_2 = record has_no_cycle { var = 2 }

pub returns-clause-cycle : goal.returns-clause-cycle
returns-clause-cycle c = All-cons (IsRight (there_and_back []) (value_in (true ∷ true ∷ false ∷ []))) has_no_cycle [] (λ on. absurd cc, λ acyclic. absurd (acyclic 0 (0 ∷ 1 ∷ []) (omega arith) refl)) (All-nil (IsRight (there_and_back []) (value_in (true ∷ true ∷ false ∷ []))))

pub returns-clause-no_cycle : goal.returns-clause-no_cycle
returns-clause-no_cycle c = All-cons (IsRight (there_and_back []) (value_in (true ∷ false ∷ true ∷ []))) has_no_cycle [] (λ on. order_acyclic (round_trip 1 1) (true ∷ false ∷ []) (0 ∷ 1 ∷ []) refl, λ acyclic. refl) (All-nil (IsRight (there_and_back []) (value_in (true ∷ false ∷ true ∷ []))))

pub returns-clause-true_beside_a_cycle : goal.returns-clause-true_beside_a_cycle
returns-clause-true_beside_a_cycle c = (refl, record { low = omega arith; high = omega arith; before = λ k d lt. absurd (omega (arith, lt)); wrong = inl (refl, λ acyclic. acyclic 0 (0 ∷ 1 ∷ []) (omega arith) refl) })

pub returns-clause-false_without : goal.returns-clause-false_without
returns-clause-false_without c = (refl, record { low = omega arith; high = omega arith; before = λ k d lt. absurd (omega (arith, lt)); wrong = inr (refl, order_acyclic (round_trip 1 1) (false ∷ true ∷ []) (1 ∷ 0 ∷ []) refl) })

pub returns-clause-no_model : goal.returns-clause-no_model
returns-clause-no_model c = λ a. (a 0 has_no_cycle (omega arith)).0 refl 0 (0 ∷ 1 ∷ []) (omega arith) refl

pub returns-clause-self_loop : goal.returns-clause-self_loop
returns-clause-self_loop c = λ a. (a 0 says_2 (omega arith)).0 refl 0 (0 ∷ []) (omega arith) refl

pub returns-clause-no_second_predicate : goal.returns-clause-no_second_predicate
returns-clause-no_second_predicate c = λ v. let high = v.1.high in omega (arith, high)
