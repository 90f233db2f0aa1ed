use Rattle.std.proofs.Common.{◌≡◌, ℕ, zero, suc, ◌<◌, true, false, [], ◌∷◌, get_or, refl, subst, inl, inr, arith, ℤ, pos}
use Rattle.std.specs.Prelude.{IsTrue}
use Rattle.mono_base.specs.Literal.{var_of}
use Rattle.mono_base.specs.Partial.{is_true_in}
use Rattle.mono_graph.specs.Worked.{both, first_alone, parallel}
use Rattle.mono_graph.specs.Cycles.{IsAcyclic}
use Rattle.mono_graph.proofs.RisingRanks.{order_acyclic}
use Rattle.mono_problem.specs.Quiet.{TheoryQuiet}
use Rattle.mono_problem.specs.Read.{no_atom}
use Rattle.mono_steps.specs.WorkedLemmas.{minus}
use Rattle.mono_theory.specs.Theories.{concerns_of}
use Rattle.mono_theory.specs.Worked.{walk_along}
use Rattle.mono_theory.proofs.ForcedAndExplained.{finding_by}
use Rattle.mono_search_rows.specs.Worked.{reaches_without_cycles}
use Rattle.mono_search_rows.proofs.NoWalks.{no_walk}
use Rattle.mono_search_rows.proofs.worked_answers.what_theories_find_of_two_atoms.Goals as goal

no_cycle : IsAcyclic (parallel 1 1) both
no_cycle = order_acyclic (parallel 1 1) both (0 ∷ 1 ∷ []) refl

no_cycle_by_one : IsAcyclic (parallel 1 1) first_alone
no_cycle_by_one = order_acyclic (parallel 1 1) first_alone (0 ∷ 1 ∷ []) refl

all_true : TheoryQuiet (parallel 1 1) reaches_without_cycles (pos 1 ∷ pos 3 ∷ pos 4 ∷ [])
all_true zero d lt = (λ holds. refl, λ unset. (0 ∷ [], refl))
all_true (suc zero) d lt = (λ holds. refl, λ unset. no_cycle_by_one)
all_true (suc (suc i)) d lt = absurd (omega (arith, lt))

their_vars : (i : ℕ) (d : ℤ) → i < 2 → IsTrue (concerns_of (parallel 1 1) reaches_without_cycles (var_of (get_or (walk_along 1).clause i d)))
their_vars zero d lt = refl
their_vars (suc zero) d lt = refl
their_vars (suc (suc i)) d lt = absurd (omega (arith, lt))

pub returns-clause-quiet : goal.returns-clause-quiet
returns-clause-quiet c = all_true

pub returns-clause-first_owes : goal.returns-clause-first_owes
returns-clause-first_owes c = λ h. let e : false ≡ true = (h 0 no_atom (omega arith)).0 (0 ∷ [], refl) in cc

pub returns-clause-second_owes : goal.returns-clause-second_owes
returns-clause-second_owes c = λ h. let e : false ≡ true = (h 1 no_atom (omega arith)).0 no_cycle in cc

pub returns-clause-lemma_of_one : goal.returns-clause-lemma_of_one
returns-clause-lemma_of_one c =
    finding_by (parallel 1 1) reaches_without_cycles (pos 1 ∷ pos 4 ∷ []) 1 (pos 3) (walk_along 1) 2 refl (record { forces = inl (refl, (0 ∷ [], refl)); not_yet = refl }) refl
    (record { number = refl; shown = refl; concerned = their_vars; has = refl; others = refl })

pub returns-clause-true_literal : goal.returns-clause-true_literal
returns-clause-true_literal c = λ h. let e : true ≡ false = h.none_true (minus 2) refl in cc

-- its literal is false, and no edge is surely present
pub returns-clause-of_a_quiet_atom : goal.returns-clause-of_a_quiet_atom
returns-clause-of_a_quiet_atom c = λ h. elim h.forced.forces [
  | inl walk ↦ no_walk walk.1
  | inr cut ↦ let e : true ≡ false = subst (λ (l : ℤ). is_true_in (minus 3 ∷ []) l ≡ false) cut.0 h.forced.not_yet in cc
]
