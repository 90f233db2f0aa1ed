-- Worked rows of lemmas, and small states of sides that the rows of theories share.
use Rattle.std.proofs.Common.{◌≡◌, ℕ, length, zero, suc, ◌<◌, true, [], ◌∷◌, get_or, refl, inl, arith, ℤ, pos}
use Rattle.std.specs.Prelude.{IsTrue}
use Rattle.std.proofs.lemmas.Bool.{and_parts}
use Rattle.mono_base.specs.Literal.{var_of}
use Rattle.mono_graph.specs.Worked.{parallel}
use Rattle.mono_graph.specs.Walks.{is_walk}
use Rattle.mono_graph.proofs.CutsBoundWalks.{cut_excludes}
use Rattle.mono_dynamic.specs.Targets.{Targets, is_settled, targets_at}
use Rattle.mono_problem.specs.declared.atom.Predicate.TheVariants as kind
use Rattle.mono_problem.specs.Holds.{Holds}
use Rattle.mono_problem.specs.Quiet.{TheoryQuiet, under}
use Rattle.mono_steps.specs.declared.lemma.Witness.TheVariants as by
use Rattle.mono_steps.specs.WorkedLemmas.{minus, of_1}
use Rattle.mono_theory.specs.declared.stage.Stage.{Stage}
use Rattle.mono_theory.specs.declared.stage.Stage.TheVariants as stage
use Rattle.mono_theory.specs.Stages.{NoneWaits}
use Rattle.mono_theory.specs.Theories.{IsForced, IsLemmaFor, IsLemmaOf, IsUnitLemma, concerns_of}
use Rattle.mono_theory.specs.Worked.{reaches, walk_along}
use Rattle.mono_theory.proofs.ForcedAndExplained.{finding_by, forced_is_loud}

their_vars : (i : ℕ) (d : ℤ) → i < 2 → IsTrue (concerns_of (parallel 1 1) reaches (var_of (get_or (walk_along 1).clause i d)))
their_vars zero d lt = refl
their_vars (suc zero) d lt = refl
their_vars (suc (suc i)) d lt = absurd (omega (arith, lt))

pub walk_explains : IsLemmaOf (parallel 1 1) reaches (pos 1 ∷ []) 1 (pos 3) (walk_along 1)
walk_explains = record { number = refl; shown = refl; concerned = their_vars; has = refl; others = refl }

pub walk_forces : IsForced (parallel 1 1) reaches (pos 1 ∷ []) 1 (pos 3)
walk_forces = record { forces = inl (refl, (0 ∷ [], refl)); not_yet = refl }

pub walk_is_found : IsLemmaFor (parallel 1 1) reaches (pos 1 ∷ []) (walk_along 1)
walk_is_found = finding_by (parallel 1 1) reaches (pos 1 ∷ []) 1 (pos 3) (walk_along 1) 1 refl walk_forces refl walk_explains

-- no edge is surely present where no variable of an edge is true
not_reached : Holds (parallel 1 1) (under (parallel 1 1) (minus 3 ∷ [])) (kind.Reach 0 1) → ⊥
not_reached h =
    let P = under (parallel 1 1) (minus 3 ∷ []) in
    cut_excludes (parallel 1 1) P 0 1 (0 ∷ []) h.0 refl (and_parts (is_walk (parallel 1 1) P 0 1 h.0) true h.1).0

quiet : TheoryQuiet (parallel 1 1) reaches (minus 3 ∷ [])
quiet zero d lt = (λ holds. absurd (not_reached holds), λ e. absurd cc)
quiet (suc i) d lt = absurd (omega (arith, lt))

pub none_while_quiet : IsLemmaFor (parallel 1 1) reaches (minus 3 ∷ []) (walk_along 1) → ⊥
none_while_quiet h = forced_is_loud (parallel 1 1) reaches (minus 3 ∷ []) 1 h.lit h.forced quiet

pub none_of_another_variable : IsLemmaFor (parallel 1 1) reaches (pos 1 ∷ minus 9 ∷ []) (of_1 (minus 1 ∷ pos 3 ∷ pos 9 ∷ []) (by.Path (1 ∷ []))) → ⊥
none_of_another_variable h = let e = h.concerned 2 (pos 0) (omega arith) in absurd cc

pub none_beside : IsLemmaOf (parallel 1 1) reaches (pos 1 ∷ minus 9 ∷ []) 1 (pos 3) (of_1 (minus 1 ∷ pos 3 ∷ pos 9 ∷ []) (by.Path (1 ∷ []))) → ⊥
none_beside h = let e = h.concerned 2 (pos 0) (omega arith) in absurd cc

pub unit_by_edge : IsUnitLemma (parallel 1 1) reaches (minus 3 ∷ []) (minus 1) (walk_along 1)
unit_by_edge = record { shown = refl; concerned = their_vars; has = refl; is_open = refl; others = refl }

pub unit_by_atom : IsUnitLemma (parallel 1 1) reaches (pos 1 ∷ []) (pos 3) (walk_along 1)
unit_by_atom = record { shown = refl; concerned = their_vars; has = refl; is_open = refl; others = refl }

pub no_unit_beside : IsUnitLemma (parallel 1 1) reaches (minus 3 ∷ minus 9 ∷ []) (minus 1) (of_1 (minus 1 ∷ pos 3 ∷ pos 9 ∷ []) (by.Path (1 ∷ []))) → ⊥
no_unit_beside h = let e = h.concerned 2 (pos 0) (omega arith) in absurd cc

-- ---- sides of one atom, and two rows

pub one_stage : (s : Stage) → (s ≡ stage.Waits → ⊥) → NoneWaits (s ∷ [])
one_stage s other zero d lt = other
one_stage s other (suc k) d lt = absurd (omega (arith, lt))

pub two_rows : (r s : Targets) → is_settled r ≡ true → is_settled s ≡ true → (i : ℕ) → i < length (r ∷ s ∷ []) → is_settled (targets_at (r ∷ s ∷ []) i) ≡ true
two_rows r s first second zero lt = first
two_rows r s first second (suc zero) lt = second
two_rows r s first second (suc (suc i)) lt = absurd (omega (arith, lt))
