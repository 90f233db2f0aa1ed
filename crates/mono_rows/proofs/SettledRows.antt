-- Rows of settled reasons.
use Rattle.std.proofs.Common.{◌≡◌, ℕ, zero, suc, ◌+◌, ◌<◌, ◌≤◌, [], ◌∷◌, refl, ap, pos, arith}
use Rattle.std.specs.Prelude.{Some, slice_get}
use Rattle.std.proofs.lemmas.Option.{same_Some}
use Rattle.mono_steps.specs.Worked.{clauses_over}
use Rattle.mono_steps.specs.WorkedLemmas.{minus}
use Rattle.mono_steps.specs.declared.lemma.Lemma.{Lemma}
use Rattle.mono_steps.specs.declared.step.Step.{Step}
use Rattle.mono_steps.specs.declared.step.Step.TheVariants as step
use Rattle.mono_trail.specs.declared.reason.Reason.TheVariants.{Clause, Late}
use Rattle.mono_trail.specs.Moves.{settled}
use Rattle.mono_trail.specs.Places.{level_at, reason_at}
use Rattle.mono_learn.specs.Settled.{SettledReason, Settles, IsAskedFor, AreAskedFor}
use Rattle.mono_rows.specs.SmallTrail.{both_levels}
use Rattle.mono_rows.specs.AskedLemmas.{of_atom}

-- ---- trails

same_reasons : (k : ℕ) → k < 4 → SettledReason [] (both_levels 3).lits k (reason_at (both_levels 3).marks k) (reason_at (both_levels 3).marks k)
same_reasons zero lt = refl
same_reasons (suc zero) lt = refl
same_reasons (suc (suc zero)) lt = refl
same_reasons (suc (suc (suc zero))) lt = refl
same_reasons (suc (suc (suc (suc k)))) lt = absurd (omega (arith, lt))

pub settles_nothing : Settles [] (both_levels 3) (both_levels 3)
settles_nothing = record { vars = refl; lits = refl; level = refl; given = refl; as_many = refl; levels = λ k. refl; reasons = same_reasons }

late_levels : (k : ℕ) → level_at (settled (both_levels 3) 4 1).marks k ≡ level_at (both_levels 3).marks k
late_levels zero = refl
late_levels (suc zero) = refl
late_levels (suc (suc zero)) = refl
late_levels (suc (suc (suc zero))) = refl
late_levels (suc (suc (suc (suc k)))) = refl

late_reasons : (k : ℕ) → k < 4 → SettledReason ((minus 3 ∷ pos 4 ∷ []) ∷ []) (both_levels 3).lits k (reason_at (both_levels 3).marks k) (reason_at (settled (both_levels 3) 4 1).marks k)
late_reasons zero lt = refl
late_reasons (suc zero) lt = record { clause = minus 3 ∷ pos 4 ∷ []; is = refl; has = refl; others = refl }
late_reasons (suc (suc zero)) lt = refl
late_reasons (suc (suc (suc zero))) lt = refl
late_reasons (suc (suc (suc (suc k)))) lt = absurd (omega (arith, lt))

pub settles_late : Settles ((minus 3 ∷ pos 4 ∷ []) ∷ []) (both_levels 3) (settled (both_levels 3) 4 1)
settles_late = record { vars = refl; lits = refl; level = refl; given = refl; as_many = refl; levels = late_levels; reasons = late_reasons }

-- ---- lemmas

pub asked_for_4 : AreAskedFor (clauses_over 6 []) (both_levels 3) (settled (both_levels 3) 4 1) [] (step.Lemma (of_atom 2) ∷ [])
asked_for_4 = record { at = at }
  where
    number : Lemma → ℕ
    number m = m.atom

    atom : Step → ℕ
    atom (step.Lemma m) = m.atom
    atom (step.Chain c) = 0

    at : (k : ℕ) (m : Lemma) → 0 ≤ k → slice_get (step.Lemma (of_atom 2) ∷ []) k ≡ Some (step.Lemma m) → IsAskedFor (both_levels 3) (settled (both_levels 3) 4 1) m (0 + 1 + k)
    at zero m low e =
        let same : 2 ≡ m.atom = ap atom (same_Some (step.Lemma (of_atom 2)) (step.Lemma m) e) in
        record { place = 1; within = omega arith; kept = 1; was = ap (λ (n : ℕ). Late n 1) same; is = refl }
    at (suc k) m low e = cc

pub asked_for_none : AreAskedFor (clauses_over 6 []) (both_levels 3) (both_levels 3) [] []
asked_for_none = record { at = λ k m low e. cc }

-- no literal was forced by this atom, or has this number for its reason
pub not_asked : (atom n k : ℕ) → IsAskedFor (both_levels 3) (settled (both_levels 3) 4 n) (of_atom atom) k → (2 ≡ atom → n ≡ k → ⊥) → ⊥
not_asked atom n k a wrong = by a.place a.within a.was a.is
  where
    by : (p : ℕ) → p < 4 → reason_at (both_levels 3).marks p ≡ Late atom a.kept → reason_at (settled (both_levels 3) 4 n).marks p ≡ Clause k → ⊥
    by zero lt was is = cc
    by (suc zero) lt was is = let e : Late 2 1 ≡ Late atom a.kept = was in let f : Clause n ≡ Clause k = is in let x : 2 ≡ atom = cc in let y : n ≡ k = cc in wrong x y
    by (suc (suc zero)) lt was is = cc
    by (suc (suc (suc zero))) lt was is = cc
    by (suc (suc (suc (suc p)))) lt was is = omega (arith, lt)
