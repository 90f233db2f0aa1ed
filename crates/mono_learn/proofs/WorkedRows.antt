-- The rows that were worked by hand.
use Rattle.std.proofs.Common.{◌≡◌, ◌≢◌, ℕ, ◌<◌, true, false, List, [], ◌∷◌, ◌++◌, length, refl, sym, ap, subst, ◌∙◌, ◌⊎◌, inl, inr, ℤ, pos, neg_ℤ, arith}
use Rattle.std.specs.Prelude.{IsTrue, Option, Some, unwrap_or, option_map, slice_get}
use Rattle.std.specs.Ordering.{int_eq}
use Rattle.std.proofs.lemmas.Bool.{or_cases, cases_Bool}
use Rattle.std.proofs.lemmas.Bool.Decides.{Decides-int_eq}
use Rattle.mono_base.specs.Literal.{has_lit}
use Rattle.mono_base.specs.Partial.{is_partial}
use Rattle.mono_base.proofs.Truth.{same_lit}
use Rattle.mono_problem.specs.Instance.{Instance}
use Rattle.mono_steps.specs.declared.lemma.Lemma.{Lemma}
use Rattle.mono_steps.specs.declared.step.Step.{Step}
use Rattle.mono_steps.specs.declared.step.Step.TheVariants as step
use Rattle.mono_steps.specs.WorkedLemmas.{minus}
use Rattle.mono_trail.specs.declared.reason.Reason.{Reason}
use Rattle.mono_trail.specs.declared.reason.Reason.TheVariants.{Clause, Late}
use Rattle.mono_trail.specs.Places.{level_at, reason_at}
use Rattle.mono_trail.specs.TrailView.{TrailView, StandsAt}
use Rattle.mono_learn.specs.Learned.{IsLearnt, IsMinimal}
use Rattle.mono_learn.specs.Levels.{level_by}
use Rattle.mono_learn.specs.Settled.{AreAskedFor}
use Rattle.mono_learn.specs.Worked.{worked_clauses, worked_trail}
use Rattle.mono_learn.proofs.LitSets.{true_false}
use Rattle.mono_learn.proofs.PlacesOfLits.{place_in_at}

-- the level at which a literal stands is that of its variable
pub stands_level : (t : TrailView) (l : ℤ) (level : ℕ) → IsTrue (is_partial t.lits) → StandsAt t l level → level_by t l ≡ level
stands_level t l level p w =
    ap (λ (m : ℤ). level_by t m) (sym w.there) ∙ ap (λ (o : Option ℕ). unwrap_or (option_map (level_at t.marks) o) 0) (place_in_at t.lits w.place p w.within) ∙ w.at

-- a literal of a lower level is not that of the present one
apart : (l lit : ℤ) (level : ℕ) → StandsAt worked_trail (neg_ℤ lit) 3 → level_by worked_trail (neg_ℤ l) ≡ level → level < 3 → l ≢ lit
apart l lit level w at low e = omega (arith, ap (λ (m : ℤ). level_by worked_trail (neg_ℤ m)) e, stands_level worked_trail (neg_ℤ lit) 3 refl w, at, low)

pub goes_back : IsLearnt worked_trail (minus 3 ∷ minus 6 ∷ minus 8 ∷ []) 2
goes_back = record {
  lower = omega arith;
  lit = minus 8;
  has = refl;
  present = record { place = 5; within = omega arith; there = refl; at = refl };
  others = λ l h n. elim (or_cases (int_eq l (minus 3)) (has_lit (minus 6 ∷ minus 8 ∷ []) l) h) [
    | inl e ↦ (1, omega arith, subst (λ (m : ℤ). StandsAt worked_trail (neg_ℤ m) 1) (sym (same_lit l (minus 3) e)) (record { place = 0; within = omega arith; there = refl; at = refl }))
    | inr k ↦ elim (or_cases (int_eq l (minus 6)) (has_lit (minus 8 ∷ []) l) k) [
      | inl e ↦ (2, omega arith, subst (λ (m : ℤ). StandsAt worked_trail (neg_ℤ m) 2) (sym (same_lit l (minus 6) e)) (record { place = 3; within = omega arith; there = refl; at = refl }))
      | inr j ↦ elim (or_cases (int_eq l (minus 8)) false j) [ inl e ↦ absurd (n (same_lit l (minus 8) e)) | inr z ↦ absurd cc ]
    ]
  ];
  reached = inr (minus 6, refl, (λ e. absurd cc), record { place = 3; within = omega arith; there = refl; at = refl });
}

pub goes_back_no_lower : (back : ℕ) → back < 2 → IsLearnt worked_trail (minus 3 ∷ minus 6 ∷ minus 8 ∷ []) back → ⊥
goes_back_no_lower back low a =
    let o = a.others (minus 6) refl (apart (minus 6) a.lit 2 a.present refl (omega arith)) in
    omega (arith, low, o.1, stands_level worked_trail (pos 6) o.0 refl o.2)

pub goes_back_no_higher : IsLearnt worked_trail (minus 3 ∷ minus 6 ∷ minus 8 ∷ []) 3 → ⊥
goes_back_no_higher a = omega (arith, a.lower)

pub one_literal : (back : ℕ) → IsLearnt worked_trail (minus 3 ∷ minus 8 ∷ minus 9 ∷ []) back → ⊥
one_literal back a = by_lit (cases_Bool (int_eq (minus 8) a.lit))
  where
    other : (l : ℤ) → IsTrue (has_lit (minus 3 ∷ minus 8 ∷ minus 9 ∷ []) l) → level_by worked_trail (neg_ℤ l) ≡ 3 → l ≢ a.lit → ⊥
    other l h at n = let o = a.others l h n in omega (arith, a.lower, o.1, at, stands_level worked_trail (neg_ℤ l) o.0 refl o.2)

    by_lit : (int_eq (minus 8) a.lit ≡ true) ⊎ (int_eq (minus 8) a.lit ≡ false) → ⊥
    by_lit (inl e) = other (minus 9) refl refl (λ f. let g : minus 9 ≡ minus 8 = f ∙ sym (same_lit (minus 8) a.lit e) in cc)
    by_lit (inr e) = other (minus 8) refl refl (λ f. true_false (int_eq (minus 8) a.lit) ((Decides-int_eq (minus 8) a.lit).1 f) e)

pub dropped : IsMinimal worked_clauses worked_trail (minus 3 ∷ minus 4 ∷ minus 6 ∷ minus 8 ∷ []) → ⊥
dropped m = let e : true ≡ false = m.at 1 1 (minus 3 ∷ pos 4 ∷ []) (omega arith) (omega arith) refl refl refl in cc

get_last : (steps : List Step) (s : Step) → slice_get (steps ++ s ∷ []) (length steps) ≡ Some s
get_last [] s = refl
get_last (x ∷ steps) s = get_last steps s

pub asked_for : (p : Instance) (t : TrailView) (steps : List Step) (m : Lemma) → AreAskedFor p t t steps (steps ++ step.Lemma m ∷ []) → ⊥
asked_for p t steps m a =
    let w = a.at (length steps) m (omega arith) (get_last steps (step.Lemma m)) in
    not_both (reason_at t.marks w.place) m.atom w.kept _ w.was w.is
  where
    not_both : (r : Reason) (x q n : ℕ) → r ≡ Late x q → r ≡ Clause n → ⊥
    not_both r x q n e f = let g : Late x q ≡ Clause n = sym e ∙ f in cc
