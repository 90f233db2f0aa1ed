-- Rows of conflicts and of the reasons of literals.
use Rattle.std.proofs.Common.{◌≡◌, ℕ, zero, suc, ◌<◌, List, [], ◌∷◌, length, take, refl, ap, subst, ℤ, pos, neg_ℤ, arith}
use Rattle.std.specs.Prelude.{IsTrue, Some, None}
use Rattle.mono_base.specs.Literal.{has_lit, within}
use Rattle.mono_base.specs.Partial.{is_false_clause, others_false}
use Rattle.mono_problem.specs.Instance.{Instance}
use Rattle.mono_steps.specs.Worked.{clauses_over}
use Rattle.mono_steps.specs.WorkedLemmas.{minus}
use Rattle.mono_trail.specs.Places.{reason_at}
use Rattle.mono_trail.specs.TrailView.{StandsAt}
use Rattle.mono_learn.specs.Levels.{level_by}
use Rattle.mono_learn.specs.Reasons.{HasReasons, IsConflict, IsFalseClause, ReasonHolds, WasForced, WasUnit}
use Rattle.mono_learn.specs.Worked.{worked_clauses, worked_trail}
use Rattle.mono_learn.proofs.LitSets.{true_false}
use Rattle.mono_rows.specs.SmallTrail.{both_levels}
use Rattle.mono_learn.proofs.WorkedRows.{stands_level}
use Rattle.mono_rows.proofs.PointRows.{of_each, of_none}

pub same_clause : (c d : List ℤ) → Some c ≡ Some d → d ≡ c
same_clause c d e = cc

-- ---- conflicts

pub conflict_5 : IsConflict worked_clauses worked_trail 5
conflict_5 = record {
  clause = minus 8 ∷ minus 9 ∷ minus 4 ∷ minus 3 ∷ [];
  is = refl;
  is_false = refl;
  lit = minus 8;
  has = refl;
  present = record { place = 5; within = omega arith; there = refl; at = refl };
}

pub not_false_4 : IsFalseClause worked_clauses worked_trail.lits 4 → ⊥
not_false_4 f = true_false (is_false_clause worked_trail.lits f.clause) f.is_false (ap (λ (c : List ℤ). is_false_clause worked_trail.lits c) (same_clause (minus 8 ∷ minus 6 ∷ pos 9 ∷ []) f.clause f.is))

pub no_conflict_4 : IsConflict worked_clauses worked_trail 4 → ⊥
no_conflict_4 a = not_false_4 (record { clause = a.clause; is = a.is; is_false = a.is_false })

pub no_conflict_6 : IsConflict worked_clauses worked_trail 6 → ⊥
no_conflict_6 a = let e : None ≡ Some a.clause = a.is in cc

abbrev IsLower : ℤ → Type 0
IsLower l = StandsAt worked_trail (neg_ℤ l) 3 → ⊥

lower_by : (l : ℤ) (level : ℕ) → level < 3 → level_by worked_trail (neg_ℤ l) ≡ level → IsLower l
lower_by l level lt at w = omega (arith, lt, at, stands_level worked_trail (neg_ℤ l) 3 refl w)

pub no_conflict_below : IsConflict ((minus 3 ∷ minus 6 ∷ []) ∷ []) worked_trail 1 → ⊥
no_conflict_below a = of_each IsLower (minus 3) (minus 6 ∷ []) (lower_by (minus 3) 1 (omega arith) refl) (of_each IsLower (minus 6) [] (lower_by (minus 6) 2 (omega arith) refl) (of_none IsLower)) a.lit
    (subst (λ (c : List ℤ). IsTrue (has_lit c a.lit)) (same_clause (minus 3 ∷ minus 6 ∷ []) a.clause a.is) a.has) a.present

pub false_below_3 : IsFalseClause ((minus 3 ∷ minus 6 ∷ []) ∷ []) worked_trail.lits 1
false_below_3 = record { clause = minus 3 ∷ minus 6 ∷ []; is = refl; is_false = refl }

-- ---- reasons

pub unit_8 : WasUnit worked_clauses worked_trail.lits 5 3
unit_8 = record { clause = minus 7 ∷ minus 3 ∷ minus 4 ∷ pos 8 ∷ []; is = refl; has = refl; others = refl }

pub not_unit_before : WasUnit worked_clauses (pos 8 ∷ pos 7 ∷ pos 3 ∷ pos 4 ∷ []) 0 3 → ⊥
not_unit_before u = true_false (others_false [] u.clause (pos 8)) u.others (ap (λ (c : List ℤ). others_false [] c (pos 8)) (same_clause (minus 7 ∷ minus 3 ∷ minus 4 ∷ pos 8 ∷ []) u.clause u.is))

pub not_of_7 : WasUnit worked_clauses worked_trail.lits 4 3 → ⊥
not_of_7 u = true_false (has_lit u.clause (pos 7)) u.has (ap (λ (c : List ℤ). has_lit c (pos 7)) (same_clause (minus 7 ∷ minus 3 ∷ minus 4 ∷ pos 8 ∷ []) u.clause u.is))

pub all_have_reasons : (p : Instance) (shown : ℕ → List ℤ) → HasReasons p worked_clauses shown worked_trail
all_have_reasons p shown = record { at = at }
  where
    at : (k : ℕ) → k < 7 → ReasonHolds p worked_clauses shown worked_trail.lits k (reason_at worked_trail.marks k)
    at zero lt = tt
    at (suc zero) lt = record { clause = minus 3 ∷ pos 4 ∷ []; is = refl; has = refl; others = refl }
    at (suc (suc zero)) lt = tt
    at (suc (suc (suc zero))) lt = record { clause = minus 5 ∷ pos 6 ∷ []; is = refl; has = refl; others = refl }
    at (suc (suc (suc (suc zero)))) lt = tt
    at (suc (suc (suc (suc (suc zero))))) lt = unit_8
    at (suc (suc (suc (suc (suc (suc zero)))))) lt = record { clause = minus 8 ∷ minus 6 ∷ pos 9 ∷ []; is = refl; has = refl; others = refl }
    at (suc (suc (suc (suc (suc (suc (suc k))))))) lt = absurd (omega (arith, lt))

pub none_without_clauses : (p : Instance) (shown : ℕ → List ℤ) → HasReasons p [] shown worked_trail → ⊥
none_without_clauses p shown h =
    let u : WasUnit [] worked_trail.lits 1 1 = h.at 1 (omega arith) in
    let e : None ≡ Some u.clause = u.is in
    cc

-- ---- literals that atoms forced

pub not_shown_later : (p : Instance) (shown : ℕ → List ℤ) → shown 2 ≡ minus 5 ∷ [] → WasForced p shown (both_levels 0).lits 1 2 1 → ⊥
not_shown_later p shown is f = true_false (within (take 1 (shown 2)) (pos 3 ∷ [])) f.before (ap (λ (ls : List ℤ). within (take 1 ls) (pos 3 ∷ [])) is)

pub not_shown_fewer : (p : Instance) (shown : ℕ → List ℤ) → shown 2 ≡ [] → WasForced p shown (both_levels 0).lits 1 2 1 → ⊥
not_shown_fewer p shown is f = omega (arith, f.some, ap (λ (ls : List ℤ). length ls) is)

pub no_atom_forces : (cs : List (List ℤ)) (shown : ℕ → List ℤ) → HasReasons (clauses_over 6 []) cs shown (both_levels 0) → ⊥
no_atom_forces cs shown h = let f : WasForced (clauses_over 6 []) shown (both_levels 0).lits 1 2 1 = h.at 1 (omega arith) in f.forces
