-- Rows of walks back to the first unique implication point, and of literals that atoms forced.
use Rattle.std.proofs.Common.{◌≡◌, ℕ, zero, suc, ◌+◌, ◌<◌, true, false, List, [], ◌∷◌, refl, sym, ap, subst, ◌∙◌, ◌⊎◌, inl, inr, ℤ, pos, neg_ℤ, arith}
use Rattle.std.specs.Prelude.{IsTrue, Some}
use Rattle.std.specs.Ordering.{int_eq}
use Rattle.std.proofs.lemmas.Bool.{or_cases, cases_Bool}
use Rattle.std.proofs.lemmas.Bool.Decides.{Decides-int_eq}
use Rattle.mono_base.specs.Literal.{has_lit, lit_at, var_of}
use Rattle.mono_base.proofs.Truth.{same_lit}
use Rattle.mono_steps.specs.WorkedLemmas.{minus}
use Rattle.mono_trail.specs.declared.reason.Reason.TheVariants.{Decided, Clause, Late}
use Rattle.mono_trail.specs.Places.{place_in, reason_at}
use Rattle.mono_trail.specs.TrailView.{StandsAt}
use Rattle.mono_problem.specs.Instance.{numbered}
use Rattle.mono_steps.specs.Chains.{resolvent}
use Rattle.mono_learn.specs.Levels.{level_by}
use Rattle.mono_learn.specs.FirstPoint.{HasOnePresent, StepsBack, ResolvesBack, IsRedundant, IsMinimized, IsTaught}
use Rattle.mono_learn.specs.Resolvents.{FalseBy}
use Rattle.mono_learn.specs.Worked.{worked_clauses, worked_trail}
use Rattle.mono_learn.proofs.LitSets.{true_false}
use Rattle.mono_learn.proofs.PlacesOfLits.{place_in_at}
use Rattle.mono_rows.specs.SmallTrail.{both_levels}
use Rattle.mono_learn.proofs.WorkedRows.{stands_level}

-- what holds of the first literal and of each other one holds of each
pub of_each : (P : ℤ → Type 0) → (a : ℤ) (c : List ℤ) → P a → ((l : ℤ) → IsTrue (has_lit c l) → P l) → (l : ℤ) → IsTrue (has_lit (a ∷ c) l) → P l
of_each P a c first others l h = elim (or_cases (int_eq l a) (has_lit c l) h) [ inl s ↦ subst P (sym (same_lit l a s)) first | inr j ↦ others l j ]

pub of_none : (P : ℤ → Type 0) → (l : ℤ) → IsTrue (has_lit [] l) → P l
of_none P l h = absurd (let e : false ≡ true = h in cc)

same_number : (n m : ℕ) → Clause n ≡ Clause m → n ≡ m
same_number n m e = cc

-- ---- the walk

abbrev IsBelow : ℕ → ℤ → Type 0
IsBelow n l = FalseBy worked_trail.lits n l

false_below : (n : ℕ) (l : ℤ) (k : ℕ) → k < n → k < 7 → lit_at worked_trail.lits k ≡ neg_ℤ l → FalseBy worked_trail.lits n l
false_below n l k low lt there = record { place = k; below = low; within = lt; there = there }

-- 7 and 9 are of the present level, and 9 stands last: clause 4 is its reason
first_step : StepsBack worked_clauses worked_trail (minus 7 ∷ minus 9 ∷ []) 4 (minus 7 ∷ minus 8 ∷ minus 6 ∷ [])
first_step = record {
  two = record {
    one = minus 7;
    other = minus 9;
    differ = λ e. absurd cc;
    has_one = refl;
    has_other = refl;
    at_one = record { place = 4; within = omega arith; there = refl; at = refl };
    at_other = record { place = 6; within = omega arith; there = refl; at = refl };
  };
  place = 6;
  on_trail = omega arith;
  has = refl;
  last = record { are = of_each (IsBelow 7) (minus 7) (minus 9 ∷ []) (false_below 7 (minus 7) 4 (omega arith) (omega arith) refl) (of_each (IsBelow 7) (minus 9) [] (false_below 7 (minus 9) 6 (omega arith) (omega arith) refl) (of_none (IsBelow 7))) };
  why = refl;
  reason = minus 8 ∷ minus 6 ∷ pos 9 ∷ [];
  is = refl;
  resolved = refl;
}

-- then 8 stands last of 7 and 8: clause 3 is its reason
second_step : StepsBack worked_clauses worked_trail (minus 7 ∷ minus 8 ∷ minus 6 ∷ []) 3 (minus 7 ∷ minus 6 ∷ minus 7 ∷ minus 3 ∷ minus 4 ∷ [])
second_step = record {
  two = record {
    one = minus 7;
    other = minus 8;
    differ = λ e. absurd cc;
    has_one = refl;
    has_other = refl;
    at_one = record { place = 4; within = omega arith; there = refl; at = refl };
    at_other = record { place = 5; within = omega arith; there = refl; at = refl };
  };
  place = 5;
  on_trail = omega arith;
  has = refl;
  last = record { are = of_each (IsBelow 6) (minus 7) (minus 8 ∷ minus 6 ∷ []) (false_below 6 (minus 7) 4 (omega arith) (omega arith) refl) (of_each (IsBelow 6) (minus 8) (minus 6 ∷ []) (false_below 6 (minus 8) 5 (omega arith) (omega arith) refl) (of_each (IsBelow 6) (minus 6) [] (false_below 6 (minus 6) 3 (omega arith) (omega arith) refl) (of_none (IsBelow 6)))) };
  why = refl;
  reason = minus 7 ∷ minus 3 ∷ minus 4 ∷ pos 8 ∷ [];
  is = refl;
  resolved = refl;
}

pub two_steps : ResolvesBack worked_clauses worked_trail (minus 7 ∷ minus 9 ∷ []) (4 ∷ 3 ∷ []) (minus 7 ∷ minus 6 ∷ minus 7 ∷ minus 3 ∷ minus 4 ∷ [])
two_steps = (minus 7 ∷ minus 8 ∷ minus 6 ∷ [], first_step, (minus 7 ∷ minus 6 ∷ minus 7 ∷ minus 3 ∷ minus 4 ∷ [], second_step, refl))

pub not_one_present : HasOnePresent worked_trail (minus 7 ∷ minus 8 ∷ minus 6 ∷ []) → ⊥
not_one_present a = by_lit (cases_Bool (int_eq (minus 7) a.lit))
  where
    by_lit : (int_eq (minus 7) a.lit ≡ true) ⊎ (int_eq (minus 7) a.lit ≡ false) → ⊥
    by_lit (inl e) =
        let low : 3 < 3 = a.others (minus 8) refl (λ f. let g : minus 8 ≡ minus 7 = f ∙ sym (same_lit (minus 7) a.lit e) in cc) in
        omega (arith, low)
    by_lit (inr e) =
        let low : 3 < 3 = a.others (minus 7) refl (λ f. true_false (int_eq (minus 7) a.lit) ((Decides-int_eq (minus 7) a.lit).1 f) e) in
        omega (arith, low)

-- 3 is of level 1
abbrev IsLow : ℤ → Type 0
IsLow l = StandsAt worked_trail (neg_ℤ l) 3 → ⊥

pub none_present : HasOnePresent worked_trail (minus 3 ∷ []) → ⊥
none_present a = of_each IsLow (minus 3) [] (λ w. let e : 1 ≡ 3 = stands_level worked_trail (pos 3) 3 refl w in omega (arith, e)) (of_none IsLow) a.lit a.has a.present

-- -7 is the one literal of the present level
abbrev Is7 : ℤ → Type 0
Is7 l = StandsAt worked_trail (neg_ℤ l) 3 → l ≡ minus 7

pub past_the_first : (n : ℕ) (e : List ℤ) → StepsBack worked_clauses worked_trail (minus 7 ∷ minus 6 ∷ minus 7 ∷ minus 3 ∷ minus 4 ∷ []) n e → ⊥
past_the_first n e s = s.two.differ (only_7 s.two.one s.two.has_one s.two.at_one ∙ sym (only_7 s.two.other s.two.has_other s.two.at_other))
  where
    low_6 : Is7 (minus 6)
    low_6 w = let e : 2 ≡ 3 = stands_level worked_trail (pos 6) 3 refl w in absurd (omega (arith, e))

    low_3 : Is7 (minus 3)
    low_3 w = let e : 1 ≡ 3 = stands_level worked_trail (pos 3) 3 refl w in absurd (omega (arith, e))

    low_4 : Is7 (minus 4)
    low_4 w = let e : 1 ≡ 3 = stands_level worked_trail (pos 4) 3 refl w in absurd (omega (arith, e))

    only_7 : (l : ℤ) → IsTrue (has_lit (minus 7 ∷ minus 6 ∷ minus 7 ∷ minus 3 ∷ minus 4 ∷ []) l) → Is7 l
    only_7 =
        of_each Is7 (minus 7) (minus 6 ∷ minus 7 ∷ minus 3 ∷ minus 4 ∷ []) (λ w. refl)
        (of_each Is7 (minus 6) (minus 7 ∷ minus 3 ∷ minus 4 ∷ []) low_6
        (of_each Is7 (minus 7) (minus 3 ∷ minus 4 ∷ []) (λ w. refl) (of_each Is7 (minus 3) (minus 4 ∷ []) low_3 (of_each Is7 (minus 4) [] low_4 (of_none Is7)))))

-- 9 stands behind 8
pub not_last : (e : List ℤ) → StepsBack worked_clauses worked_trail (minus 8 ∷ minus 9 ∷ []) 3 e → ⊥
not_last e s = at s.place s.on_trail s.why (s.last.are (minus 9) refl)
  where
    at : (k : ℕ) → k < 7 → reason_at worked_trail.marks k ≡ Clause 3 → FalseBy worked_trail.lits (k + 1) (minus 9) → ⊥
    at k lt why f =
        let found : Some 6 ≡ Some f.place = ap (λ (l : ℤ). place_in worked_trail.lits (var_of l)) (sym f.there) ∙ place_in_at worked_trail.lits f.place refl f.within in
        let behind : 6 ≡ f.place = cc in
        let last : k ≡ 6 = omega (arith, lt, behind, f.below) in
        omega (arith, same_number 4 3 (subst (λ (j : ℕ). reason_at worked_trail.marks j ≡ Clause 3) last why))

-- ---- what conflict 5 leads to

abbrev first_clause : List ℤ
first_clause = minus 8 ∷ minus 9 ∷ minus 4 ∷ minus 3 ∷ []

abbrev first_point : List ℤ
first_point = minus 8 ∷ minus 4 ∷ minus 3 ∷ minus 8 ∷ minus 6 ∷ []

same_clause : (c d : List ℤ) → Some c ≡ Some d → c ≡ d
same_clause c d e = cc

-- 8 and 9 are both of the present level
two_present : HasOnePresent worked_trail first_clause → ⊥
two_present a = by_lit (cases_Bool (int_eq (minus 8) a.lit))
  where
    by_lit : (int_eq (minus 8) a.lit ≡ true) ⊎ (int_eq (minus 8) a.lit ≡ false) → ⊥
    by_lit (inl e) =
        let low : 3 < 3 = a.others (minus 9) refl (λ f. let g : minus 9 ≡ minus 8 = f ∙ sym (same_lit (minus 8) a.lit e) in cc) in
        omega (arith, low)
    by_lit (inr e) =
        let low : 3 < 3 = a.others (minus 8) refl (λ f. true_false (int_eq (minus 8) a.lit) ((Decides-int_eq (minus 8) a.lit).1 f) e) in
        omega (arith, low)

-- 9 stands last, so the step is by its reason, clause 4
first_of_5 : (n : ℕ) (d : List ℤ) → StepsBack worked_clauses worked_trail first_clause n d → d ≡ first_point
first_of_5 n d s = at s.place s.on_trail s.why (s.last.are (minus 9) refl) s.is s.resolved
  where
    at : (k : ℕ) → k < 7 → reason_at worked_trail.marks k ≡ Clause n → FalseBy worked_trail.lits (k + 1) (minus 9) → numbered worked_clauses n ≡ Some s.reason → resolvent first_clause s.reason ≡ Some d → d ≡ first_point
    at k lt why f is resolved =
        let found : Some 6 ≡ Some f.place = ap (λ (l : ℤ). place_in worked_trail.lits (var_of l)) (sym f.there) ∙ place_in_at worked_trail.lits f.place refl f.within in
        let behind : 6 ≡ f.place = cc in
        let last : k ≡ 6 = omega (arith, lt, behind, f.below) in
        let number : 4 ≡ n = same_number 4 n (subst (λ (j : ℕ). reason_at worked_trail.marks j ≡ Clause n) last why) in
        let reason : minus 8 ∷ minus 6 ∷ pos 9 ∷ [] ≡ s.reason = same_clause _ _ (subst (λ (m : ℕ). numbered worked_clauses m ≡ Some s.reason) (sym number) is) in
        sym (same_clause _ _ (subst (λ (c : List ℤ). resolvent first_clause c ≡ Some d) (sym reason) resolved))

-- -8 is the one literal of the present level
abbrev Is8 : ℤ → Type 0
Is8 l = StandsAt worked_trail (neg_ℤ l) 3 → l ≡ minus 8

no_second : (n : ℕ) (e : List ℤ) → StepsBack worked_clauses worked_trail first_point n e → ⊥
no_second n e s = s.two.differ (only_8 s.two.one s.two.has_one s.two.at_one ∙ sym (only_8 s.two.other s.two.has_other s.two.at_other))
  where
    low : (l : ℤ) (level : ℕ) → level_by worked_trail (neg_ℤ l) ≡ level → level < 3 → Is8 l
    low l level at lt w = absurd (omega (arith, lt, at, stands_level worked_trail (neg_ℤ l) 3 refl w))

    only_8 : (l : ℤ) → IsTrue (has_lit first_point l) → Is8 l
    only_8 =
        of_each Is8 (minus 8) (minus 4 ∷ minus 3 ∷ minus 8 ∷ minus 6 ∷ []) (λ w. refl)
        (of_each Is8 (minus 4) (minus 3 ∷ minus 8 ∷ minus 6 ∷ []) (low (minus 4) 1 refl (omega arith))
        (of_each Is8 (minus 3) (minus 8 ∷ minus 6 ∷ []) (low (minus 3) 1 refl (omega arith))
        (of_each Is8 (minus 8) (minus 6 ∷ []) (λ w. refl) (of_each Is8 (minus 6) [] (low (minus 6) 2 refl (omega arith)) (of_none Is8)))))

-- so the clause of the first point is the one after the first step
leads_to : (c : List ℤ) (ns : List ℕ) (e : List ℤ) → c ≡ first_clause → ResolvesBack worked_clauses worked_trail c ns e → HasOnePresent worked_trail e → e ≡ first_point
leads_to c [] e is w point = absurd (two_present (subst (HasOnePresent worked_trail) (w ∙ is) point))
leads_to c (n ∷ ns) e is (d, step, rest) point = after ns rest
  where
    first : d ≡ first_point
    first = first_of_5 n d (subst (λ (b : List ℤ). StepsBack worked_clauses worked_trail b n d) is step)

    after : (ms : List ℕ) → ResolvesBack worked_clauses worked_trail d ms e → e ≡ first_point
    after [] r = r ∙ first
    after (m ∷ ms) (f, second, r) = absurd (no_second m f (subst (λ (b : List ℤ). StepsBack worked_clauses worked_trail b m f) first second))

taught_point : (c : List ℤ) → (a : IsTaught worked_clauses worked_trail 5 c) → a.whole ≡ first_point
taught_point c a = leads_to a.leads.clause a.leads.reasons a.whole (sym (same_clause _ _ a.leads.is)) a.leads.resolutions a.point

pub not_8_alone : IsTaught worked_clauses worked_trail 5 (minus 8 ∷ []) → ⊥
not_8_alone a =
    let m = subst (λ (e : List ℤ). IsMinimized worked_clauses worked_trail e (minus 8 ∷ [])) (taught_point _ a) a.minimized in
    let r = m.goes 0 (omega arith) refl refl in
    let e : Decided ≡ Clause r.number = r.why in
    cc

pub not_8_and_9 : IsTaught worked_clauses worked_trail 5 (minus 3 ∷ minus 8 ∷ minus 9 ∷ []) → ⊥
not_8_and_9 a =
    let m = subst (λ (e : List ℤ). IsMinimized worked_clauses worked_trail e (minus 3 ∷ minus 8 ∷ minus 9 ∷ [])) (taught_point _ a) a.minimized in
    let e : false ≡ true = m.part in
    cc

pub not_7 : IsTaught worked_clauses worked_trail 5 (minus 3 ∷ minus 6 ∷ minus 7 ∷ []) → ⊥
not_7 a =
    let m = subst (λ (e : List ℤ). IsMinimized worked_clauses worked_trail e (minus 3 ∷ minus 6 ∷ minus 7 ∷ [])) (taught_point _ a) a.minimized in
    let e : false ≡ true = m.part in
    cc

-- ---- literals that atoms forced

not_redundant : (cs : List (List ℤ)) (c : List ℤ) (k : ℕ) → k < 4 → IsRedundant cs (both_levels 0) c k → ⊥
not_redundant cs c zero lt r = let e : Decided ≡ Clause r.number = r.why in cc
not_redundant cs c (suc zero) lt r = let e : Late 2 1 ≡ Clause r.number = r.why in cc
not_redundant cs c (suc (suc zero)) lt r = omega (arith, r.lower)
not_redundant cs c (suc (suc (suc zero))) lt r = omega (arith, r.lower)
not_redundant cs c (suc (suc (suc (suc k)))) lt r = omega (arith, lt)

pub all_stay : (cs : List (List ℤ)) → IsMinimized cs (both_levels 0) (minus 3 ∷ minus 4 ∷ minus 6 ∷ []) (minus 3 ∷ minus 4 ∷ minus 6 ∷ [])
all_stay cs = record {
  part = refl;
  stays = λ k lt has r. not_redundant cs (minus 3 ∷ minus 4 ∷ minus 6 ∷ []) k lt r;
  goes = λ k lt has off. absurd (true_false (has_lit (minus 3 ∷ minus 4 ∷ minus 6 ∷ []) (neg_ℤ (lit_at (both_levels 0).lits k))) has off);
}

pub forced_goes : (cs : List (List ℤ)) → IsMinimized cs (both_levels 0) (minus 3 ∷ minus 4 ∷ minus 6 ∷ []) (minus 3 ∷ minus 6 ∷ []) → ⊥
forced_goes cs m = not_redundant cs (minus 3 ∷ minus 4 ∷ minus 6 ∷ []) 1 (omega arith) (m.goes 1 (omega arith) refl refl)
