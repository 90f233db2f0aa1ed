-- Rows of what a conflict teaches.
use Rattle.std.proofs.Common.{◌≡◌, ◌≢◌, ℕ, zero, suc, ◌<◌, Bool, ◌&&◌, true, false, List, [], ◌∷◌, refl, sym, ap, subst, ◌∙◌, inl, inr, ℤ, pos, neg_ℤ, arith}
use Rattle.std.specs.Prelude.{IsTrue, Some}
use Rattle.std.specs.Ordering.{int_eq}
use Rattle.std.proofs.lemmas.Bool.{or_cases}
use Rattle.mono_base.specs.Literal.{has_lit, within, without, lit_at}
use Rattle.mono_base.proofs.Truth.{same_lit, at_each}
use Rattle.mono_problem.specs.Instance.{numbered}
use Rattle.mono_steps.specs.WorkedLemmas.{minus}
use Rattle.mono_trail.specs.declared.reason.Reason.TheVariants.{Decided, Clause}
use Rattle.mono_trail.specs.Places.{level_at, reason_at}
use Rattle.mono_trail.specs.TrailView.{StandsAt}
use Rattle.mono_learn.specs.FirstPoint.{StepsBack, IsRedundant, IsMinimized, IsTaught}
use Rattle.mono_learn.specs.Learned.{IsLearnt, IsMinimal}
use Rattle.mono_learn.specs.Resolvents.{FalseBy}
use Rattle.mono_learn.specs.Levels.{level_by}
use Rattle.mono_learn.specs.Worked.{worked_clauses, worked_trail}
use Rattle.mono_learn.proofs.LitSets.{true_false}
use Rattle.mono_learn.proofs.WorkedRows.{stands_level}

-- a literal that is another one by its test stands at the level of that one
stands_as : (l m : ℤ) (level back : ℕ) → IsTrue (int_eq l m) → level_by worked_trail (neg_ℤ m) ≡ level → StandsAt worked_trail (neg_ℤ l) back → back ≡ level
stands_as l m level back e at w = sym (stands_level worked_trail (neg_ℤ l) back refl w) ∙ ap (λ (x : ℤ). level_by worked_trail (neg_ℤ x)) (same_lit l m e) ∙ at

pub goes_back_first : IsLearnt worked_trail (minus 3 ∷ minus 8 ∷ []) 1
goes_back_first = record {
  lower = omega arith;
  lit = minus 8;
  has = refl;
  present = record { place = 5; within = omega arith; there = refl; at = refl };
  others = λ l h n. elim (or_cases (int_eq l (minus 3)) (has_lit (minus 8 ∷ []) l) h) [
    | inl e ↦ (1, omega arith, subst (λ (m : ℤ). StandsAt worked_trail (neg_ℤ m) 1) (sym (same_lit l (minus 3) e)) (record { place = 0; within = omega arith; there = refl; at = refl }))
    | inr j ↦ elim (or_cases (int_eq l (minus 8)) false j) [ inl e ↦ absurd (n (same_lit l (minus 8) e)) | inr z ↦ absurd cc ]
  ];
  reached = inr (minus 3, refl, (λ e. absurd cc), record { place = 0; within = omega arith; there = refl; at = refl });
}

pub goes_back_to_start : IsLearnt worked_trail (minus 8 ∷ []) 0
goes_back_to_start = record {
  lower = omega arith;
  lit = minus 8;
  has = refl;
  present = record { place = 5; within = omega arith; there = refl; at = refl };
  others = λ l h n. elim (or_cases (int_eq l (minus 8)) false h) [ inl e ↦ absurd (n (same_lit l (minus 8) e)) | inr z ↦ absurd cc ];
  reached = inl refl;
}

pub goes_back_too_far_up : IsLearnt worked_trail (minus 3 ∷ minus 8 ∷ []) 2 → ⊥
goes_back_too_far_up a = elim a.reached [
  | inl e ↦ omega (arith, e)
  | inr w ↦ elim (or_cases (int_eq w.0 (minus 3)) (has_lit (minus 8 ∷ []) w.0) w.1) [
    | inl e ↦ omega (arith, stands_as w.0 (minus 3) 1 2 e refl w.3)
    | inr j ↦ elim (or_cases (int_eq w.0 (minus 8)) false j) [ inl e ↦ omega (arith, stands_as w.0 (minus 8) 3 2 e refl w.3) | inr z ↦ cc ]
  ]
]

pub goes_back_to_none : IsLearnt worked_trail (minus 8 ∷ []) 1 → ⊥
goes_back_to_none a = elim a.reached [
  | inl e ↦ omega (arith, e)
  | inr w ↦ elim (or_cases (int_eq w.0 (minus 8)) false w.1) [ inl e ↦ omega (arith, stands_as w.0 (minus 8) 3 1 e refl w.3) | inr z ↦ cc ]
]

pub no_present_literal : (back : ℕ) → IsLearnt worked_trail (minus 3 ∷ minus 6 ∷ []) back → ⊥
no_present_literal back a = elim (or_cases (int_eq a.lit (minus 3)) (has_lit (minus 6 ∷ []) a.lit) a.has) [
  | inl e ↦ omega (arith, stands_as a.lit (minus 3) 1 3 e refl a.present)
  | inr j ↦ elim (or_cases (int_eq a.lit (minus 6)) false j) [ inl e ↦ omega (arith, stands_as a.lit (minus 6) 2 3 e refl a.present) | inr z ↦ cc ]
]

-- the reason of 6, as the worked clauses have it
reason_of_6 : (n : ℕ) (r : List ℤ) → reason_at worked_trail.marks 3 ≡ Clause n → numbered worked_clauses n ≡ Some r → r ≡ minus 5 ∷ pos 6 ∷ []
reason_of_6 n r why is =
    let named : Clause 2 ≡ Clause n = why in
    let same : 2 ≡ n = cc in
    let found : Some (minus 5 ∷ pos 6 ∷ []) ≡ Some r = ap (numbered worked_clauses) same ∙ is in
    cc

-- only -6 of these is below the present level and was implied, and -5 isn't in the clause
stays : (c : List ℤ) → has_lit c (minus 4) ≡ false → has_lit c (minus 5) ≡ false → IsMinimal worked_clauses worked_trail c
stays c no_4 no_5 = record { at = at }
  where
    at : (k n : ℕ) (r : List ℤ) → k < 7 → level_at worked_trail.marks k < 3 → IsTrue (has_lit c (neg_ℤ (lit_at worked_trail.lits k))) → reason_at worked_trail.marks k ≡ Clause n → numbered worked_clauses n ≡ Some r → within (without r (lit_at worked_trail.lits k)) c ≡ false
    at zero n r lt low h why is = absurd cc
    at (suc zero) n r lt low h why is = absurd (true_false (has_lit c (minus 4)) h no_4)
    at (suc (suc zero)) n r lt low h why is = absurd cc
    at (suc (suc (suc zero))) n r lt low h why is = ap (λ (q : List ℤ). within (without q (pos 6)) c) (reason_of_6 n r why is) ∙ ap (λ (b : Bool). b && true) no_5
    at (suc (suc (suc (suc zero)))) n r lt low h why is = absurd cc
    at (suc (suc (suc (suc (suc zero))))) n r lt low h why is = absurd (omega (arith, low))
    at (suc (suc (suc (suc (suc (suc zero)))))) n r lt low h why is = absurd (omega (arith, low))
    at (suc (suc (suc (suc (suc (suc (suc k))))))) n r lt low h why is = absurd (omega (arith, lt))

pub lower_stays : IsMinimal worked_clauses worked_trail (minus 3 ∷ minus 6 ∷ minus 8 ∷ [])
lower_stays = stays (minus 3 ∷ minus 6 ∷ minus 8 ∷ []) refl refl

pub present_stays : IsMinimal worked_clauses worked_trail (minus 6 ∷ minus 8 ∷ minus 9 ∷ [])
present_stays = stays (minus 6 ∷ minus 8 ∷ minus 9 ∷ []) refl refl

-- ---- what a conflict teaches

-- in a clause without -5, no literal but -4 can be redundant
none_redundant : (c : List ℤ) → has_lit c (minus 5) ≡ false → (k : ℕ) → k < 7 → (k ≡ 1 → ⊥) → IsRedundant worked_clauses worked_trail c k → ⊥
none_redundant c no_5 zero lt n r = let e : Decided ≡ Clause r.number = r.why in cc
none_redundant c no_5 (suc zero) lt n r = n refl
none_redundant c no_5 (suc (suc zero)) lt n r = let e : Decided ≡ Clause r.number = r.why in cc
none_redundant c no_5 (suc (suc (suc zero))) lt n r =
    let e : within (without r.reason (pos 6)) c ≡ false = ap (λ (q : List ℤ). within (without q (pos 6)) c) (reason_of_6 r.number r.reason r.why r.is) ∙ ap (λ (b : Bool). b && true) no_5 in
    true_false (within (without r.reason (pos 6)) c) r.others e
none_redundant c no_5 (suc (suc (suc (suc zero)))) lt n r = let e : Decided ≡ Clause r.number = r.why in cc
none_redundant c no_5 (suc (suc (suc (suc (suc zero))))) lt n r = omega (arith, r.lower)
none_redundant c no_5 (suc (suc (suc (suc (suc (suc zero)))))) lt n r = omega (arith, r.lower)
none_redundant c no_5 (suc (suc (suc (suc (suc (suc (suc k))))))) lt n r = omega (arith, lt)

-- with -3 in the clause, -4 is redundant
redundant_4 : (c : List ℤ) → has_lit c (minus 3) ≡ true → IsRedundant worked_clauses worked_trail c 1
redundant_4 c has_3 = record { lower = omega arith; number = 1; why = refl; reason = minus 3 ∷ pos 4 ∷ []; is = refl; others = ap (λ (b : Bool). b && true) has_3 }

-- a clause with -3 and without -5, -7 and -9 loses -4 alone
loses_4 : (c : List ℤ) → IsTrue (within (minus 3 ∷ minus 6 ∷ minus 8 ∷ []) c) → has_lit c (minus 3) ≡ true → has_lit c (minus 5) ≡ false → has_lit c (minus 7) ≡ false → has_lit c (minus 9) ≡ false → IsMinimized worked_clauses worked_trail c (minus 3 ∷ minus 6 ∷ minus 8 ∷ [])
loses_4 c part has_3 no_5 no_7 no_9 = record {
  part = part;
  stays = λ k lt has r. none_redundant c no_5 k lt (λ e. no_4 k e has) r;
  goes = goes;
}
  where
    no_4 : (k : ℕ) → k ≡ 1 → IsTrue (has_lit (minus 3 ∷ minus 6 ∷ minus 8 ∷ []) (neg_ℤ (lit_at worked_trail.lits k))) → ⊥
    no_4 k e has = let h : false ≡ true = subst (λ (j : ℕ). IsTrue (has_lit (minus 3 ∷ minus 6 ∷ minus 8 ∷ []) (neg_ℤ (lit_at worked_trail.lits j)))) e has in cc

    goes : (k : ℕ) → k < 7 → IsTrue (has_lit c (neg_ℤ (lit_at worked_trail.lits k))) → has_lit (minus 3 ∷ minus 6 ∷ minus 8 ∷ []) (neg_ℤ (lit_at worked_trail.lits k)) ≡ false → IsRedundant worked_clauses worked_trail c k
    goes zero lt has off = absurd (let e : true ≡ false = off in cc)
    goes (suc zero) lt has off = redundant_4 c has_3
    goes (suc (suc zero)) lt has off = absurd (true_false (has_lit c (minus 5)) has no_5)
    goes (suc (suc (suc zero))) lt has off = absurd (let e : true ≡ false = off in cc)
    goes (suc (suc (suc (suc zero)))) lt has off = absurd (true_false (has_lit c (minus 7)) has no_7)
    goes (suc (suc (suc (suc (suc zero))))) lt has off = absurd (let e : true ≡ false = off in cc)
    goes (suc (suc (suc (suc (suc (suc zero)))))) lt has off = absurd (true_false (has_lit c (minus 9)) has no_9)
    goes (suc (suc (suc (suc (suc (suc (suc k))))))) lt has off = absurd (omega (arith, lt))

pub redundant_goes : IsMinimized worked_clauses worked_trail (minus 3 ∷ minus 4 ∷ minus 6 ∷ minus 8 ∷ []) (minus 3 ∷ minus 6 ∷ minus 8 ∷ [])
redundant_goes = loses_4 (minus 3 ∷ minus 4 ∷ minus 6 ∷ minus 8 ∷ []) refl refl refl refl refl

pub other_stays : IsMinimized worked_clauses worked_trail (minus 3 ∷ minus 4 ∷ minus 6 ∷ minus 8 ∷ []) (minus 3 ∷ minus 8 ∷ []) → ⊥
other_stays m = none_redundant (minus 3 ∷ minus 4 ∷ minus 6 ∷ minus 8 ∷ []) refl 3 (omega arith) (λ e. omega (arith, e)) (m.goes 3 (omega arith) refl refl)

pub redundant_stays : IsMinimized worked_clauses worked_trail (minus 3 ∷ minus 4 ∷ minus 6 ∷ minus 8 ∷ []) (minus 3 ∷ minus 4 ∷ minus 6 ∷ minus 8 ∷ []) → ⊥
redundant_stays m = m.stays 1 (omega arith) refl (redundant_4 (minus 3 ∷ minus 4 ∷ minus 6 ∷ minus 8 ∷ []) refl)

-- the clause of the first unique implication point, as resolution leaves it
abbrev whole_clause : List ℤ
whole_clause = minus 8 ∷ minus 4 ∷ minus 3 ∷ minus 8 ∷ minus 6 ∷ []

-- each literal of a list is one of the five
among : (P : ℤ → Type 0) → (a b c d e : ℤ) → P a → P b → P c → P d → P e → (l : ℤ) → IsTrue (has_lit (a ∷ b ∷ c ∷ d ∷ e ∷ []) l) → P l
among P a b c d e pa pb pc pd pe l h = elim (or_cases (int_eq l a) (has_lit (b ∷ c ∷ d ∷ e ∷ []) l) h) [
  | inl s ↦ subst P (sym (same_lit l a s)) pa
  | inr h1 ↦ elim (or_cases (int_eq l b) (has_lit (c ∷ d ∷ e ∷ []) l) h1) [
    | inl s ↦ subst P (sym (same_lit l b s)) pb
    | inr h2 ↦ elim (or_cases (int_eq l c) (has_lit (d ∷ e ∷ []) l) h2) [
      | inl s ↦ subst P (sym (same_lit l c s)) pc
      | inr h3 ↦ elim (or_cases (int_eq l d) (has_lit (e ∷ []) l) h3) [
        | inl s ↦ subst P (sym (same_lit l d s)) pd
        | inr h4 ↦ elim (or_cases (int_eq l e) false h4) [ inl s ↦ subst P (sym (same_lit l e s)) pe | inr z ↦ absurd cc ]
      ]
    ]
  ]
]

false_at : (l : ℤ) (k : ℕ) → k < 7 → lit_at worked_trail.lits k ≡ neg_ℤ l → FalseBy worked_trail.lits 7 l
false_at l k lt there = record { place = k; below = lt; within = lt; there = there }

-- 9 stands last, and its reason is the fourth clause
step_back : StepsBack worked_clauses worked_trail (minus 8 ∷ minus 9 ∷ minus 4 ∷ minus 3 ∷ []) 4 whole_clause
step_back = record {
  two = record {
    one = minus 8;
    other = minus 9;
    differ = λ e. absurd cc;
    has_one = refl;
    has_other = refl;
    at_one = record { place = 5; within = omega arith; there = refl; at = refl };
    at_other = record { place = 6; within = omega arith; there = refl; at = refl };
  };
  place = 6;
  on_trail = omega arith;
  has = refl;
  last = record { are = λ l h. among (FalseBy worked_trail.lits 7) (minus 8) (minus 9) (minus 4) (minus 3) (minus 3) (false_at (minus 8) 5 (omega arith) refl) (false_at (minus 9) 6 (omega arith) refl) (false_at (minus 4) 1 (omega arith) refl) (false_at (minus 3) 0 (omega arith) refl) (false_at (minus 3) 0 (omega arith) refl) l (once_more l h) };
  why = refl;
  reason = minus 8 ∷ minus 6 ∷ pos 9 ∷ [];
  is = refl;
  resolved = refl;
}
  where
    once_more : (l : ℤ) → IsTrue (has_lit (minus 8 ∷ minus 9 ∷ minus 4 ∷ minus 3 ∷ []) l) → IsTrue (has_lit (minus 8 ∷ minus 9 ∷ minus 4 ∷ minus 3 ∷ minus 3 ∷ []) l)
    once_more l h = at_each (has_lit (minus 8 ∷ minus 9 ∷ minus 4 ∷ minus 3 ∷ minus 3 ∷ [])) (minus 8 ∷ minus 9 ∷ minus 4 ∷ minus 3 ∷ []) refl l h

pub taught : IsTaught worked_clauses worked_trail 5 (minus 3 ∷ minus 6 ∷ minus 8 ∷ [])
taught = record {
  whole = whole_clause;
  leads = record { clause = minus 8 ∷ minus 9 ∷ minus 4 ∷ minus 3 ∷ []; is = refl; reasons = 4 ∷ []; resolutions = (whole_clause, step_back, refl) };
  point = record {
    lit = minus 8;
    has = refl;
    present = record { place = 5; within = omega arith; there = refl; at = refl };
    others = λ l h n. among (λ (m : ℤ). m ≢ minus 8 → level_by worked_trail m < 3) (minus 8) (minus 4) (minus 3) (minus 8) (minus 6) (λ o. absurd (o refl)) (λ o. omega arith) (λ o. omega arith) (λ o. absurd (o refl)) (λ o. omega arith) l h n;
  };
  minimized = loses_4 whole_clause refl refl refl refl refl;
}
