-- Levels of a trail: how they climb, where each begins, and how both go through a literal more, literals dropped and a reason settled.
use Rattle.std.proofs.Common.{◌≡◌, ℕ, zero, suc, ◌+◌, ◌<◌, ◌≤◌, Bool, true, false, cond, List, [], ◌∷◌, ◌++◌, length, take, get_or, set, refl, sym, ap, ◌∙◌, ◌⊎◌, inl, inr, arith, add-one, length-append}
use Rattle.std.specs.Prelude.{nat_le, ◌↔◌}
use Rattle.std.proofs.lemmas.Bool.{leb-true, leb-false, le-leb, cases_Bool}
use Rattle.std.proofs.lemmas.List.{length-take, get_or_append_left, get_or-take, get_or_push, get_or_read}
use Rattle.mono_trail.specs.declared.reason.Mark.{Mark}
use Rattle.mono_trail.specs.declared.reason.Reason.{Reason}
use Rattle.mono_trail.specs.declared.reason.Reason.TheVariants.{Decided, Clause, Late}
use Rattle.mono_trail.specs.Kept.{AreStarts, starts_after}
use Rattle.mono_trail.specs.Places.{level_at, reason_at}
use Rattle.mono_trail.specs.TrailView.{Climbs, count_to, next_level}

-- ---- how levels climb

pub next_at_least : (r : Reason) (low : ℕ) → low ≤ next_level r low
next_at_least Decided low = omega arith
next_at_least (Clause n) low = omega arith
next_at_least (Late a k) low = omega arith

pub next_at_most : (r : Reason) (low : ℕ) → next_level r low ≤ low + 1
next_at_most Decided low = omega arith
next_at_most (Clause n) low = omega arith
next_at_most (Late a k) low = omega arith

pub climbs_to : (low : ℕ) (ms : List Mark) (top : ℕ) → Climbs low ms top → low ≤ top
climbs_to low [] top c = omega (arith, c)
climbs_to low (m ∷ ms) top c = omega (arith, c.0, next_at_least m.reason low, climbs_to m.level ms top c.1)

-- there are no more levels than marks
pub climbs_bound : (low : ℕ) (ms : List Mark) (top : ℕ) → Climbs low ms top → top ≤ low + length ms
climbs_bound low [] top c = omega (arith, c)
climbs_bound low (m ∷ ms) top c = omega (arith, c.0, next_at_most m.reason low, climbs_bound m.level ms top c.1)

pub climbs_push : (low : ℕ) (ms : List Mark) (top : ℕ) (m : Mark) → Climbs low ms top → m.level ≡ next_level m.reason top → Climbs low (ms ++ m ∷ []) m.level
climbs_push low [] top m c e = (e ∙ ap (next_level m.reason) c, refl)
climbs_push low (n ∷ ms) top m c e = (c.0, climbs_push n.level ms top m c.1 e)

pub climbs_back : (low : ℕ) (ms : List Mark) (top level : ℕ) → Climbs low ms top → low ≤ level → level ≤ top → Climbs low (take (count_to level ms) ms) level
climbs_back low [] top level c a b = omega (arith, c, a, b)
climbs_back low (m ∷ ms) top level c a b = by_level (nat_le m.level level) refl (λ le. climbs_back m.level ms top level c.1 le b)
  where
    by_level : (b : Bool) → nat_le m.level level ≡ b → (m.level ≤ level → Climbs m.level (take (count_to level ms) ms) level) → Climbs low (take (cond b (count_to level ms + 1) 0) (m ∷ ms)) level
    by_level true e ih = rw add-one (c.0, ih (leb-true m.level level e))
    by_level false e ih = omega (arith, c.0, a, next_at_most m.reason low, leb-false m.level level e)

late_stays : (r : Reason) (a q low level : ℕ) → r ≡ Late a q → level ≡ next_level r low → level ≡ low
late_stays r a q low level e h = h ∙ ap (λ (s : Reason). next_level s low) e

pub climbs_settle : (low : ℕ) (ms : List Mark) (top k a q n : ℕ) → Climbs low ms top → reason_at ms k ≡ Late a q → Climbs low (set ms k (record { level = level_at ms k; reason = Clause n })) top
climbs_settle low [] top k a q n c e = c
climbs_settle low (m ∷ ms) top zero a q n c e = (late_stays m.reason a q low m.level e c.0, c.1)
climbs_settle low (m ∷ ms) top (suc k) a q n c e = (c.0, climbs_settle m.level ms top k a q n c.1 e)

-- ---- how many literals are of levels up to one

pub count_within : (j : ℕ) (ms : List Mark) → count_to j ms ≤ length ms
count_within j [] = omega arith
count_within j (m ∷ ms) = by_level (nat_le m.level j) (count_within j ms)
  where
    by_level : (b : Bool) → count_to j ms ≤ length ms → cond b (count_to j ms + 1) 0 ≤ suc (length ms)
    by_level true ih = omega (arith, ih)
    by_level false ih = omega arith

-- no mark is above the present level
pub count_all : (low : ℕ) (ms : List Mark) (top j : ℕ) → Climbs low ms top → top ≤ j → count_to j ms ≡ length ms
count_all low [] top j c h = refl
count_all low (m ∷ ms) top j c h =
    let on : nat_le m.level j ≡ true = le-leb m.level j (omega (arith, h, climbs_to m.level ms top c.1)) in
    rw on (omega (arith, count_all m.level ms top j c.1 h))

-- a level below the present one ends before the last mark
pub count_inside : (low : ℕ) (ms : List Mark) (top j : ℕ) → Climbs low ms top → low ≤ j → j < top → count_to j ms < length ms
count_inside low [] top j c a b = omega (arith, c, a, b)
count_inside low (m ∷ ms) top j c a b = by_level (nat_le m.level j) refl (λ le. count_inside m.level ms top j c.1 le b)
  where
    by_level : (b : Bool) → nat_le m.level j ≡ b → (m.level ≤ j → count_to j ms < length ms) → cond b (count_to j ms + 1) 0 < suc (length ms)
    by_level true e ih = omega (arith, ih (leb-true m.level j e))
    by_level false e ih = omega arith

pub count_push : (j : ℕ) (ms : List Mark) (m : Mark) → count_to j ms < length ms → count_to j (ms ++ m ∷ []) ≡ count_to j ms
count_push j [] m h = omega (arith, h)
count_push j (n ∷ ms) m h = by_level (nat_le n.level j) h (λ lt. count_push j ms m lt)
  where
    by_level : (b : Bool) → cond b (count_to j ms + 1) 0 < suc (length ms) → (count_to j ms < length ms → count_to j (ms ++ m ∷ []) ≡ count_to j ms) → cond b (count_to j (ms ++ m ∷ []) + 1) 0 ≡ cond b (count_to j ms + 1) 0
    by_level true g ih = ap (λ (k : ℕ). k + 1) (ih (omega (arith, g)))
    by_level false g ih = refl

pub count_push_above : (j : ℕ) (ms : List Mark) (m : Mark) → count_to j ms ≡ length ms → j < m.level → count_to j (ms ++ m ∷ []) ≡ length ms
count_push_above j [] m h lt = by_level (nat_le m.level j) refl
  where
    by_level : (b : Bool) → nat_le m.level j ≡ b → ◌≡◌ {A = ℕ} (cond b 1 0) 0
    by_level true e = omega (arith, lt, leb-true m.level j e)
    by_level false e = refl
count_push_above j (n ∷ ms) m h lt = by_level (nat_le n.level j) h (λ e. count_push_above j ms m e lt)
  where
    by_level : (b : Bool) → cond b (count_to j ms + 1) 0 ≡ suc (length ms) → (count_to j ms ≡ length ms → count_to j (ms ++ m ∷ []) ≡ length ms) → cond b (count_to j (ms ++ m ∷ []) + 1) 0 ≡ suc (length ms)
    by_level true g ih = omega (arith, ih (omega (arith, g)))
    by_level false g ih = omega (arith, g)

count_mono : (i j : ℕ) (ms : List Mark) → i ≤ j → count_to i ms ≤ count_to j ms
count_mono i j [] h = omega arith
count_mono i j (m ∷ ms) h = by_levels (nat_le m.level i) (nat_le m.level j) refl refl (count_mono i j ms h)
  where
    by_levels : (a b : Bool) → nat_le m.level i ≡ a → nat_le m.level j ≡ b → count_to i ms ≤ count_to j ms → cond a (count_to i ms + 1) 0 ≤ cond b (count_to j ms + 1) 0
    by_levels false b ea eb ih = omega arith
    by_levels true true ea eb ih = omega (arith, ih)
    by_levels true false ea eb ih = absurd (omega (arith, h, leb-true m.level i ea, leb-false m.level j eb))

count_take : (j : ℕ) (ms : List Mark) (k : ℕ) → count_to j ms ≤ k → count_to j (take k ms) ≡ count_to j ms
count_take j [] zero h = refl
count_take j [] (suc k) h = refl
count_take j (m ∷ ms) zero h = omega (arith, h)
count_take j (m ∷ ms) (suc k) h = by_level (nat_le m.level j) h (λ le. count_take j ms k le)
  where
    by_level : (b : Bool) → cond b (count_to j ms + 1) 0 ≤ suc k → (count_to j ms ≤ k → count_to j (take k ms) ≡ count_to j ms) → cond b (count_to j (take k ms) + 1) 0 ≡ cond b (count_to j ms + 1) 0
    by_level true g ih = ap (λ (i : ℕ). i + 1) (ih (omega (arith, g)))
    by_level false g ih = refl

count_set : (j : ℕ) (ms : List Mark) (k : ℕ) (r : Reason) → count_to j (set ms k (record { level = level_at ms k; reason = r })) ≡ count_to j ms
count_set j [] k r = refl
count_set j (m ∷ ms) zero r = refl
count_set j (m ∷ ms) (suc k) r = ap (λ (n : ℕ). cond (nat_le m.level j) (n + 1) 0) (count_set j ms k r)

-- ---- where each level begins

pub starts_join : (starts : List ℕ) (marks : List Mark) (level place : ℕ) (m : Mark) → AreStarts starts marks level → Climbs 0 marks level → m.level ≡ next_level m.reason level → place ≡ length marks → AreStarts (starts_after m.reason starts place) (marks ++ m ∷ []) m.level
starts_join starts marks level place m s c e at = by_reason m.reason e
  where
    stays : m.level ≡ level → AreStarts starts (marks ++ m ∷ []) m.level
    stays f = record { levels = s.levels ∙ sym f; at = λ j lt. s.at j (omega (arith, f, lt)) ∙ sym (count_push j marks m (count_inside 0 marks level j c (omega arith) (omega (arith, f, lt)))) }

    one_more : m.level ≡ level + 1 → (j : ℕ) → (j < level) ⊎ (j ≡ level) → get_or (starts ++ place ∷ []) j 0 ≡ count_to j (marks ++ m ∷ [])
    one_more f j (inl lt) = get_or_append_left starts (place ∷ []) 0 j (omega (arith, lt, s.levels)) ∙ s.at j lt ∙ sym (count_push j marks m (count_inside 0 marks level j c (omega arith) lt))
    one_more f j (inr same) = get_or_push starts place 0 j (s.levels ∙ sym same) ∙ at ∙ sym (count_push_above j marks m (count_all 0 marks level j c (omega (arith, same))) (omega (arith, f, same)))

    below_or_at : (j : ℕ) → j < level + 1 → (j < level) ⊎ (j ≡ level)
    below_or_at j lt = elim (cases_Bool (nat_le level j)) [ inl h ↦ inr (let g = leb-true level j h in omega (arith, g, lt)) | inr h ↦ inl (let g = leb-false level j h in omega (arith, g, lt)) ]

    by_reason : (r : Reason) → m.level ≡ next_level r level → AreStarts (starts_after r starts place) (marks ++ m ∷ []) m.level
    by_reason Decided f = record { levels = omega (arith, length-append starts (place ∷ []), s.levels, f); at = λ j lt. one_more f j (below_or_at j (omega (arith, f, lt))) }
    by_reason (Clause n) f = stays f
    by_reason (Late a k) f = stays f

pub starts_back : (starts : List ℕ) (marks : List Mark) (level low : ℕ) → AreStarts starts marks level → low ≤ level → AreStarts (take low starts) (take (count_to low marks) marks) low
starts_back starts marks level low s le = record {
  levels = omega (arith, length-take low starts, s.levels, le);
  at = λ j lt. get_or-take low starts j 0 lt ∙ s.at j (omega (arith, lt, le)) ∙ sym (count_take j marks (count_to low marks) (count_mono j low marks (omega (arith, lt))));
}

pub starts_settle : (starts : List ℕ) (marks : List Mark) (level k : ℕ) (r : Reason) → AreStarts starts marks level → AreStarts starts (set marks k (record { level = level_at marks k; reason = r })) level
starts_settle starts marks level k r s = record { levels = s.levels; at = λ j lt. s.at j lt ∙ sym (count_set j marks k r) }

-- what the table of starts answers
pub start_read : (starts : List ℕ) (marks : List Mark) (level j x : ℕ) → AreStarts starts marks level → j < level → x ≡ get_or starts j x → x ≡ count_to j marks
start_read starts marks level j x s lt e = get_or_read starts j x (omega (arith, lt, s.levels)) e 0 ∙ s.at j lt

-- ---- the literals up to a level come first

pub at_least : (low : ℕ) (ms : List Mark) (top k : ℕ) → Climbs low ms top → k < length ms → low ≤ level_at ms k
at_least low [] top k c lt = absurd (omega (arith, lt))
at_least low (m ∷ ms) top zero c lt = omega (arith, c.0, next_at_least m.reason low)
at_least low (m ∷ ms) top (suc k) c lt = omega (arith, c.0, next_at_least m.reason low, at_least m.level ms top k c.1 (omega (arith, lt)))

pub at_most : (low : ℕ) (ms : List Mark) (top k : ℕ) → Climbs low ms top → k < length ms → level_at ms k ≤ top
at_most low [] top k c lt = absurd (omega (arith, lt))
at_most low (m ∷ ms) top zero c lt = climbs_to m.level ms top c.1
at_most low (m ∷ ms) top (suc k) c lt = at_most m.level ms top k c.1 (omega (arith, lt))

pub up_to_level : (low : ℕ) (ms : List Mark) (top level k : ℕ) → Climbs low ms top → k < length ms → k < count_to level ms ↔ level_at ms k ≤ level
up_to_level low [] top level k c lt = absurd (omega (arith, lt))
up_to_level low (m ∷ ms) top level zero c lt = by_level (nat_le m.level level) refl
  where
    by_level : (b : Bool) → nat_le m.level level ≡ b → 0 < cond b (count_to level ms + 1) 0 ↔ m.level ≤ level
    by_level true e = (λ h. leb-true m.level level e, λ h. omega arith)
    by_level false e = (λ h. absurd (omega (arith, h)), λ h. absurd (omega (arith, h, leb-false m.level level e)))
up_to_level low (m ∷ ms) top level (suc k) c lt = by_level (nat_le m.level level) refl (up_to_level m.level ms top level k c.1 (omega (arith, lt))) (at_least m.level ms top k c.1 (omega (arith, lt)))
  where
    by_level : (b : Bool) → nat_le m.level level ≡ b → (k < count_to level ms ↔ level_at ms k ≤ level) → m.level ≤ level_at ms k → suc k < cond b (count_to level ms + 1) 0 ↔ level_at ms k ≤ level
    by_level true e ih up = (λ h. ih.0 (omega (arith, h)), λ h. let g = ih.1 h in omega (arith, g))
    by_level false e ih up = (λ h. absurd (omega (arith, h)), λ h. absurd (omega (arith, h, up, leb-false m.level level e)))

pub kept_low : (level : ℕ) (ms : List Mark) (k : ℕ) → k < count_to level ms → level_at ms k ≤ level
kept_low level [] k lt = absurd (omega (arith, lt))
kept_low level (m ∷ ms) k lt = by_level (nat_le m.level level) refl k lt (λ j. kept_low level ms j)
  where
    by_level : (b : Bool) → nat_le m.level level ≡ b → (k : ℕ) → k < cond b (count_to level ms + 1) 0 → ((j : ℕ) → j < count_to level ms → level_at ms j ≤ level) → level_at (m ∷ ms) k ≤ level
    by_level false e k lt ih = absurd (omega (arith, lt))
    by_level true e zero lt ih = leb-true m.level level e
    by_level true e (suc k) lt ih = ih k (omega (arith, lt))
