-- Levels by place.
use Rattle.std.proofs.Common.{◌≡◌, ℕ, zero, suc, ◌+◌, ◌-◌, ◌<◌, ◌≤◌, Bool, true, false, cond, List, [], ◌∷◌, length, refl, sym, ap, ◌∙◌, ◌⊎◌, inl, inr, arith, ℤ}
use Rattle.std.specs.Prelude.{nat_le, Option, unwrap_or, option_map, fold, max, neg_ℤ, IsTrue}
use Rattle.std.specs.Ordering.{int_eq}
use Rattle.std.proofs.lemmas.Bool.{leb-true, leb-false, or_cases, or_left, or_right, cases_lt}
use Rattle.mono_trail.specs.declared.reason.Mark.{Mark}
use Rattle.mono_trail.specs.declared.reason.Reason.{Reason}
use Rattle.mono_trail.specs.declared.reason.Reason.TheVariants.{Decided, Clause, Late}
use Rattle.mono_trail.specs.Places.{reason_at, level_at}
use Rattle.mono_trail.specs.TrailView.{count_to, TrailView, IsSoundTrail, Climbs, next_level, StandsAt}
use Rattle.mono_trail.proofs.Levels.{next_at_least, climbs_to, at_most, up_to_level, kept_low}
use Rattle.mono_base.specs.Literal.{has_lit}
use Rattle.mono_base.proofs.Truth.{same_lit, lit_itself}
use Rattle.mono_learn.specs.Levels.{level_by, highest_of}
use Rattle.mono_learn.specs.Resolvents.{FalseBy}
use Rattle.mono_learn.specs.Resolving.{AllImplied}
use Rattle.mono_learn.specs.Settled.{Settles}
use Rattle.mono_learn.proofs.PlacesOfLits.{place_of_false}

not_decided : (r : Reason) (low level : ℕ) → level ≡ next_level r low → level ≤ low → r ≡ Decided → ⊥
not_decided Decided low level e le d = omega (arith, e, le)
not_decided (Clause n) low level e le d = cc
not_decided (Late a q) low level e le d = cc

pub implied_on : (low : ℕ) (ms : List Mark) (top k : ℕ) → Climbs low ms top → top ≤ low → k < length ms → reason_at ms k ≡ Decided → ⊥
implied_on low [] top k c le lt d = omega (arith, lt)
implied_on low (m ∷ ms) top zero c le lt d = not_decided m.reason low m.level c.0 (omega (arith, climbs_to m.level ms top c.1, le)) d
implied_on low (m ∷ ms) top (suc k) c le lt d = implied_on m.level ms top k c.1 (omega (arith, c.0, next_at_least m.reason low, le)) (omega (arith, lt)) d

implied_after : (low : ℕ) (ms : List Mark) (top k : ℕ) → Climbs low ms top → 1 ≤ top → count_to (top - 1) ms < k → k < length ms → reason_at ms k ≡ Decided → ⊥
implied_after low [] top k c one lt in_list d = omega (arith, in_list)
implied_after low (m ∷ ms) top zero c one lt in_list d = omega (arith, lt)
implied_after low (m ∷ ms) top (suc k) c one lt in_list d = by_level (nat_le m.level (top - 1)) refl (λ h. implied_after m.level ms top k c.1 one h (omega (arith, in_list)) d)
  where
    by_level : (b : Bool) → nat_le m.level (top - 1) ≡ b → (count_to (top - 1) ms < k → ⊥) → ⊥
    by_level true e ih = ih (let z : count_to (top - 1) (m ∷ ms) ≡ count_to (top - 1) ms + 1 = rw e refl in omega (arith, z, lt))
    by_level false e ih = implied_on m.level ms top k c.1 (omega (arith, leb-false m.level (top - 1) e)) (omega (arith, in_list)) d

pub all_implied : (t : TrailView) (start : ℕ) → IsSoundTrail t → 1 ≤ t.level → start ≡ count_to (t.level - 1) t.marks → AllImplied t start
all_implied t start s one e = record { at = λ k lt in_list d. implied_after 0 t.marks t.level k s.climbs one (omega (arith, lt, e)) (omega (arith, in_list, s.as_many)) d }

pub none_decided : (t : TrailView) (k : ℕ) → IsSoundTrail t → t.level ≡ 0 → k < length t.lits → reason_at t.marks k ≡ Decided → ⊥
none_decided t k s z lt d = implied_on 0 t.marks t.level k s.climbs (omega (arith, z)) (omega (arith, lt, s.as_many)) d

-- from the present level's decision on, each mark is of that level
pub level_high : (low : ℕ) (ms : List Mark) (top k : ℕ) → Climbs low ms top → 1 ≤ top → count_to (top - 1) ms ≤ k → k < length ms → level_at ms k ≡ top
level_high low ms top k c one le lt = elim (cases_lt (top - 1) (level_at ms k)) [
  | inl above ↦ omega (arith, above, at_most low ms top k c lt, one)
  | inr up_to ↦ absurd (omega (arith, le, (up_to_level low ms top (top - 1) k c lt).1 up_to))
]

-- the level of a false literal is that of its place
pub level_is : (t : TrailView) (n : ℕ) (l : ℤ) → IsSoundTrail t → (f : FalseBy t.lits n l) → level_by t l ≡ level_at t.marks f.place
level_is t n l s f = ap (λ (o : Option ℕ). unwrap_or (option_map (level_at t.marks) o) 0) (place_of_false t.lits n l s.partial f)

pub level_before : (t : TrailView) (start n : ℕ) (l : ℤ) → IsSoundTrail t → 1 ≤ t.level → start ≡ count_to (t.level - 1) t.marks → (f : FalseBy t.lits n l) → f.place < start → level_by t l < t.level
level_before t start n l s one e f lt = omega (arith, level_is t n l s f, kept_low (t.level - 1) t.marks f.place (omega (arith, lt, e)), one)

pub level_after : (t : TrailView) (start n : ℕ) (l : ℤ) → IsSoundTrail t → 1 ≤ t.level → start ≡ count_to (t.level - 1) t.marks → (f : FalseBy t.lits n l) → start ≤ f.place → level_by t l ≡ t.level
level_after t start n l s one e f le = level_is t n l s f ∙ level_high 0 t.marks t.level f.place s.climbs one (omega (arith, le, e)) (omega (arith, f.within, s.as_many))

-- what stands at the present level stands from its decision on
pub present_high : (t : TrailView) (start : ℕ) (l : ℤ) → 1 ≤ t.level → start ≡ count_to (t.level - 1) t.marks → (w : StandsAt t l t.level) → start ≤ w.place
present_high t start l one e w = by_place (nat_le start w.place) refl
  where
    by_place : (b : Bool) → nat_le start w.place ≡ b → start ≤ w.place
    by_place true g = leb-true start w.place g
    by_place false g = absurd (omega (arith, kept_low (t.level - 1) t.marks w.place (omega (arith, e, leb-false start w.place g)), w.at, one))

-- a false literal's negation stands at the literal's level
pub stands_at_level : (t : TrailView) (n : ℕ) (l : ℤ) → IsSoundTrail t → (f : FalseBy t.lits n l) → StandsAt t (neg_ℤ l) (level_by t l)
stands_at_level t n l s f = record { place = f.place; within = f.within; there = f.there; at = sym (level_is t n l s f) }

-- ---- the greatest level

fold_le : (t : TrailView) (n : ℕ) (c : List ℤ) → n ≤ fold (λ m l. max m (level_by t l)) n c
fold_le t n [] = omega arith
fold_le t n (x ∷ c) = omega (arith, fold_le t (max n (level_by t x)) c)

fold_has : (t : TrailView) (n : ℕ) (c : List ℤ) (l : ℤ) → IsTrue (has_lit c l) → level_by t l ≤ fold (λ m y. max m (level_by t y)) n c
fold_has t n [] l h = absurd cc
fold_has t n (x ∷ c) l h = elim (or_cases (int_eq l x) (has_lit c l) h) [
  | inl e ↦ omega (arith, ap (level_by t) (same_lit l x e), fold_le t (max n (level_by t x)) c)
  | inr k ↦ fold_has t (max n (level_by t x)) c l k
]

pub highest_has : (t : TrailView) (c : List ℤ) (l : ℤ) → IsTrue (has_lit c l) → level_by t l ≤ highest_of t c
highest_has t c l h = fold_has t 0 c l h

-- a literal of the list is of the level n
pub record HasLevel (t : TrailView) (c : List ℤ) (n : ℕ) : Type 0 where
  pub lit : ℤ
  pub has : IsTrue (has_lit c lit)
  pub level : level_by t lit ≡ n

has_level_later : (t : TrailView) (c : List ℤ) (x : ℤ) (n : ℕ) → HasLevel t c n → HasLevel t (x ∷ c) n
has_level_later t c x n h = record { lit = h.lit; has = or_right (int_eq h.lit x) (has_lit c h.lit) h.has; level = h.level }

fold_reached : (t : TrailView) (n : ℕ) (c : List ℤ) → (fold (λ m l. max m (level_by t l)) n c ≡ n) ⊎ HasLevel t c (fold (λ m l. max m (level_by t l)) n c)
fold_reached t n [] = inl refl
fold_reached t n (x ∷ c) = elim (fold_reached t (max n (level_by t x)) c) [
  | inl e ↦ by_greater (cases_lt n (level_by t x)) e
  | inr h ↦ inr (has_level_later t c x (fold (λ m l. max m (level_by t l)) (max n (level_by t x)) c) h)
]
  where
    by_greater : (n < level_by t x) ⊎ (level_by t x ≤ n) → fold (λ m l. max m (level_by t l)) (max n (level_by t x)) c ≡ max n (level_by t x) → (fold (λ m l. max m (level_by t l)) n (x ∷ c) ≡ n) ⊎ HasLevel t (x ∷ c) (fold (λ m l. max m (level_by t l)) n (x ∷ c))
    by_greater (inr low) e = inl (omega (arith, e, low))
    by_greater (inl high) e = inr (record { lit = x; has = or_left (int_eq x x) (has_lit c x) (lit_itself x); level = omega (arith, e, high) })

pub highest_reached : (t : TrailView) (c : List ℤ) → (highest_of t c ≡ 0) ⊎ HasLevel t c (highest_of t c)
highest_reached t c = fold_reached t 0 c

-- ---- the same levels

-- where levels are the same, so is how many literals stand before the first one above a level
pub count_same : (j : ℕ) (ms ns : List Mark) → length ms ≡ length ns → ((k : ℕ) → level_at ms k ≡ level_at ns k) → count_to j ms ≡ count_to j ns
count_same j [] [] e h = refl
count_same j [] (n ∷ ns) e h = absurd (omega (arith, e))
count_same j (m ∷ ms) [] e h = absurd (omega (arith, e))
count_same j (m ∷ ms) (n ∷ ns) e h =
    let head : m.level ≡ n.level = h 0 in
    let tail : count_to j ms ≡ count_to j ns = count_same j ms ns (omega (arith, e)) (λ k. h (suc k)) in
    ap (λ (i : ℕ). cond (nat_le i j) (count_to j ms + 1) 0) head ∙ ap (λ (i : ℕ). cond (nat_le n.level j) (i + 1) 0) tail

-- the present level begins where it did before reasons were settled
pub starts_same : (cs : List (List ℤ)) (t u : TrailView) → Settles cs t u → count_to (t.level - 1) t.marks ≡ count_to (u.level - 1) u.marks
starts_same cs t u s = count_same (t.level - 1) t.marks u.marks (sym s.as_many) (λ k. sym (s.levels k)) ∙ ap (λ (n : ℕ). count_to (n - 1) u.marks) (sym s.level)

-- the place where the present level begins, as it was read
pub begins_at : (t : TrailView) (level start : ℕ) → level ≡ t.level → start ≡ count_to (level - 1) t.marks → start ≡ count_to (t.level - 1) t.marks
begins_at t level start el es = es ∙ ap (λ (n : ℕ). count_to (n - 1) t.marks) el
