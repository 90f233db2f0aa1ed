-- How marking a place changes the marks.
use Rattle.std.proofs.Common.{◌≡◌, ◌≢◌, ℕ, zero, suc, ◌+◌, ◌<◌, ◌≤◌, Bool, true, false, List, [], ◌∷◌, ◌++◌, length, set, refl, sym, ap, subst, ◌∙◌, ◌⊎◌, inl, inr, ℤ, neg_ℤ, arith, get_or-set_same, get_or-set_other}
use Rattle.std.specs.Prelude.{IsTrue, Contains}
use Rattle.std.proofs.lemmas.Bool.{cases_eq}
use Rattle.std.proofs.lemmas.List.{length-set}
use Rattle.mono_base.specs.Literal.{has_lit, lit_at}
use Rattle.mono_learn.proofs.LitSets.{has-append_left, has_one, one_cases}
use Rattle.mono_base.proofs.Partials.{neg-neg}
use Rattle.std.proofs.lemmas.List.Elements.{Contains-push, Contains-push_cases, Contains-append_left}
use Rattle.mono_trail.specs.Seen.{is_marked}
use Rattle.mono_learn.specs.Resolvents.{marked_from, MarkedBy, IsMarked, IsResolvent}

pub mark_below : (s p : ℕ) (bs : List Bool) (b : Bool) → p < s → marked_from s (set bs p b) ≡ marked_from s bs
mark_below zero p bs b lt = absurd (omega arith)
mark_below (suc s) p [] b lt = refl
mark_below (suc s) zero (x ∷ bs) b lt = refl
mark_below (suc s) (suc p) (x ∷ bs) b lt = mark_below s p bs b (omega arith)

pub mark_more : (s p : ℕ) (bs : List Bool) → s ≤ p → p < length bs → is_marked bs p ≡ false → marked_from s (set bs p true) ≡ marked_from s bs + 1
mark_more s p [] le lt off = absurd (omega arith)
mark_more zero zero (x ∷ bs) le lt off = let e : x ≡ false = off in rw e (omega arith)
mark_more zero (suc p) (x ∷ bs) le lt off = omega (arith, mark_more zero p bs (omega arith) (omega arith) off)
mark_more (suc s) zero (x ∷ bs) le lt off = absurd (omega arith)
mark_more (suc s) (suc p) (x ∷ bs) le lt off = mark_more s p bs (omega arith) (omega arith) off

pub mark_less : (s p : ℕ) (bs : List Bool) → s ≤ p → is_marked bs p ≡ true → marked_from s bs ≡ marked_from s (set bs p false) + 1
mark_less s p [] le on = cc
mark_less zero zero (x ∷ bs) le on = let e : x ≡ true = on in rw e (omega arith)
mark_less zero (suc p) (x ∷ bs) le on = omega (arith, mark_less zero p bs (omega arith) on)
mark_less (suc s) zero (x ∷ bs) le on = absurd (omega arith)
mark_less (suc s) (suc p) (x ∷ bs) le on = mark_less s p bs (omega arith) on

pub marked_within : (p : ℕ) (bs : List Bool) → is_marked bs p ≡ true → p < length bs
marked_within p [] on = cc
marked_within zero (x ∷ bs) on = omega arith
marked_within (suc p) (x ∷ bs) on = let r = marked_within p bs on in omega arith

pub marked_le : (s : ℕ) (bs : List Bool) → marked_from s bs ≤ length bs
marked_le s [] = omega arith
marked_le zero (true ∷ bs) = omega (arith, marked_le zero bs)
marked_le zero (false ∷ bs) = omega (arith, marked_le zero bs)
marked_le (suc s) (x ∷ bs) = omega (arith, marked_le s bs)

-- a marked place, from s on
pub record HasMark (s : ℕ) (bs : List Bool) : Type 0 where
  pub place : ℕ
  pub from : s ≤ place
  pub marked : is_marked bs place ≡ true

pub has_mark : (s : ℕ) (bs : List Bool) → 1 ≤ marked_from s bs → HasMark s bs
has_mark s [] h = absurd (omega arith)
has_mark zero (true ∷ bs) h = record { place = 0; from = omega arith; marked = refl }
has_mark zero (false ∷ bs) h = let r = has_mark zero bs (omega (arith, h)) in record { place = suc r.place; from = omega arith; marked = r.marked }
has_mark (suc s) (x ∷ bs) h = let r = has_mark s bs h in record { place = suc r.place; from = omega (arith, r.from); marked = r.marked }

-- what is marked stays so
stays : (seen : List Bool) (p k : ℕ) → p < length seen → is_marked seen k ≡ true → is_marked (set seen p true) k ≡ true
stays seen p k lt on = elim (cases_eq k p) [
  | inl e ↦ rw e (get_or-set_same seen p true false lt)
  | inr n ↦ get_or-set_other seen p k true false n ∙ on
]

was : (seen : List Bool) (p k : ℕ) → k ≢ p → is_marked (set seen p true) k ≡ true → is_marked seen k ≡ true
was seen p k n on = sym (get_or-set_other seen p k true false n) ∙ on

-- what is unmarked
pub unmarked : (seen : List Bool) (p k : ℕ) → is_marked (set seen p false) k ≡ true → (k ≢ p) × (is_marked seen k ≡ true)
unmarked seen p k on = by_place (cases_eq k p)
  where
    off : (k ≡ p) → is_marked seen p ≡ true → ⊥
    off e h = let z : is_marked (set seen p false) p ≡ false = get_or-set_same seen p false false (marked_within p seen h) in (let w : false ≡ true = sym z ∙ subst (λ (j : ℕ). is_marked (set seen p false) j ≡ true) e on in cc)

    beyond : (bs : List Bool) (q : ℕ) → is_marked (set bs q false) q ≡ true → is_marked bs q ≡ true
    beyond [] q h = h
    beyond (b ∷ bs) zero h = cc
    beyond (b ∷ bs) (suc q) h = beyond bs q h

    by_place : (k ≡ p) ⊎ (k ≢ p) → (k ≢ p) × (is_marked seen k ≡ true)
    by_place (inl e) = absurd (off e (beyond seen p (subst (λ (j : ℕ). is_marked (set seen p false) j ≡ true) e on)))
    by_place (inr n) = (n, sym (get_or-set_other seen p k false false n) ∙ on)

pub stays_other : (seen : List Bool) (p k : ℕ) → k ≢ p → is_marked seen k ≡ true → is_marked (set seen p false) k ≡ true
stays_other seen p k n on = get_or-set_other seen p k false false n ∙ on

marked_stays : (t : List ℤ) (seen : List Bool) (p n : ℕ) (l : ℤ) → p < length seen → MarkedBy t seen n l → MarkedBy t (set seen p true) n l
marked_stays t seen p n l lt m = record { place = m.place; below = m.below; there = m.there; marked = stays seen p m.place lt m.marked }

same_neg : (a m l : ℤ) → a ≡ neg_ℤ l → a ≡ neg_ℤ m → m ≡ l
same_neg a m l x y = sym (neg-neg m) ∙ ap neg_ℤ (sym y ∙ x) ∙ neg-neg l

-- the literals of the marks below n, when a place is marked
more_only : (t : List ℤ) (seen : List Bool) (p n : ℕ) (l : ℤ) (e : List ℤ) → p < length seen → p < n → lit_at t p ≡ neg_ℤ l → ((m : ℤ) → IsTrue (has_lit e m) → MarkedBy t seen n m) → (m : ℤ) → IsTrue (has_lit (e ++ l ∷ []) m) → MarkedBy t (set seen p true) n m
more_only t seen p n l e lt low at old m h = elim (one_cases e l m h) [
  | inl a ↦ marked_stays t seen p n m lt (old m a)
  | inr s ↦ record { place = p; below = low; there = at ∙ ap neg_ℤ (sym s); marked = get_or-set_same seen p true false lt }
]

more_all : (t : List ℤ) (seen : List Bool) (p n : ℕ) (l : ℤ) (e : List ℤ) → lit_at t p ≡ neg_ℤ l → ((m : ℤ) → MarkedBy t seen n m → IsTrue (has_lit e m)) → (m : ℤ) → MarkedBy t (set seen p true) n m → IsTrue (has_lit (e ++ l ∷ []) m)
more_all t seen p n l e at old m k = elim (cases_eq k.place p) [
  | inl s ↦ subst (λ (x : ℤ). IsTrue (has_lit (e ++ l ∷ []) x)) (sym (same_neg (lit_at t p) m l at (sym (ap (lit_at t) s) ∙ k.there))) (has_one e l)
  | inr d ↦ has-append_left e (l ∷ []) m (old m (record { place = k.place; below = k.below; there = k.there; marked = was seen p k.place d k.marked }))
]

more_below : (seen : List Bool) (p top : ℕ) → p < top → ((k : ℕ) → is_marked seen k ≡ true → k < top) → (k : ℕ) → is_marked (set seen p true) k ≡ true → k < top
more_below seen p top lt old k on = elim (cases_eq k p) [ inl e ↦ omega (arith, e, lt) | inr n ↦ old k (was seen p k n on) ]

-- a place is marked
marked_more : (t : List ℤ) (top : ℕ) (seen : List Bool) (e : List ℤ) (p : ℕ) (l : ℤ) → IsMarked t top seen e → p < top → lit_at t p ≡ neg_ℤ l → IsMarked t top (set seen p true) (e ++ l ∷ [])
marked_more t top seen e p l f high at =
    let within : p < length seen = omega (arith, f.slots, f.within, high) in
    record {
      slots = omega (arith, f.slots, length-set seen p true);
      within = f.within;
      below = more_below seen p top high f.below;
      only = more_only t seen p top l e within high at f.only;
      all = more_all t seen p top l e at f.all;
    }

-- a low place is marked
pub marks_low : (t : List ℤ) (start top : ℕ) (seen : List Bool) (kept : List ℕ) (count : ℕ) (e : List ℤ) (p : ℕ) (l : ℤ) → IsResolvent t start top seen kept count e → p < top → p < start → lit_at t p ≡ neg_ℤ l → IsResolvent t start top (set seen p true) (kept ++ p ∷ []) count (e ++ l ∷ [])
marks_low t start top seen kept count e p l f high low at = record {
  marks = marked_more t top seen e p l f.marks high at;
  counted = f.counted ∙ sym (mark_below start p seen true low);
  kept_only = λ k h. elim (Contains-push_cases kept p k h) [ inl a ↦ f.kept_only k a | inr s ↦ omega (arith, s, low) ];
  kept_all = λ k lt on. elim (cases_eq k p) [
    | inl s ↦ subst (λ (j : ℕ). Contains (kept ++ p ∷ []) j) (sym s) (Contains-push kept p)
    | inr d ↦ Contains-append_left kept (p ∷ []) k (f.kept_all k lt (was seen p k d on))
  ];
}

-- a high place is marked
pub marks_high : (t : List ℤ) (start top : ℕ) (seen : List Bool) (kept : List ℕ) (count : ℕ) (e : List ℤ) (p : ℕ) (l : ℤ) → IsResolvent t start top seen kept count e → p < top → start ≤ p → is_marked seen p ≡ false → lit_at t p ≡ neg_ℤ l → IsResolvent t start top (set seen p true) kept (count + 1) (e ++ l ∷ [])
marks_high t start top seen kept count e p l f high from off at =
    let within : p < length seen = omega (arith, f.marks.slots, f.marks.within, high) in
    record {
      marks = marked_more t top seen e p l f.marks high at;
      counted = omega (arith, f.counted, mark_more start p seen from within off);
      kept_only = f.kept_only;
      kept_all = λ k lt on. f.kept_all k lt (was seen p k (λ s. omega (arith, s, lt, from)) on);
    }

-- a place is marked already
pub marks_again : (t : List ℤ) (start top : ℕ) (seen : List Bool) (kept : List ℕ) (count : ℕ) (e : List ℤ) (p : ℕ) (l : ℤ) → IsResolvent t start top seen kept count e → is_marked seen p ≡ true → lit_at t p ≡ neg_ℤ l → IsResolvent t start top seen kept count (e ++ l ∷ [])
marks_again t start top seen kept count e p l f on at = record {
  marks = record {
    slots = f.marks.slots;
    within = f.marks.within;
    below = f.marks.below;
    only = λ m h. elim (one_cases e l m h) [ inl a ↦ f.marks.only m a | inr s ↦ record { place = p; below = f.marks.below p on; there = at ∙ ap neg_ℤ (sym s); marked = on } ];
    all = λ m k. has-append_left e (l ∷ []) m (f.marks.all m k);
  };
  counted = f.counted;
  kept_only = f.kept_only;
  kept_all = f.kept_all;
}
