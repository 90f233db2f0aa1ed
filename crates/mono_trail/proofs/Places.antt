-- Where the variables of a trail stand.
use Rattle.std.proofs.Common.{◌≡◌, ◌≢◌, ℕ, zero, suc, ◌+◌, ◌<◌, ◌≤◌, eqb, Bool, true, false, List, [], ◌∷◌, ◌++◌, length, take, get_or, set, eq-eqb, refl, sym, ◌∙◌, ap, subst, arith, ◌⊎◌, inl, inr, length-append}
use Rattle.std.specs.Prelude.{ℤ, pos, Option, None, Some, is_some, option_map, not, replicate, IsTrue, ◌==◌, if◌then◌else◌}
use Rattle.std.proofs.lemmas.Bool.{cases_lt, both_ways, not-true, not-false, false_from_ne_true, or_cases, or_left, or_right, or_parts}
use Rattle.std.proofs.lemmas.Bool.Decides.{eqb_tells}
use Rattle.std.proofs.lemmas.List.{length-set, length-take, length-replicate, get_or-take, get_or-set_same, get_or-set_other, get_or_append_left, get_or_push, get_or_read}
use Rattle.mono_base.specs.Literal.{lit_at, var_of}
use Rattle.mono_base.specs.Partial.{has_var, is_open_in}
use Rattle.mono_base.proofs.Partials.{open_is_new, new_is_open}
use Rattle.mono_trail.specs.Kept.{ArePlaces}
use Rattle.mono_trail.specs.declared.reason.Mark.{Mark}
use Rattle.mono_trail.specs.Places.{place_in, mark_at, no_mark}
use Rattle.mono_trail.specs.TrailView.{TrailView, IsSoundTrail}

-- the variable's literal stands at this place of the list
pub record StandsAtPlace (t : List ℤ) (v k : ℕ) : Type 0 where
  pub within : k < length t
  pub there : var_of (lit_at t k) ≡ v

pub place_none : (t : List ℤ) (v : ℕ) → has_var t v ≡ false → place_in t v ≡ None
place_none [] v h = refl
place_none (x ∷ t) v h =
    let parts = or_parts (var_of x == v) (has_var t v) h in
    rw (parts.0, place_none t v parts.1) refl

-- what place_in answers is the variable's place
pub place_stands : (t : List ℤ) (v k : ℕ) → place_in t v ≡ Some k → StandsAtPlace t v k
place_stands [] v k e = absurd cc
place_stands (x ∷ t) v k e = by_head (eqb_tells (var_of x) v) e (λ j f. place_stands t v j f)
  where
    later : (p : Option ℕ) → option_map (λ j. j + 1) p ≡ Some k → ((j : ℕ) → p ≡ Some j → StandsAtPlace t v j) → StandsAtPlace (x ∷ t) v k
    later None e ih = absurd cc
    later (Some j) e ih =
        let s = ih j refl in
        let at : k ≡ suc j = (let f : j + 1 ≡ k = cc in omega (arith, f)) in
        subst (λ (i : ℕ). StandsAtPlace (x ∷ t) v i) (sym at) (record { within = omega (arith, s.within); there = s.there })

    by_head : ((eqb (var_of x) v ≡ true) × (var_of x ≡ v)) ⊎ ((eqb (var_of x) v ≡ false) × (var_of x ≢ v)) → (if var_of x == v then Some 0 else option_map (λ j. j + 1) (place_in t v)) ≡ Some k → ((j : ℕ) → place_in t v ≡ Some j → StandsAtPlace t v j) → StandsAtPlace (x ∷ t) v k
    by_head (inl same) e ih = let at : k ≡ 0 = (let f = rw same.0 at e in cc) in subst (λ (i : ℕ). StandsAtPlace (x ∷ t) v i) (sym at) (record { within = omega arith; there = same.1 })
    by_head (inr other) e ih = later (place_in t v) (rw other.0 at e) ih

-- a variable that the list is over has a place
pub record HasPlace (t : List ℤ) (v : ℕ) : Type 0 where
  pub place : ℕ
  pub is : place_in t v ≡ Some place

pub place_some : (t : List ℤ) (v : ℕ) → IsTrue (has_var t v) → HasPlace t v
place_some [] v h = absurd cc
place_some (x ∷ t) v h = by_head (eqb_tells (var_of x) v) h (λ k. place_some t v k)
  where
    by_head : ((eqb (var_of x) v ≡ true) × (var_of x ≡ v)) ⊎ ((eqb (var_of x) v ≡ false) × (var_of x ≢ v)) → IsTrue (has_var (x ∷ t) v) → (IsTrue (has_var t v) → HasPlace t v) → HasPlace (x ∷ t) v
    by_head (inl same) k ih = record { place = 0; is = rw same.0 refl }
    by_head (inr other) k ih = elim (or_cases (var_of x == v) (has_var t v) k) [
      | inl e ↦ absurd (both_ways (var_of x == v) other.0 e)
      | inr later ↦ let p = ih later in record { place = p.place + 1; is = rw (other.0, p.is) refl }
    ]

pub has_var_at : (t : List ℤ) (k : ℕ) → k < length t → IsTrue (has_var t (var_of (lit_at t k)))
has_var_at [] k lt = absurd (omega (arith, lt))
has_var_at (x ∷ t) zero lt = or_left (var_of x == var_of x) (has_var t (var_of x)) (eq-eqb (var_of x) (var_of x) refl)
has_var_at (x ∷ t) (suc k) lt = or_right (var_of x == var_of (lit_at t k)) (has_var t (var_of (lit_at t k))) (has_var_at t k (omega (arith, lt)))

-- ---- the table of places

pub places_new : (vars : ℕ) → ArePlaces vars [] (replicate (vars + 1) 0)
places_new vars = record { slots = length-replicate (vars + 1) 0; are = λ k lt. absurd (omega (arith, lt)) }

pub places_join : (vars : ℕ) (lits : List ℤ) (places : List ℕ) (x : ℤ) → ArePlaces vars lits places → var_of x ≤ vars → has_var lits (var_of x) ≡ false → ArePlaces vars (lits ++ x ∷ []) (set places (var_of x) (length lits))
places_join vars lits places x p high new = record {
  slots = length-set places (var_of x) (length lits) ∙ p.slots;
  are = λ k lt. by_place k (omega (arith, lt, length-append lits (x ∷ []))) (cases_lt k (length lits));
}
  where
    by_place : (k : ℕ) → k ≤ length lits → (k < length lits) ⊎ (length lits ≤ k) → get_or (set places (var_of x) (length lits)) (var_of (lit_at (lits ++ x ∷ []) k)) 0 ≡ k
    by_place k le (inl lt) =
        let here : lit_at (lits ++ x ∷ []) k ≡ lit_at lits k = get_or_append_left lits (x ∷ []) (pos 0) k lt in
        let apart : var_of (lit_at lits k) ≢ var_of x = λ e. both_ways (has_var lits (var_of x)) new (subst (λ (v : ℕ). IsTrue (has_var lits v)) e (has_var_at lits k lt)) in
        ap (λ (l : ℤ). get_or (set places (var_of x) (length lits)) (var_of l) 0) here ∙ get_or-set_other places (var_of x) (var_of (lit_at lits k)) (length lits) 0 apart ∙ p.are k lt
    by_place k le (inr past) =
        let here : lit_at (lits ++ x ∷ []) k ≡ x = get_or_push lits x (pos 0) k (omega (arith, le, past)) in
        ap (λ (l : ℤ). get_or (set places (var_of x) (length lits)) (var_of l) 0) here ∙ get_or-set_same places (var_of x) (length lits) 0 (omega (arith, high, p.slots)) ∙ omega (arith, le, past)

pub places_back : (vars : ℕ) (lits : List ℤ) (places : List ℕ) (n : ℕ) → ArePlaces vars lits places → ArePlaces vars (take n lits) places
places_back vars lits places n p = record {
  slots = p.slots;
  are = λ k lt.
      let inside : (k < n) × (k < length lits) = (omega (arith, lt, length-take n lits), omega (arith, lt, length-take n lits)) in
      ap (λ (l : ℤ). get_or places (var_of l) 0) (get_or-take n lits k (pos 0) inside.0) ∙ p.are k inside.1;
}

-- the table answers where a variable stands
pub place_read : (vars : ℕ) (lits : List ℤ) (places : List ℕ) (v k : ℕ) → ArePlaces vars lits places → place_in lits v ≡ Some k → get_or places v 0 ≡ k
place_read vars lits places v k p e =
    let s = place_stands lits v k e in
    subst (λ (w : ℕ). get_or places w 0 ≡ k) s.there (p.are k s.within)

pub place_found : (vars : ℕ) (lits : List ℤ) (places : List ℕ) (v x : ℕ) → ArePlaces vars lits places → v ≤ vars → IsTrue (has_var lits v) → x ≡ get_or places v x → Some x ≡ place_in lits v
place_found vars lits places v x p high h e =
    let found = place_some lits v h in
    let at : x ≡ found.place = get_or_read places v x (omega (arith, high, p.slots)) e 0 ∙ place_read vars lits places v found.place p found.is in
    ap Some at ∙ sym found.is

-- and there is its mark
pub mark_within : {t : TrailView} (v k : ℕ) → IsSoundTrail t → place_in t.lits v ≡ Some k → k < length t.marks
mark_within {t} v k s e = omega (arith, (place_stands t.lits v k e).within, s.as_many)

pub mark_read : {t : TrailView} (v k : ℕ) (m : Mark) → IsSoundTrail t → place_in t.lits v ≡ Some k → m ≡ get_or t.marks k m → m ≡ get_or t.marks k no_mark
mark_read {t} v k m s e r = get_or_read t.marks k m (mark_within v k s e) r no_mark

-- and what that one says
pub mark_says : {X : Type 0} (f : Mark → X) (ms : List Mark) (place : Option ℕ) (m : Option Mark) → m ≡ option_map (mark_at ms) place → option_map f m ≡ option_map (λ k. f (mark_at ms k)) place
mark_says f ms None m e = ap (option_map f) e
mark_says f ms (Some k) m e = ap (option_map f) e

-- a variable is open where it has no place
pub place_tells_open : (t : List ℤ) (v : ℕ) (none : Bool) → is_some (place_in t v) ≡ not none → none ≡ is_open_in t (pos v)
place_tells_open t v none e = by_var (has_var t v) refl
  where
    by_var : (b : Bool) → has_var t v ≡ b → none ≡ is_open_in t (pos v)
    by_var true h =
        let found = place_some t v h in
        not-true none (sym e ∙ ap is_some found.is) ∙ sym (false_from_ne_true (is_open_in t (pos v)) (λ o. both_ways (has_var t v) (open_is_new t (pos v) o) h))
    by_var false h = not-false none (sym e ∙ ap is_some (place_none t v h)) ∙ sym (new_is_open t (pos v) h)
