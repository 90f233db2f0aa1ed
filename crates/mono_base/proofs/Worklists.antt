-- Lists of places, each at most once, with a mark for each place.
use Rattle.std.proofs.Common.{◌≡◌, ◌∙◌, ℕ, zero, suc, ◌-◌, ◌<◌, ◌≤◌, Bool, true, false, ◌||◌, List, [], ◌∷◌, ◌++◌, All, eqb, eqb-true, get_or, set, length, refl, sym, ap, subst, inl, inr, arith, length-append}
use Rattle.std.specs.Prelude.{MatchOption, None, Option, Some, replicate}
use Rattle.std.specs.List.{IsDistinct, AllByRecursion}
use Rattle.std.proofs.Math.Bool.{or-false}
use Rattle.std.proofs.Math.Seq.{get_or-append_seam}
use Rattle.std.proofs.lemmas.Bool.{or_parts, or_from, or_right, eq-eqb, ne_eqb, cases_eq}
use Rattle.std.proofs.lemmas.List.{ext_get_or, get_or-replicate, get_or_push, get_or-set_other, get_or-set_same, length-replicate, length-set}
use Rattle.std.proofs.lemmas.List.Elements.{All-nil, All-push, All-pop}
use Rattle.std.proofs.lemmas.List.Folds.{list_any-append, Any-from_list_any}
use Rattle.std.proofs.lemmas.Map.Steps.{length-le_from_distinct_below}
use Rattle.mono_base.specs.Numbers.{has}
use Rattle.mono_base.specs.Worklist.{IsEmpty, IsTaken, IsWorklist, WorklistView, last_of}

-- ---- places that are listed once

has_push : (ps : List ℕ) (p q : ℕ) → has (ps ++ p ∷ []) q ≡ (has ps q || eqb p q)
has_push ps p q = list_any-append (λ r. eqb r q) ps (p ∷ []) ∙ ap (λ b. has ps q || b) (or-false (eqb p q))

push_all : (P : ℕ → Type 0) (ps : List ℕ) (p : ℕ) → AllByRecursion P ps → P p → AllByRecursion P (ps ++ p ∷ [])
push_all P [] p all h = (h, tt)
push_all P (q ∷ ps) p all h = (all.0, push_all P ps p all.1 h)

front_all : (P : ℕ → Type 0) (ps : List ℕ) (p : ℕ) → AllByRecursion P (ps ++ p ∷ []) → AllByRecursion P ps × P p
front_all P [] p all = (tt, all.0)
front_all P (q ∷ ps) p all = let rest = front_all P ps p all.1 in ((all.0, rest.0), rest.1)

distinct_push : (ps : List ℕ) (p : ℕ) → IsDistinct eqb ps → has ps p ≡ false → IsDistinct eqb (ps ++ p ∷ [])
unfolding IsDistinct
distinct_push [] p d new = (tt, tt)
distinct_push (q ∷ ps) p d new = let parts = or_parts (eqb q p) (has ps p) new in (push_all (λ r. eqb q r ≡ false) ps p d.0 parts.0, distinct_push ps p d.1 parts.1)

distinct_front : (ps : List ℕ) (p : ℕ) → IsDistinct eqb (ps ++ p ∷ []) → IsDistinct eqb ps × (has ps p ≡ false)
unfolding IsDistinct
distinct_front [] p d = (tt, refl)
distinct_front (q ∷ ps) p d =
    let here = front_all (λ r. eqb q r ≡ false) ps p d.0 in
    let rest = distinct_front ps p d.1 in
    ((here.0, rest.0), or_from (eqb q p) (has ps p) here.1 rest.1)

-- there is room for one more that isn't listed
few : (ps : List ℕ) (p n : ℕ) → IsDistinct eqb ps → has ps p ≡ false → All (λ q. q < n) ps → p < n → length ps < n
few ps p n d new within lt =
    let all : All (λ q. q < n) (ps ++ p ∷ []) = All-push (λ q. q < n) ps p within lt in
    let most : length (ps ++ p ∷ []) ≤ n = length-le_from_distinct_below (ps ++ p ∷ []) n (distinct_push ps p d new) (λ q in_list.
    let a = Any-from_list_any (λ r. eqb q r) (ps ++ p ∷ []) in_list in
    let same : q ≡ a.1 = eqb-true q a.1 a.4 in
    subst (λ r. r < n) (a.3 ∙ sym same) (all a.0 a.1 a.2)) in
    omega (arith, most, length-append ps (p ∷ []))

pub has_room : (listed : List Bool) (ps : List ℕ) (room p : ℕ) → IsWorklist listed ps room → p < length listed → get_or listed p false ≡ false → length ps < room
has_room listed ps room p w lt off =
    let less = few ps p (length listed) w.distinct (w.exact p ∙ off) w.within lt in
    let fits = w.fits in
    omega (arith, less, fits)

-- ---- a place joins, and the last one leaves

pub inserted : (listed : List Bool) (ps new : List ℕ) (room p : ℕ) → IsWorklist listed ps room → p < length listed → get_or listed p false ≡ false → new ≡ ps ++ p ∷ [] → IsWorklist (set listed p true) new room
inserted listed ps new room p w lt off is = subst (λ (qs : List ℕ). IsWorklist (set listed p true) qs room) (sym is) (record {
  within = subst (λ n. All (λ q. q < n) (ps ++ p ∷ [])) (sym (length-set listed p true)) (All-push (λ q. q < length listed) ps p w.within lt);
  distinct = distinct_push ps p w.distinct (w.exact p ∙ off);
  exact = λ q. has_push ps p q ∙ elim (cases_eq q p) [
    | inl e ↦ or_right (has ps q) (eqb p q) (eq-eqb p q (sym e)) ∙ sym (ap (λ r. get_or (set listed p true) r false) e ∙ get_or-set_same listed p true false lt)
    | inr ne ↦ ap (λ b. has ps q || b) (ne_eqb p q (λ e. ne (sym e))) ∙ or-false (has ps q) ∙ w.exact q ∙ sym (get_or-set_other listed p q true false ne)
  ];
  fits = let fits = w.fits in omega (arith, fits, length-set listed p true);
})

pub removed : (listed : List Bool) (ps rest : List ℕ) (room p : ℕ) → IsWorklist listed ps room → ps ≡ rest ++ p ∷ [] → IsWorklist (set listed p false) rest room
removed listed ps rest room p w is =
    let d = distinct_front rest p (subst (IsDistinct eqb) is w.distinct) in
    let all : All (λ q. q < length listed) (rest ++ p ∷ []) = subst (All (λ q. q < length listed)) is w.within in
    let lt : p < length listed = last_of_all (λ q. q < length listed) rest p all in
    record {
      within = subst (λ n. All (λ q. q < n) rest) (sym (length-set listed p false)) (front_of_all (λ q. q < length listed) rest p all);
      distinct = d.0;
      exact = λ q. elim (cases_eq q p) [
        | inl e ↦ ap (has rest) e ∙ d.1 ∙ sym (ap (λ r. get_or (set listed p false) r false) e ∙ get_or-set_same listed p false false lt)
        | inr ne ↦ sym (has_push rest p q ∙ ap (λ b. has rest q || b) (ne_eqb p q (λ e. ne (sym e))) ∙ or-false (has rest q)) ∙ ap (λ qs. has qs q) (sym is) ∙ w.exact q ∙ sym (get_or-set_other listed p q false false ne)
      ];
      fits = let fits = w.fits in omega (arith, fits, length-set listed p false);
    }
  where
    last_of_all : (P : ℕ → Type 0) (rs : List ℕ) (r : ℕ) → All P (rs ++ r ∷ []) → P r
    last_of_all P rs r h = subst P (get_or-append_seam rs r [] r) (h (length rs) r (omega (arith, length-append rs (r ∷ []))))

    front_of_all : (P : ℕ → Type 0) (rs : List ℕ) (r : ℕ) → All P (rs ++ r ∷ []) → All P rs
    front_of_all P rs r h = (All-pop P (rs ++ r ∷ []) rs (Some r) refl h).0

-- ---- none and all

nothing : IsDistinct eqb []
unfolding IsDistinct
nothing = tt

pub empty_is : (n : ℕ) (listed : List Bool) (ps : List ℕ) (room : ℕ) → listed ≡ replicate n false → ps ≡ [] → n ≤ room → IsWorklist listed ps room
empty_is n listed ps room off none fits = subst (λ qs. IsWorklist listed qs room) (sym none) (record {
  within = All-nil (λ p. p < length listed);
  distinct = nothing;
  exact = λ p. sym (ap (λ bs. get_or bs p false) off ∙ unlisted n p);
  fits = omega (arith, fits, ap length off, length-replicate n false);
})
  where
    unlisted : (n p : ℕ) → get_or (replicate n false) p false ≡ false
    unlisted zero p = refl
    unlisted (suc n) zero = refl
    unlisted (suc n) (suc p) = unlisted n p

-- ---- what contracts see

-- two lists are what contracts see of a list of places
pub seen_as : (w : WorklistView) (listed : List Bool) (places : List ℕ) → w.listed ≡ listed → w.places ≡ places → w ≡ record { listed = listed; places = places }
seen_as w listed places same_marks same_places = ap (λ (bs : List Bool). record { listed = bs; places = w.places }) same_marks ∙ ap (λ (ps : List ℕ). record { listed = listed; places = ps }) same_places

-- a list with all marks on
pub all_on : (listed : List Bool) (n : ℕ) → length listed ≡ n → ((p : ℕ) → p < n → get_or listed p false ≡ true) → listed ≡ replicate n true
all_on listed n size on = ext_get_or false listed (replicate n true) (size ∙ sym (length-replicate n true))
    (λ p lt. (let below : p < n = omega (arith, lt, size) in on p below ∙ sym (get_or-replicate n p true false below)))

-- what is taken from a list that isn't empty is its last place
pub taken_last : (old new : WorklistView) (found : Option ℕ) → MatchOption found ((new ≡ old) × IsEmpty old) (IsTaken old new) → 0 < length old.places → IsTaken old new (last_of old.places)
taken_last old new None left some = let none = ap length left.1.none in absurd (omega (arith, some, none))
taken_last old new (Some p) taken some =
    let at : length new.places ≡ length (new.places ++ p ∷ []) - 1 = omega (arith, length-append new.places (p ∷ [])) in
    subst (IsTaken old new) (sym (ap (λ (ps : List ℕ). last_of ps) taken.places ∙ get_or_push new.places p 0 _ at)) taken
