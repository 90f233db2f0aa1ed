-- The places that the index lists for a key, and switching them all.
use Rattle.std.proofs.Common.{◌≡◌, ◌≢◌, ℕ, zero, suc, ◌+◌, ◌-◌, ◌<◌, ◌≤◌, Bool, true, false, cond, List, [], ◌∷◌, length, take, drop, get_or, eqb, ◌⊎◌, refl, sym, ap, subst, ◌∙◌, inl, inr, arith, map, All}
use Rattle.std.specs.Prelude.{IsTrue}
use Rattle.std.proofs.lemmas.Bool.{cases_lt}
use Rattle.std.proofs.lemmas.List.{ext_get_or, get_or_default, get_or-take, get_or-drop, get_or-map, length-take-le, length-drop, length-map}
use Rattle.std.proofs.lemmas.List.Folds.{list_any_none}
use Rattle.mono_graph.specs.Digraph.{has}
use Rattle.mono_graph.proofs.Membership.{has_cons, has_get_or}
use Rattle.std.proofs.lemmas.Bool.Decides.{eqb_tells}
use Rattle.mono_bounds.specs.declared.entries.Entry.{Entry}
use Rattle.mono_bounds.specs.Entries.{IsRange, no_entry, entry_at}
use Rattle.mono_bounds.specs.Index.{IsIndex, IsIndexed, IsPlaceOf, ArePlacesOf, switched}

pub length-switched : (keys : List ℕ) (v : ℕ) (on : Bool) (P : List Bool) → length P ≡ length keys → length (switched keys v on P) ≡ length keys
length-switched [] v on P e = refl
length-switched (x ∷ xs) v on [] e = absurd (omega arith)
length-switched (x ∷ xs) v on (p ∷ ps) e = ap suc (length-switched xs v on ps (omega arith))

pub switched-at : (keys : List ℕ) (v : ℕ) (on : Bool) (P : List Bool) (k : ℕ) → length P ≡ length keys → k < length keys
    → get_or (switched keys v on P) k false ≡ cond (eqb (get_or keys k 0) v) on (get_or P k false)
switched-at [] v on P k e lt = absurd (omega arith)
switched-at (x ∷ xs) v on [] k e lt = absurd (omega arith)
switched-at (x ∷ xs) v on (p ∷ ps) zero e lt = refl
switched-at (x ∷ xs) v on (p ∷ ps) (suc k) e lt = switched-at xs v on ps k (omega arith) (omega arith)

-- each place of the key stands in the range
pub record InRange (es : List Entry) (start end k : ℕ) : Type 0 where
  pub entry : ℕ
  pub low : start ≤ entry
  pub high : entry < end
  pub is : (entry_at es entry).place ≡ k

pub place_in_range : (keys : List ℕ) (es : List Entry) (v start end k : ℕ) → IsIndex keys es → IsRange es v start end → k < length keys → get_or keys k 0 ≡ v → InRange es start end k
place_in_range keys es v start end k ix r lt e =
    let (i, fits, p) = ix.each k lt in
    let var : (entry_at es i).key ≡ v = (ix.known i no_entry fits).1 ∙ ap (λ j. get_or keys j 0) p ∙ e in
    record {
      entry = i;
      low = elim (cases_lt i start) [ inl l ↦ (let h = r.below i no_entry (omega arith) l in absurd (omega (arith, h, var))) | inr ge ↦ ge ];
      high = elim (cases_lt i end) [ inl l ↦ l | inr ge ↦ (let h = r.above i no_entry ge fits in absurd (omega (arith, h, var))) ];
      is = p;
    }

-- ---- the places of a key

pub index_of : (ks : List ℕ) (v : ℕ) → IsTrue (has ks v) → (i : ℕ) × (i < length ks) × (get_or ks i 0 ≡ v)
index_of [] v h = absurd cc
index_of (k ∷ ks) v h = elim (has_cons k v ks h) [
  | inl e ↦ (0, omega arith, e)
  | inr t ↦ let r = index_of ks v t in (suc r.0, omega (arith, r.1), r.2)
]

-- the first of the places of a key
pub first_is : (keys ks : List ℕ) (v : ℕ) → ArePlacesOf keys v ks → 0 < length ks → IsPlaceOf keys v (get_or ks 0 0)
first_is keys ks v places some = places.each (get_or ks 0 0) (has_get_or ks 0 0 some)

pub none_is : (keys ks : List ℕ) (v : ℕ) → ArePlacesOf keys v ks → length ks ≡ 0 → has keys v ≡ false
none_is keys ks v places none = list_any_none (λ x. eqb x v) keys (λ k d lt. at k d lt (eqb_tells (get_or keys k d) v))
  where
    at : (k d : ℕ) → k < length keys → ((eqb (get_or keys k d) v ≡ true) × (get_or keys k d ≡ v)) ⊎ ((eqb (get_or keys k d) v ≡ false) × (get_or keys k d ≢ v)) → eqb (get_or keys k d) v ≡ false
    at k d lt (inr e) = e.0
    at k d lt (inl e) = let w = index_of ks k (places.all k lt (get_or_default keys k 0 d lt ∙ e.1)) in absurd (omega (arith, w.1, none))

pub switched_by : (keys ks : List ℕ) (v : ℕ) (on : Bool) (P Q : List Bool) → ArePlacesOf keys v ks → length P ≡ length keys → length Q ≡ length keys
    → ((i : ℕ) → i < length ks → get_or Q (get_or ks i 0) false ≡ on)
    → ((k : ℕ) → ((i : ℕ) → i < length ks → get_or ks i 0 ≢ k) → get_or Q k false ≡ get_or P k false)
    → Q ≡ switched keys v on P
switched_by keys ks v on P Q places lenP lenQ done others =
    ext_get_or false Q (switched keys v on P) (lenQ ∙ sym (length-switched keys v on P lenP)) (λ k lt.
    let lt' : k < length keys = omega (arith, lenQ) in
    at k lt' (eqb_tells (get_or keys k 0) v) ∙ sym (switched-at keys v on P k lenP lt'))
  where
    at : (k : ℕ) → k < length keys → ((eqb (get_or keys k 0) v ≡ true) × (get_or keys k 0 ≡ v)) ⊎ ((eqb (get_or keys k 0) v ≡ false) × (get_or keys k 0 ≢ v)) → get_or Q k false ≡ cond (eqb (get_or keys k 0) v) on (get_or P k false)
    at k lt (inl e) =
        let w = index_of ks k (places.all k lt e.1) in
        ap (λ j. get_or Q j false) (sym w.2) ∙ done w.0 w.1 ∙ sym (ap (λ b. cond b on (get_or P k false)) e.0)
    at k lt (inr ne) =
        others k (λ i fits is. ne.1 (places.each k (subst (λ (j : ℕ). IsTrue (has ks j)) is (has_get_or ks i 0 fits))).is) ∙ sym (ap (λ b. cond b on (get_or P k false)) ne.0)

-- ---- the places that stand in a range

within_len : (es : List Entry) (ks : List ℕ) (start end : ℕ) → ks ≡ map (λ (e : Entry). e.place) es → end ≤ length es → length (take (end - start) (drop start ks)) ≡ end - start
within_len es ks start end is fits =
    length-take-le (end - start) (drop start ks) (omega (arith, length-drop start ks, ap length is, length-map es (λ (e : Entry). e.place), fits))

within_at : (es : List Entry) (ks : List ℕ) (start end i d : ℕ) → ks ≡ map (λ (e : Entry). e.place) es → end ≤ length es → i < end - start
    → get_or (take (end - start) (drop start ks)) i d ≡ (entry_at es (start + i)).place
within_at es ks start end i d is fits lt =
    get_or-take (end - start) (drop start ks) i d lt ∙ get_or-drop start ks i d ∙ ap (λ xs. get_or xs (start + i) d) is
    ∙ get_or-map (λ (e : Entry). e.place) es (start + i) no_entry d (omega (arith, fits, lt))

-- they are places of the list of keys, whatever their keys
pub span_held : (keys : List ℕ) (es : List Entry) (ks : List ℕ) (start end : ℕ) → IsIndexed keys es ks → end ≤ length es → All (λ k. k < length keys) (take (end - start) (drop start ks))
span_held keys es ks start end ix fits = λ i d lt.
    let inside : i < end - start = omega (arith, lt, within_len es ks start end ix.places fits) in
    subst (λ (j : ℕ). j < length keys) (sym (within_at es ks start end i d ix.places fits inside)) (ix.index.known (start + i) no_entry (omega (arith, fits, inside))).0

pub entries_len : {keys : List ℕ} {es : List Entry} {ks : List ℕ} → IsIndexed keys es ks → length ks ≡ length es
entries_len {es = es} ix = ap length ix.places ∙ length-map es (λ (e : Entry). e.place)

pub places_are : (keys : List ℕ) (es : List Entry) (ks : List ℕ) (v start end : ℕ) → IsIndexed keys es ks → IsRange es v start end → ArePlacesOf keys v (take (end - start) (drop start ks))
places_are keys es ks v start end ix r = record {
  held = span_held keys es ks start end ix r.end_fits;
  each = λ k h.
      let w = index_of (take (end - start) (drop start ks)) k h in
      subst (IsPlaceOf keys v) (sym (at w.0 0 (inside w.0 w.1)) ∙ w.2) (is_place w.0 (inside w.0 w.1));
  all = λ k lt e.
      let w = place_in_range keys es v start end k ix.index r lt e in
      let low = w.low in
      let high = w.high in
      let i : ℕ = w.entry - start in
      let few : i < end - start = omega (arith, low, high) in
      let there : start + i ≡ w.entry = omega (arith, low) in
      subst (λ (j : ℕ). IsTrue (has (take (end - start) (drop start ks)) j)) (at i 0 few ∙ ap (λ j. (entry_at es j).place) there ∙ w.is)
      (has_get_or (take (end - start) (drop start ks)) i 0 (omega (arith, few, within_len es ks start end ix.places r.end_fits)));
}
  where
    inside : (i : ℕ) → i < length (take (end - start) (drop start ks)) → i < end - start
    inside i lt = omega (arith, lt, within_len es ks start end ix.places r.end_fits)

    at : (i d : ℕ) → i < end - start → get_or (take (end - start) (drop start ks)) i d ≡ (entry_at es (start + i)).place
    at i d lt = within_at es ks start end i d ix.places r.end_fits lt

    is_place : (i : ℕ) → i < end - start → IsPlaceOf keys v (entry_at es (start + i)).place
    is_place i lt =
        let fits = r.end_fits in
        let known = ix.index.known (start + i) no_entry (omega (arith, fits, lt)) in
        let a = r.from (start + i) no_entry (omega arith) (omega (arith, fits, lt)) in
        let b = r.up_to (start + i) no_entry (omega arith) (omega (arith, lt)) in
        let key : (entry_at es (start + i)).key ≡ v = omega (arith, a, b) in
        record { held = known.0; is = sym known.1 ∙ key }
