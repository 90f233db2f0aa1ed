-- What the table of a sparse set says of the members, and how both go through an insertion and a removal.
use Rattle.std.proofs.Common.{◌≡◌, ◌≢◌, ℕ, ◌+◌, ◌-◌, ◌*◌, ◌<◌, ◌≤◌, Bool, true, false, eqb, List, [], ◌∷◌, ◌++◌, length, get_or, set, map, arith, refl, sym, ◌∙◌, ap, subst, inl, inr, length-append}
use Rattle.std.specs.Prelude.{ℤ, pos, negsuc, nat_abs, not}
use Rattle.std.specs.Ordering.{int_eq}
use Rattle.std.specs.List.{list_any, IsDistinct}
use Rattle.std.proofs.lemmas.Bool.{cases_eq, cases_lt, false≢true}
use Rattle.std.proofs.lemmas.Bool.Decides.{Decides-int_eq, eqb_tells}
use Rattle.std.proofs.lemmas.List.{get_or_default, get_or_past, get_or_read, length-map, get_or-map, length-set, get_or-set_same, get_or-set_other, get_or_append_left}
use Rattle.std.proofs.Math.Seq.{get_or-append_seam}
use Rattle.std.proofs.lemmas.List.Folds.{list_any_at, list_any_none}
use Rattle.std.proofs.lemmas.Map.Keys.{IsDistinct-from_apart}
use Rattle.std.proofs.lemmas.Map.Steps.{length-le_from_distinct_below}
use Rattle.mono_base.specs.Literal.{has_lit, slot, IsLitWithin}
use Rattle.mono_base.specs.LitSet.{IsIndexOf, IsSparse}

-- two literals have two slots
pub slot_injective : (l m : ℤ) → slot l ≡ slot m → l ≡ m
slot_injective (pos a) (pos b) e = ap pos (omega arith)
slot_injective (pos a) (negsuc b) e = absurd (omega arith)
slot_injective (negsuc a) (pos b) e = absurd (omega arith)
slot_injective (negsuc a) (negsuc b) e = ap negsuc (omega arith)

pub slot_bound : (l : ℤ) (vars : ℕ) → nat_abs l ≤ vars → slot l < 2 * vars + 2
slot_bound (pos a) vars h = omega arith
slot_bound (negsuc a) vars h = omega arith

not_same : (l m : ℤ) → (l ≡ m → ⊥) → int_eq l m ≡ false
not_same l m n = by_answer (int_eq l m) refl
  where
    by_answer : (b : Bool) → int_eq l m ≡ b → int_eq l m ≡ false
    by_answer true e = absurd (n ((Decides-int_eq l m).0 e))
    by_answer false e = e

-- a literal with a mark is a member
pub has_from_mark : (places : List ℕ) (members : List ℤ) (l : ℤ) → IsIndexOf places members → get_or places (slot l) 0 ≢ 0 → has_lit members l ≡ true
has_from_mark places members l x n =
    let at = x.stands (slot l) n in
    let k = get_or places (slot l) 0 - 1 in
    let there : get_or members k (pos 0) ≡ l = slot_injective (get_or members k (pos 0)) l at.1 in
    let below : k < length members = omega (arith, at.0) in
    list_any_at (int_eq l) members k (pos 0) below ((Decides-int_eq l (get_or members k (pos 0))).1 (sym there))

-- a mark tells where its literal stands
pub stands_at : (places : List ℕ) (members : List ℤ) (l : ℤ) (place : ℕ) → IsIndexOf places members → get_or places (slot l) 0 ≡ place + 1 → (place < length members) × (get_or members place (pos 0) ≡ l)
stands_at places members l place x mark =
    let at = x.stands (slot l) (λ e. omega (arith, e, mark)) in
    let place_is : place ≡ get_or places (slot l) 0 - 1 = omega (arith, mark) in
    (omega (arith, at.0, mark), ap (λ (j : ℕ). get_or members j (pos 0)) place_is ∙ slot_injective (get_or members (get_or places (slot l) 0 - 1) (pos 0)) l at.1)

-- a literal without a mark is no member
pub no_mark : (places : List ℕ) (members : List ℤ) (l : ℤ) → IsIndexOf places members → get_or places (slot l) 0 ≡ 0 → has_lit members l ≡ false
no_mark places members l x e = list_any_none (int_eq l) members (λ k d below. not_same l (get_or members k d) (λ same. apart k (same ∙ get_or_default members k d (pos 0) below) below))
  where
    apart : (k : ℕ) → l ≡ get_or members k (pos 0) → k < length members → ⊥
    apart k same below =
        let listed = x.listed k below in
        let zero_there : get_or places (slot (get_or members k (pos 0))) 0 ≡ 0 = subst (λ (m : ℤ). get_or places (slot m) 0 ≡ 0) same e in
        omega (arith, listed, zero_there)

-- no literal stands at two places
pub distinct_members : (places : List ℕ) (members : List ℤ) → IsIndexOf places members → IsDistinct int_eq members
distinct_members places members x = IsDistinct-from_apart int_eq members (λ i j d less below. not_same (get_or members i d) (get_or members j d) (λ same.
    let first = x.listed i (omega arith) in
    let second = x.listed j below in
    let moved : get_or members i (pos 0) ≡ get_or members j (pos 0) = get_or_default members i (pos 0) d (omega arith) ∙ same ∙ get_or_default members j d (pos 0) below in
    let both : get_or places (slot (get_or members j (pos 0))) 0 ≡ i + 1 = subst (λ (m : ℤ). get_or places (slot m) 0 ≡ i + 1) moved first in
    omega (arith, both, second)))

-- the table has a slot for each member
slot_below : (places : List ℕ) (members : List ℤ) (k : ℕ) → IsIndexOf places members → k < length members → slot (get_or members k (pos 0)) < length places
slot_below places members k x below =
    elim (cases_lt (slot (get_or members k (pos 0))) (length places)) [
      | inl less ↦ less
      | inr past ↦ let none = get_or_past places (slot (get_or members k (pos 0))) 0 past in let listed = x.listed k below in absurd (omega (arith, none, listed))
    ]

not_equal : (a b : ℕ) → (a ≡ b → ⊥) → eqb a b ≡ false
not_equal a b n = elim (eqb_tells a b) [ inl same ↦ absurd (n same.1) | inr other ↦ other.0 ]

slots_apart : (places : List ℕ) (members : List ℤ) → IsIndexOf places members → IsDistinct eqb (map slot members)
slots_apart places members x = IsDistinct-from_apart eqb (map slot members) (λ i j d less below. not_equal (get_or (map slot members) i d) (get_or (map slot members) j d) (λ same.
    let within : j < length members = omega (arith, below, length-map members slot) in
    let first = x.listed i (omega arith) in
    let second = x.listed j within in
    let moved : slot (get_or members i (pos 0)) ≡ slot (get_or members j (pos 0)) = sym (get_or-map slot members i (pos 0) d (omega arith)) ∙ same ∙ get_or-map slot members j (pos 0) d within in
    let both : get_or places (slot (get_or members j (pos 0))) 0 ≡ i + 1 = subst (λ (s : ℕ). get_or places s 0 ≡ i + 1) moved first in
    omega (arith, both, second)))

slots_below : (places : List ℕ) (members : List ℤ) → IsIndexOf places members → (q : ℕ) → list_any (eqb q) (map slot members) ≡ true → q < length places
slots_below places members x q found =
    elim (cases_lt q (length places)) [
      | inl less ↦ less
      | inr past ↦
          let none : list_any (eqb q) (map slot members) ≡ false = list_any_none (eqb q) (map slot members) (λ k d below.
          let within : k < length members = omega (arith, below, length-map members slot) in
          let here : get_or (map slot members) k d ≡ slot (get_or members k (pos 0)) = get_or-map slot members k (pos 0) d within in
          not_equal q (get_or (map slot members) k d) (λ same. omega (arith, slot_below places members k x within, here))) in
          absurd (false≢true (sym none ∙ found))
    ]

-- so there are at most as many members as slots
pub members_fit : (places : List ℕ) (members : List ℤ) → IsIndexOf places members → length members ≤ length places
members_fit places members x =
    let few = length-le_from_distinct_below (map slot members) (length places) (slots_apart places members x) (slots_below places members x) in
    omega (arith, few, length-map members slot)

-- what `has` answers
pub mark_tells : (places : List ℕ) (members : List ℤ) (l : ℤ) → IsIndexOf places members → not (eqb (get_or places (slot l) 0) 0) ≡ has_lit members l
mark_tells places members l x =
    elim (eqb_tells (get_or places (slot l) 0) 0) [
      | inl none ↦ rw none.0 (sym (no_mark places members l x none.1))
      | inr some ↦ rw some.0 (sym (has_from_mark places members l x some.1))
    ]

-- a literal with no mark joins the members
index_push : (places : List ℕ) (members : List ℤ) (l : ℤ) → IsIndexOf places members → slot l < length places → get_or places (slot l) 0 ≡ 0
    → IsIndexOf (set places (slot l) (length members + 1)) (members ++ l ∷ [])
index_push places members l x within none = record {
  listed = λ k below. elim (cases_lt k (length members)) [
    | inl old ↦
        let same : get_or (members ++ l ∷ []) k (pos 0) ≡ get_or members k (pos 0) = get_or_append_left members (l ∷ []) (pos 0) k old in
        let other : slot (get_or members k (pos 0)) ≢ slot l = λ e. (let listed = x.listed k old in let zero_there : get_or places (slot (get_or members k (pos 0))) 0 ≡ 0 = subst (λ (s : ℕ). get_or places s 0 ≡ 0) (sym e) none in omega (arith, listed, zero_there)) in
        rw same (get_or-set_other places (slot l) (slot (get_or members k (pos 0))) (length members + 1) 0 other ∙ x.listed k old)
    | inr past ↦
        let here : k ≡ length members = omega (arith, below, length-append members (l ∷ [])) in
        let same : get_or (members ++ l ∷ []) k (pos 0) ≡ l = ap (λ (i : ℕ). get_or (members ++ l ∷ []) i (pos 0)) here ∙ get_or-append_seam members l [] (pos 0) in
        rw same (get_or-set_same places (slot l) (length members + 1) 0 within ∙ ap (λ (i : ℕ). i + 1) (sym here))
  ];
  stands = λ i some. elim (cases_eq i (slot l)) [
    | inl here ↦
        let mark : get_or (set places (slot l) (length members + 1)) i 0 ≡ length members + 1 = ap (λ (j : ℕ). get_or (set places (slot l) (length members + 1)) j 0) here ∙ get_or-set_same places (slot l) (length members + 1) 0 within in
        let place : length members + 1 - 1 ≡ length members = omega arith in
        let last : get_or (members ++ l ∷ []) (length members + 1 - 1) (pos 0) ≡ l = ap (λ (j : ℕ). get_or (members ++ l ∷ []) j (pos 0)) place ∙ get_or-append_seam members l [] (pos 0) in
        rw mark (omega (arith, length-append members (l ∷ [])), ap slot last ∙ sym here)
    | inr other ↦
        let mark : get_or (set places (slot l) (length members + 1)) i 0 ≡ get_or places i 0 = get_or-set_other places (slot l) i (length members + 1) 0 other in
        let old = x.stands i (λ e. some (mark ∙ e)) in
        let some_old : get_or places i 0 ≢ 0 = λ e. some (mark ∙ e) in
        let same : get_or (members ++ l ∷ []) (get_or places i 0 - 1) (pos 0) ≡ get_or members (get_or places i 0 - 1) (pos 0) = get_or_append_left members (l ∷ []) (pos 0) (get_or places i 0 - 1) (omega (arith, old.0, some_old)) in
        rw mark (omega (arith, old.0, length-append members (l ∷ [])), ap slot same ∙ old.1)
  ];
}

-- `rest` are the members without the one at a place, whose place the last one took
pub record IsSwapped (members rest : List ℤ) (place : ℕ) : Type 0 where
  pub shorter : length rest + 1 ≡ length members
  pub moved : place + 1 < length members → get_or rest place (pos 0) ≡ get_or members (length members - 1) (pos 0)
  pub kept : (k : ℕ) → k ≢ place → k + 1 < length members → get_or rest k (pos 0) ≡ get_or members k (pos 0)

-- the table once the last member took the place, and l has no mark
abbrev swapped_table : List ℕ → List ℤ → ℤ → ℕ → List ℕ
swapped_table places members l place = set (set places (slot (get_or members (length members - 1) (pos 0))) (place + 1)) (slot l) 0

swapped_listed : (places : List ℕ) (members rest : List ℤ) (l : ℤ) (place k : ℕ) → IsIndexOf places members → get_or places (slot l) 0 ≡ place + 1 → IsSwapped members rest place → k < length rest
    → get_or (swapped_table places members l place) (slot (get_or rest k (pos 0))) 0 ≡ k + 1
swapped_listed places members rest l place k x mark r below =
    let last = get_or members (length members - 1) (pos 0) in
    let end : get_or places (slot last) 0 ≡ length members = x.listed (length members - 1) (omega (arith, r.shorter)) ∙ omega (arith, r.shorter) in
    elim (cases_eq k place) [
      | inl here ↦
          let there : get_or rest k (pos 0) ≡ last = ap (λ (i : ℕ). get_or rest i (pos 0)) here ∙ r.moved (omega (arith, r.shorter)) in
          let other : slot last ≢ slot l = λ e. (let both : get_or places (slot l) 0 ≡ length members = subst (λ (i : ℕ). get_or places i 0 ≡ length members) e end in omega (arith, both, mark, r.shorter)) in
          let own : get_or (set places (slot last) (place + 1)) (slot last) 0 ≡ place + 1 = get_or-set_same places (slot last) (place + 1) 0 (slot_below places members (length members - 1) x (omega (arith, r.shorter))) in
          rw there (get_or-set_other (set places (slot last) (place + 1)) (slot l) (slot last) 0 0 other ∙ own ∙ ap (λ (i : ℕ). i + 1) (sym here))
      | inr apart ↦
          let m = get_or members k (pos 0) in
          let same : get_or rest k (pos 0) ≡ m = r.kept k apart (omega (arith, r.shorter)) in
          let old : get_or places (slot m) 0 ≡ k + 1 = x.listed k (omega (arith, r.shorter)) in
          let not_l : slot m ≢ slot l = λ e. (let both : get_or places (slot l) 0 ≡ k + 1 = subst (λ (i : ℕ). get_or places i 0 ≡ k + 1) e old in apart (omega (arith, both, mark))) in
          let not_last : slot m ≢ slot last = λ e. (let both : get_or places (slot last) 0 ≡ k + 1 = subst (λ (i : ℕ). get_or places i 0 ≡ k + 1) e old in omega (arith, both, end, r.shorter)) in
          rw same (get_or-set_other (set places (slot last) (place + 1)) (slot l) (slot m) 0 0 not_l ∙ get_or-set_other places (slot last) (slot m) (place + 1) 0 not_last ∙ old)
    ]

swapped_stands : (places : List ℕ) (members rest : List ℤ) (l : ℤ) (place i : ℕ) → IsIndexOf places members → slot l < length places → get_or places (slot l) 0 ≡ place + 1 → IsSwapped members rest place
    → get_or (swapped_table places members l place) i 0 ≢ 0 → (get_or (swapped_table places members l place) i 0 ≤ length rest) × (slot (get_or rest (get_or (swapped_table places members l place) i 0 - 1) (pos 0)) ≡ i)
swapped_stands places members rest l place i x within mark r some =
    let last = get_or members (length members - 1) (pos 0) in
    let marked = set places (slot last) (place + 1) in
    let at = stands_at places members l place x mark in
    let own : slot (get_or members place (pos 0)) ≡ slot l = ap slot at.1 in
    elim (cases_eq i (slot l)) [
      | inl here ↦
          let none : get_or (set marked (slot l) 0) i 0 ≡ 0 = ap (λ (j : ℕ). get_or (set marked (slot l) 0) j 0) here ∙ get_or-set_same marked (slot l) 0 0 (omega (arith, within, length-set places (slot last) (place + 1))) in
          absurd (some none)
      | inr not_l ↦
          let first : get_or (set marked (slot l) 0) i 0 ≡ get_or marked i 0 = get_or-set_other marked (slot l) i 0 0 not_l in
          elim (cases_eq i (slot last)) [
            | inl end ↦
                let mine : get_or marked i 0 ≡ place + 1 = ap (λ (j : ℕ). get_or marked j 0) end ∙ get_or-set_same places (slot last) (place + 1) 0 (slot_below places members (length members - 1) x (omega (arith, r.shorter))) in
                let before : place + 1 ≢ length members = λ e. (let same : length members - 1 ≡ place = omega arith in not_l (end ∙ ap (λ (j : ℕ). slot (get_or members j (pos 0))) same ∙ own)) in
                let less : place + 1 < length members = omega (arith, before, at.0) in
                let index : place + 1 - 1 ≡ place = omega arith in
                rw (first, mine) (omega (arith, less, r.shorter), ap (λ (j : ℕ). slot (get_or rest j (pos 0))) index ∙ ap slot (r.moved less) ∙ sym end)
            | inr not_last ↦
                let old : get_or marked i 0 ≡ get_or places i 0 = get_or-set_other places (slot last) i (place + 1) 0 not_last in
                let n = get_or places i 0 in
                let some_old : n ≢ 0 = λ e. some (first ∙ old ∙ e) in
                let stood = x.stands i some_old in
                let before : n ≢ length members = λ e. not_last (sym stood.1 ∙ ap (λ (j : ℕ). slot (get_or members (j - 1) (pos 0))) e) in
                let apart : n - 1 ≢ place = λ e. not_l (sym stood.1 ∙ ap (λ (j : ℕ). slot (get_or members j (pos 0))) e ∙ own) in
                let same : get_or rest (n - 1) (pos 0) ≡ get_or members (n - 1) (pos 0) = r.kept (n - 1) apart (omega (arith, before, stood.0, some_old)) in
                rw (first, old) (omega (arith, before, stood.0, r.shorter), ap slot same ∙ stood.1)
          ]
    ]

-- each literal over the variables has a slot
pub has_slot : {vars room : ℕ} {places : List ℕ} {members : List ℤ} (l : ℤ) → IsSparse vars places members room → nat_abs l ≤ vars → slot l < length places
has_slot {vars = vars} l x within = omega (arith, slot_bound l vars within, x.slots)

-- what a read of the table at a literal's slot gives
pub mark_read : {vars room : ℕ} {places : List ℕ} {members : List ℤ} (l : ℤ) (s mark : ℕ) → IsSparse vars places members room → nat_abs l ≤ vars → s ≡ slot l → mark ≡ get_or places s mark → mark ≡ get_or places (slot l) 0
mark_read {places = places} l s mark x within e read =
    let below : s < length places = omega (arith, has_slot l x within, e) in
    get_or_read places s mark below read 0 ∙ ap (λ (i : ℕ). get_or places i 0) e

-- there is room for a literal that is not in the set
pub has_room : {vars room : ℕ} {places : List ℕ} {members : List ℤ} (l : ℤ) → IsSparse vars places members room → nat_abs l ≤ vars → get_or places (slot l) 0 ≡ 0 → (length members < room) × (length members < 2 * vars + 2)
has_room {places = places} {members = members} l x within none =
    let few = members_fit (set places (slot l) (length members + 1)) (members ++ l ∷ []) (index_push places members l x.indexed (has_slot l x within) none) in
    let less : length members < length places = omega (arith, few, length-append members (l ∷ []), length-set places (slot l) (length members + 1)) in
    (omega (arith, less, x.fits), omega (arith, less, x.slots))

within_push : (vars : ℕ) (members : List ℤ) (l : ℤ) (k : ℕ) → ((j : ℕ) → j < length members → IsLitWithin vars (get_or members j (pos 0))) → IsLitWithin vars l → k < length (members ++ l ∷ []) → IsLitWithin vars (get_or (members ++ l ∷ []) k (pos 0))
within_push vars members l k each here below =
    elim (cases_lt k (length members)) [
      | inl old ↦ subst (IsLitWithin vars) (sym (get_or_append_left members (l ∷ []) (pos 0) k old)) (each k old)
      | inr past ↦
          let at : k ≡ length members = omega (arith, below, past, length-append members (l ∷ [])) in
          let same : get_or (members ++ l ∷ []) k (pos 0) ≡ l = ap (λ (i : ℕ). get_or (members ++ l ∷ []) i (pos 0)) at ∙ get_or-append_seam members l [] (pos 0) in
          subst (IsLitWithin vars) (sym same) here
    ]

-- a literal joins the set
pub sparse_push : {vars room : ℕ} {places : List ℕ} {members : List ℤ} (l : ℤ) (s more : ℕ) → IsSparse vars places members room → IsLitWithin vars l → get_or places (slot l) 0 ≡ 0 → s ≡ slot l → room ≤ more
    → IsSparse vars (set places s (length members + 1)) (members ++ l ∷ []) more
sparse_push {vars = vars} {places = places} {members = members} l s more x within none e wider = record {
  few = x.few;
  slots = rw length-set x.slots;
  fits = rw length-set (omega (arith, x.fits, wider));
  within = λ k below. within_push vars members l k x.within within below;
  indexed = rw e (index_push places members l x.indexed (has_slot l x within.1) none);
}

swapped_within : (vars : ℕ) (members rest : List ℤ) (place k : ℕ) → ((j : ℕ) → j < length members → IsLitWithin vars (get_or members j (pos 0))) → IsSwapped members rest place → k < length rest → IsLitWithin vars (get_or rest k (pos 0))
swapped_within vars members rest place k each r below =
    elim (cases_eq k place) [
      | inl here ↦
          let last : get_or rest k (pos 0) ≡ get_or members (length members - 1) (pos 0) = ap (λ (i : ℕ). get_or rest i (pos 0)) here ∙ r.moved (omega (arith, r.shorter)) in
          subst (IsLitWithin vars) (sym last) (each (length members - 1) (omega (arith, r.shorter)))
      | inr apart ↦ subst (IsLitWithin vars) (sym (r.kept k apart (omega (arith, r.shorter)))) (each k (omega (arith, r.shorter)))
    ]

-- the literal that leaves has no mark
pub unmarked : (places : List ℕ) (l : ℤ) (s t mark : ℕ) → slot l < length places → s ≡ slot l → get_or (set (set places t mark) s 0) (slot l) 0 ≡ 0
unmarked places l s t mark below e = rw e (get_or-set_same (set places t mark) (slot l) 0 0 (rw length-set below))

-- a literal leaves the set, and the last member takes its place
pub sparse_swap_remove : {vars room : ℕ} {places : List ℕ} {members : List ℤ} (rest : List ℤ) (l : ℤ) (s t place : ℕ) → IsSparse vars places members room → nat_abs l ≤ vars → get_or places (slot l) 0 ≡ place + 1 → IsSwapped members rest place
    → s ≡ slot l → t ≡ slot (get_or members (length members - 1) (pos 0)) → IsSparse vars (set (set places t (place + 1)) s 0) rest room
sparse_swap_remove {vars = vars} {places = places} {members = members} rest l s t place x within mark r e f = record {
  few = x.few;
  slots = rw (length-set, length-set) x.slots;
  fits = rw (length-set, length-set) x.fits;
  within = λ k below. swapped_within vars members rest place k x.within r below;
  indexed = rw (e, f) (record {
    listed = λ k below. swapped_listed places members rest l place k x.indexed mark r below;
    stands = λ i some. swapped_stands places members rest l place i x.indexed (has_slot l x within) mark r some;
  });
}
