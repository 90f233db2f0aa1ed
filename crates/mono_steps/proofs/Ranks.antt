-- Picked items and their places.
use Rattle.std.proofs.Common.{◌≡◌, ℕ, zero, suc, ◌+◌, ◌-◌, ◌<◌, ◌≤◌, Bool, true, false, ◌||◌, ◌==◌, cond, List, [], ◌∷◌, ◌++◌, length, map, take, drop, get_or, Some, refl, sym, ap, subst, ◌∙◌, inl, inr, arith, append_assoc}
use Rattle.std.specs.Prelude.{IsTrue, slice_get, nat_le}
use Rattle.std.proofs.Math.Bool.{or-false}
use Rattle.std.proofs.lemmas.Bool.{or_left, or_right, or_cases, eqb-true, eq-eqb, le-leb, leb-true, leb-false}
use Rattle.std.proofs.lemmas.List.{take_more, get_or_append_left}
use Rattle.std.proofs.lemmas.List.Folds.{list_any-append}
use Rattle.mono_steps.specs.Renumbering.{pick, rank, has_number}
use Rattle.mono_steps.specs.Trimmed.{renumbered}
use Rattle.mono_steps.specs.Needed.{is_set}

pub set_within : (bs : List Bool) (k : ℕ) → is_set bs k ≡ true → k < length bs
set_within [] k h = cc
set_within (b ∷ bs) zero h = omega arith
set_within (b ∷ bs) (suc k) h = let r = set_within bs k h in omega arith

pub rank_zero : (bs : List Bool) → rank bs 0 ≡ 0
rank_zero [] = refl
rank_zero (b ∷ bs) = refl

step_suc : (bs : List Bool) (k : ℕ) → is_set bs k ≡ true → rank bs (suc k) ≡ suc (rank bs k)
step_suc [] k h = cc
step_suc (b ∷ bs) zero h = let e : b ≡ true = h in ap (λ (f : Bool). cond f (suc (rank bs 0)) (rank bs 0)) e ∙ ap suc (rank_zero bs)
step_suc (true ∷ bs) (suc k) h = ap suc (step_suc bs k h)
step_suc (false ∷ bs) (suc k) h = step_suc bs k h

skip_suc : (bs : List Bool) (k : ℕ) → is_set bs k ≡ false → rank bs (suc k) ≡ rank bs k
skip_suc [] k h = refl
skip_suc (b ∷ bs) zero h = let e : b ≡ false = h in ap (λ (f : Bool). cond f (suc (rank bs 0)) (rank bs 0)) e ∙ rank_zero bs
skip_suc (true ∷ bs) (suc k) h = ap suc (skip_suc bs k h)
skip_suc (false ∷ bs) (suc k) h = skip_suc bs k h

pub rank_step : (bs : List Bool) (k : ℕ) → is_set bs k ≡ true → rank bs (k + 1) ≡ rank bs k + 1
rank_step bs k h = let e : k + 1 ≡ suc k = omega arith in omega (arith, ap (rank bs) e, step_suc bs k h)

pub rank_skip : (bs : List Bool) (k : ℕ) → is_set bs k ≡ false → rank bs (k + 1) ≡ rank bs k
rank_skip bs k h = let e : k + 1 ≡ suc k = omega arith in ap (rank bs) e ∙ skip_suc bs k h

pub rank_mono : (bs : List Bool) (j k : ℕ) → j ≤ k → rank bs j ≤ rank bs k
rank_mono [] j k h = omega arith
rank_mono (b ∷ bs) zero k h = omega arith
rank_mono (b ∷ bs) (suc j) zero h = absurd (omega arith)
rank_mono (true ∷ bs) (suc j) (suc k) h = omega (arith, rank_mono bs j k (omega arith))
rank_mono (false ∷ bs) (suc j) (suc k) h = rank_mono bs j k (omega arith)

pub rank_less : (bs : List Bool) (j k : ℕ) → j < k → is_set bs j ≡ true → rank bs j < rank bs k
rank_less bs j k h on = omega (arith, rank_step bs j on, rank_mono bs (j + 1) k (omega arith))

pub rank_le : (bs : List Bool) (k : ℕ) → rank bs k ≤ k
rank_le [] k = omega arith
rank_le (b ∷ bs) zero = omega arith
rank_le (true ∷ bs) (suc k) = omega (arith, rank_le bs k)
rank_le (false ∷ bs) (suc k) = omega (arith, rank_le bs k)

pub length_pick : {A : Type 0} (bs : List Bool) (xs : List A) → length bs ≡ length xs → length (pick bs xs) ≡ rank bs (length xs)
length_pick [] xs e = refl
length_pick (b ∷ bs) [] e = absurd (omega arith)
length_pick {A} (true ∷ bs) (x ∷ xs) e = omega (arith, length_pick bs xs (omega arith))
length_pick {A} (false ∷ bs) (x ∷ xs) e = omega (arith, length_pick bs xs (omega arith))

-- the place of a picked item
pub pick_get : {A : Type 0} (bs : List Bool) (xs : List A) (k : ℕ) → is_set bs k ≡ true → length bs ≡ length xs → slice_get (pick bs xs) (rank bs k) ≡ slice_get xs k
pick_get [] xs k h e = cc
pick_get (b ∷ bs) [] k h e = absurd (omega arith)
pick_get {A} (b ∷ bs) (x ∷ xs) zero h e = let on : b ≡ true = h in subst (λ (c : Bool). slice_get (cond c (x ∷ pick bs xs) (pick bs xs)) 0 ≡ Some x) (sym on) refl
pick_get (true ∷ bs) (x ∷ xs) (suc k) h e = pick_get bs xs k h (omega arith)
pick_get (false ∷ bs) (x ∷ xs) (suc k) h e = pick_get bs xs k h (omega arith)

-- which item was picked
pub record IsPicked (bs : List Bool) (n j : ℕ) : Type 0 where
  pub place : ℕ
  pub within : place < n
  pub set : is_set bs place ≡ true
  pub rank_is : rank bs place ≡ j

pub picked : {A : Type 0} (bs : List Bool) (xs : List A) (j : ℕ) → j < length (pick bs xs) → IsPicked bs (length xs) j
picked [] xs j h = absurd (omega arith)
picked (b ∷ bs) [] j h = absurd (omega arith)
picked {A} (true ∷ bs) (x ∷ xs) zero h = record { place = 0; within = omega arith; set = refl; rank_is = refl }
picked {A} (true ∷ bs) (x ∷ xs) (suc j) h = let r = picked bs xs j (omega arith) in record { place = suc r.place; within = omega (arith, r.within); set = r.set; rank_is = omega (arith, r.rank_is) }
picked {A} (false ∷ bs) (x ∷ xs) j h = let r = picked bs xs j h in record { place = suc r.place; within = omega (arith, r.within); set = r.set; rank_is = omega (arith, r.rank_is) }

-- the rest of the picked items
pub pick_drop : {A : Type 0} (bs : List Bool) (xs : List A) (i : ℕ) (d : A) → i < length xs → length bs ≡ length xs → pick (drop i bs) (drop i xs) ≡ cond (is_set bs i) (get_or xs i d ∷ pick (drop (suc i) bs) (drop (suc i) xs)) (pick (drop (suc i) bs) (drop (suc i) xs))
pick_drop bs [] i d h e = absurd (omega arith)
pick_drop [] (x ∷ xs) i d h e = absurd (omega arith)
pick_drop (b ∷ bs) (x ∷ xs) zero d h e = refl
pick_drop (b ∷ bs) (x ∷ xs) (suc i) d h e = pick_drop bs xs i d (omega arith) (omega arith)

-- a number of a list, and its new number
pub has_mapped : (f : ℕ → ℕ) (ns : List ℕ) (n : ℕ) → IsTrue (has_number ns n) → IsTrue (has_number (map f ns) (f n))
has_mapped f [] n h = absurd cc
has_mapped f (m ∷ ns) n h = elim (or_cases (m == n) (has_number ns n) h) [
  | inl e ↦ or_left (f m == f n) (has_number (map f ns) (f n)) (eq-eqb (f m) (f n) (ap f (eqb-true m n e)))
  | inr k ↦ or_right (f m == f n) (has_number (map f ns) (f n)) (has_mapped f ns n k)
]

pub has_more : (ns : List ℕ) (i n : ℕ) (d : ℕ) → i < length ns → has_number (take (i + 1) ns) n ≡ (has_number (take i ns) n || (get_or ns i d == n))
has_more ns i n d lt =
    ap (λ (xs : List ℕ). has_number xs n) (take_more ns i d lt) ∙ list_any-append (λ m. m == n) (take i ns) (get_or ns i d ∷ []) ∙ ap (λ (b : Bool). has_number (take i ns) n || b) (or-false (get_or ns i d == n))

-- new numbers
pub above : (a b : ℕ) → b < a → nat_le a b ≡ false
above a b h = by_case (nat_le a b) refl
  where
    by_case : (r : Bool) → nat_le a b ≡ r → r ≡ false
    by_case false e = refl
    by_case true e = absurd (omega (arith, leb-true a b e))

pub renumbered_low : (c : ℕ) (needed : List Bool) (n : ℕ) → n ≤ c → renumbered c needed n ≡ n
renumbered_low c needed n h = ap (λ (b : Bool). cond b n (c + 1 + rank needed (n - c - 1))) (le-leb n c h)

pub renumbered_high : (c : ℕ) (needed : List Bool) (k : ℕ) → renumbered c needed (c + 1 + k) ≡ c + 1 + rank needed k
renumbered_high c needed k =
    let off : nat_le (c + 1 + k) c ≡ false = above (c + 1 + k) c (omega arith) in
    let at : c + 1 + k - c - 1 ≡ k = omega arith in
    ap (λ (b : Bool). cond b (c + 1 + k) (c + 1 + rank needed (c + 1 + k - c - 1))) off ∙ ap (λ (j : ℕ). c + 1 + rank needed j) at

-- one number more
pub numbers_more : (xs ys : List ℕ) (i c y : ℕ) (bs : List Bool) → ys ≡ xs ++ y ∷ [] → length xs ≡ i → ((k : ℕ) → k < i → get_or xs k 0 ≡ c + 1 + rank bs k) → y ≡ c + 1 + rank bs i → (k : ℕ) → k < i + 1 → get_or ys k 0 ≡ c + 1 + rank bs k
numbers_more xs ys i c y bs e len at is k lt = ap (λ (zs : List ℕ). get_or zs k 0) e ∙ by_place (nat_le i k) refl
  where
    last : (zs : List ℕ) (j : ℕ) → j ≡ length zs → get_or (zs ++ y ∷ []) j 0 ≡ y
    last [] zero h = refl
    last [] (suc j) h = absurd (omega arith)
    last (z ∷ zs) zero h = absurd (omega arith)
    last (z ∷ zs) (suc j) h = last zs j (omega arith)

    by_place : (b : Bool) → nat_le i k ≡ b → get_or (xs ++ y ∷ []) k 0 ≡ c + 1 + rank bs k
    by_place true h =
        let same : k ≡ i = omega (arith, leb-true i k h, lt) in
        last xs k (omega (arith, same, len)) ∙ is ∙ ap (λ (j : ℕ). c + 1 + rank bs j) (sym same)
    by_place false h =
        let low : k < i = leb-false i k h in
        get_or_append_left xs (y ∷ []) 0 k (omega (arith, low, len)) ∙ at k low

-- one copy more, or none
pub copies_more : {A : Type 0} (new now all : List A) (bs : List Bool) (xs : List A) (i : ℕ) (x d : A) → i < length xs → length bs ≡ length xs → new ++ pick (drop i bs) (drop i xs) ≡ all → is_set bs i ≡ true → now ≡ new ++ x ∷ [] → x ≡ get_or xs i d → now ++ pick (drop (i + 1) bs) (drop (i + 1) xs) ≡ all
copies_more {A} new now all bs xs i x d lt len so_far on e is =
    let up : i + 1 ≡ suc i = omega arith in
    let rest = pick (drop (suc i) bs) (drop (suc i) xs) in
    ap (λ (j : ℕ). now ++ pick (drop j bs) (drop j xs)) up ∙ ap (λ (ys : List A). ys ++ rest) e ∙ append_assoc new (x ∷ []) rest
    ∙ ap (λ (y : A). new ++ y ∷ rest) is ∙ ap (λ (ys : List A). new ++ ys) (sym (pick_drop bs xs i d lt len ∙ ap (λ (b : Bool). cond b (get_or xs i d ∷ rest) rest) on)) ∙ so_far

pub copies_same : {A : Type 0} (new now all : List A) (bs : List Bool) (xs : List A) (i : ℕ) → i < length xs → length bs ≡ length xs → new ++ pick (drop i bs) (drop i xs) ≡ all → is_set bs i ≡ false → now ≡ new → now ++ pick (drop (i + 1) bs) (drop (i + 1) xs) ≡ all
copies_same {A} new now all bs xs i lt len so_far off e =
    let up : i + 1 ≡ suc i = omega arith in
    ap (λ (j : ℕ). now ++ pick (drop j bs) (drop j xs)) up ∙ ap (λ (ys : List A). ys ++ pick (drop (suc i) bs) (drop (suc i) xs)) e
    ∙ ap (λ (ys : List A). new ++ ys) (sym (skipped bs xs i lt len off)) ∙ so_far
  where
    skipped : (cs : List Bool) (ys : List A) (j : ℕ) → j < length ys → length cs ≡ length ys → is_set cs j ≡ false → pick (drop j cs) (drop j ys) ≡ pick (drop (suc j) cs) (drop (suc j) ys)
    skipped cs [] j h l f = absurd (omega arith)
    skipped [] (y ∷ ys) j h l f = absurd (omega arith)
    skipped (b ∷ cs) (y ∷ ys) zero h l f = let g : b ≡ false = f in ap (λ (d : Bool). cond d (y ∷ pick cs ys) (pick cs ys)) g
    skipped (b ∷ cs) (y ∷ ys) (suc j) h l f = skipped cs ys j (omega arith) (omega arith) f

pub get_or_mapped : {A B : Type 0} (f : A → B) (xs : List A) (k : ℕ) (d : A) → get_or (map f xs) k (f d) ≡ f (get_or xs k d)
get_or_mapped f [] k d = refl
get_or_mapped f (x ∷ xs) zero d = refl
get_or_mapped f (x ∷ xs) (suc k) d = get_or_mapped f xs k d
