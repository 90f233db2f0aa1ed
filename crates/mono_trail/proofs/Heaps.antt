-- Which variables wait, through an exchange of two places and a move of the border.
use Rattle.std.proofs.Common.{◌≡◌, ◌≢◌, ℕ, suc, ◌+◌, ◌-◌, ◌<◌, ◌≤◌, Bool, true, false, List, length, get_or, set, map, sym, ◌∙◌, ap, arith, ◌⊎◌, inl, inr}
use Rattle.std.specs.Prelude.{nat_lt, replicate}
use Rattle.std.specs.List.{range_with_len}
use Rattle.std.proofs.lemmas.Bool.{cases_eq, cases_lt, lt-ltb, le-ltb}
use Rattle.std.proofs.lemmas.List.{length-map, length-set, length-replicate, get_or-replicate, get_or-set_same, get_or-set_other, get_or_default, set-get_or, ext_get_or}
use Rattle.std.proofs.Math.ListN.{get_or-map}
use Rattle.std.proofs.Math.Seq.{map-set_same}
use Rattle.std.proofs.lemmas.List.FromFn.{get_or-range_with_len, length-range_with_len}
use Rattle.mono_base.specs.Ranking.{RankingView, AreInverse}
use Rattle.mono_trail.specs.Heap.{IsHeap, waits_of}
use Rattle.mono_trail.specs.Moves.{IsVar}

pub waits_after_exchange : (items places : List ℕ) (first second n : ℕ) → AreInverse items places → first < length items → second < length items → nat_lt first n ≡ nat_lt second n
    → waits_of n (set (set places (get_or items second 0) first) (get_or items first 0) second) ≡ waits_of n places
waits_after_exchange items places first second n inverse lf ls same =
    let f : ℕ → Bool = λ p. nat_lt p n in
    let a : ℕ = get_or items first 0 in
    let b : ℕ = get_or items second 0 in
    let once : map f (set places b first) ≡ map f places = map-set_same f places b first 0 (same ∙ ap f (sym (inverse.listed second ls).1)) in
    let there : f (get_or (set places b first) a 0) ≡ f first = sym (get_or-map f (set places b first) a 0) ∙ ap (λ (ws : List Bool). get_or ws a (f 0)) once ∙ get_or-map f places a 0 ∙ ap f (inverse.listed first lf).1 in
    map-set_same f (set places b first) a second 0 (sym same ∙ sym there) ∙ once

-- ---- the border

-- of two borders that part one place from the others, the variable there is the one whose waiting differs
moved : (places : List ℕ) (count other n v : ℕ) (b : Bool) → v < length places → get_or places v 0 ≡ n → ((i : ℕ) → i < length places → get_or places i 0 ≡ n → i ≡ v) → ((p : ℕ) → p ≢ n → nat_lt p count ≡ nat_lt p other) → nat_lt n count ≡ b
    → waits_of count places ≡ set (waits_of other places) v b
moved places count other n v b inside at only others own =
    ext_get_or (nat_lt 0 count) (waits_of count places) (set (waits_of other places) v b)
    (length-map places (λ p. nat_lt p count) ∙ sym (length-set (waits_of other places) v b ∙ length-map places (λ p. nat_lt p other)))
    (λ i less. get_or-map (λ p. nat_lt p count) places i 0 ∙ by_var i (omega (arith, less, length-map places (λ p. nat_lt p count))) (cases_eq i v))
  where
    by_var : (i : ℕ) → i < length places → (i ≡ v) ⊎ (i ≢ v) → nat_lt (get_or places i 0) count ≡ get_or (set (waits_of other places) v b) i (nat_lt 0 count)
    by_var i lt (inl same) =
        ap (λ (k : ℕ). nat_lt (get_or places k 0) count) same ∙ ap (λ (p : ℕ). nat_lt p count) at ∙ own
        ∙ sym (ap (λ (k : ℕ). get_or (set (waits_of other places) v b) k (nat_lt 0 count)) same ∙ get_or-set_same (waits_of other places) v b (nat_lt 0 count) (omega (arith, inside, length-map places (λ p. nat_lt p other))))
    by_var i lt (inr apart) =
        others (get_or places i 0) (λ e. apart (only i lt e))
        ∙ sym (get_or-set_other (waits_of other places) v i b (nat_lt 0 count) apart ∙ get_or_default (waits_of other places) i (nat_lt 0 count) (nat_lt 0 other) (omega (arith, lt, length-map places (λ p. nat_lt p other))) ∙ get_or-map (λ p. nat_lt p other) places i 0)

border : (items places : List ℕ) (count other n : ℕ) (b : Bool) → AreInverse items places → n < length items → ((p : ℕ) → p ≢ n → nat_lt p count ≡ nat_lt p other) → nat_lt n count ≡ b → waits_of count places ≡ set (waits_of other places) (get_or items n 0) b
border items places count other n b inverse lt others own =
    let there = inverse.listed n lt in
    moved places count other n (get_or items n 0) b (omega (arith, there.0, inverse.as_many)) there.1
    (λ i less e. sym (inverse.stands i (omega (arith, less, inverse.as_many))).1 ∙ ap (λ (p : ℕ). get_or items p 0) e) others own

same_side : (n p : ℕ) → p ≢ n → nat_lt p n ≡ nat_lt p (suc n)
same_side n p apart = elim (cases_lt p n) [
  | inl below ↦ lt-ltb p n below ∙ sym (lt-ltb p (suc n) (omega (arith, below)))
  | inr past ↦ le-ltb p n past ∙ sym (le-ltb p (suc n) (omega (arith, past, apart)))
]

-- the last one that waits leaves
pub leaves_last : (items places : List ℕ) (n : ℕ) → AreInverse items places → n < length items → waits_of n places ≡ set (waits_of (n + 1) places) (get_or items n 0) false
leaves_last items places n inverse lt = border items places n (n + 1) n false inverse lt (λ p apart. same_side n p apart ∙ ap (nat_lt p) (omega arith)) (le-ltb n n (omega arith))

-- the first one that doesn't wait joins
pub joins_last : (items places : List ℕ) (n : ℕ) → AreInverse items places → n < length items → waits_of (n + 1) places ≡ set (waits_of n places) (get_or items n 0) true
joins_last items places n inverse lt = border items places (n + 1) n n true inverse lt (λ p apart. sym (same_side n p apart ∙ ap (nat_lt p) (omega arith))) (lt-ltb n (n + 1) (omega arith))

-- ---- what the calls do

-- a variable has a place
pub index_inside : {r : RankingView} {count activities : ℕ} (v : ℕ) → IsHeap r count activities → IsVar (length (waits_of count r.places)) v → v - 1 < length r.items
index_inside {r} {count} v h is = omega (arith, is.0, is.1, length-map r.places (λ p. nat_lt p count), h.inverse.as_many)

-- a variable that waits already
pub waits_already : (places : List ℕ) (count v p : ℕ) → v < length places → p ≡ get_or places v 0 → p < count → waits_of count places ≡ set (waits_of count places) v true
waits_already places count v p inside at lt =
    let here : get_or (waits_of count places) v (nat_lt 0 count) ≡ true = get_or-map (λ q. nat_lt q count) places v 0 ∙ lt-ltb (get_or places v 0) count (omega (arith, lt, at)) in
    sym (ap (set (waits_of count places) v) (sym here) ∙ set-get_or (waits_of count places) v (nat_lt 0 count))

-- a variable joins
pub inserted : (items places items' places' last_places : List ℕ) (count v place : ℕ) → AreInverse items places → v < length items → place ≡ get_or places v 0 → count ≤ place
    → AreInverse items' places' → length items' ≡ length items → get_or items' count 0 ≡ get_or items place 0 → ((n : ℕ) → nat_lt place n ≡ nat_lt count n → waits_of n places' ≡ waits_of n places)
    → waits_of (count + 1) last_places ≡ waits_of (count + 1) places' → waits_of (count + 1) last_places ≡ set (waits_of count places) v true
inserted items places items' places' last_places count v place inverse inside at past inverse' as_many moved_there same sifted =
    let there = inverse.stands v inside in
    let joined_is : get_or items' count 0 ≡ v = moved_there ∙ ap (λ (p : ℕ). get_or items p 0) at ∙ there.1 in
    let unmoved : waits_of count places' ≡ waits_of count places = same count (le-ltb place count past ∙ sym (le-ltb count count (omega arith))) in
    sifted ∙ joins_last items' places' count inverse' (omega (arith, as_many, at, there.0, past)) ∙ ap (λ (ws : List Bool). set ws (get_or items' count 0) true) unmoved ∙ ap (λ (q : ℕ). set (waits_of count places) q true) joined_is

-- the variable at the top leaves
pub record LeavesHeap (places : List ℕ) (count v : ℕ) (waits : List Bool) : Type 0 where
  pub inside : v < length places
  pub waited : get_or (waits_of count places) v false ≡ true
  pub left : waits ≡ set (waits_of count places) v false

pub popped : (items places items' places' last_places : List ℕ) (count v : ℕ) → AreInverse items places → 0 < count → count ≤ length items
    → AreInverse items' places' → length items' ≡ length items → get_or items' (count - 1) 0 ≡ get_or items 0 0 → ((n : ℕ) → nat_lt 0 n ≡ nat_lt (count - 1) n → waits_of n places' ≡ waits_of n places)
    → v ≡ get_or items' (count - 1) 0 → waits_of (count - 1) last_places ≡ waits_of (count - 1) places' → LeavesHeap places count v (waits_of (count - 1) last_places)
popped items places items' places' last_places count v inverse some within inverse' as_many moved_there same here sifted =
    let border_in : count - 1 < length items' = omega (arith, as_many, some, within) in
    let top = inverse.listed 0 (omega (arith, some, within)) in
    let back : count - 1 + 1 ≡ count = omega (arith, some) in
    let inside : v < length places = omega (arith, here, moved_there, top.0, inverse.as_many) in
    let place : get_or places v 0 ≡ 0 = ap (λ (q : ℕ). get_or places q 0) (here ∙ moved_there) ∙ top.1 in
    let unmoved : waits_of count places' ≡ waits_of count places = same count (lt-ltb 0 count some ∙ sym (lt-ltb (count - 1) count (omega (arith, some)))) in
    record {
      inside = inside;
      waited = get_or_default (waits_of count places) v false (nat_lt 0 count) (omega (arith, inside, length-map places (λ p. nat_lt p count))) ∙ get_or-map (λ p. nat_lt p count) places v 0 ∙ lt-ltb (get_or places v 0) count (omega (arith, place, some));
      left = sifted ∙ leaves_last items' places' (count - 1) inverse' border_in ∙ ap (λ (n : ℕ). set (waits_of n places') (get_or items' (count - 1) 0) false) back ∙ ap (λ (ws : List Bool). set ws (get_or items' (count - 1) 0) false) unmoved ∙ ap (λ (q : ℕ). set (waits_of count places) q false) (sym here);
    }

pub heap_is : (r s : RankingView) (count more activities : ℕ) → IsHeap r count activities → AreInverse s.items s.places → length s.items ≡ length r.items → more ≤ length r.items → IsHeap s more activities
heap_is r s count more activities h inverse as_many within = record { inverse = inverse; within = omega (arith, as_many, within); scored = h.scored ∙ sym as_many; few = omega (arith, as_many, h.few) }

-- ---- a heap in which all wait

same_tests : (count : ℕ) (places : List ℕ) (b : Bool) → ((i : ℕ) → i < length places → nat_lt (get_or places i 0) count ≡ b) → waits_of count places ≡ replicate (length places) b
same_tests count places b h = ext_get_or (nat_lt 0 count) (waits_of count places) (replicate (length places) b) (length-map places (λ p. nat_lt p count) ∙ sym (length-replicate (length places) b)) (λ i lt.
    let inside : i < length places = omega (arith, lt, length-map places (λ p. nat_lt p count)) in
    get_or-map (λ p. nat_lt p count) places i 0 ∙ h i inside ∙ sym (get_or-replicate (length places) i b (nat_lt 0 count) inside))

pub none_wait : (places : List ℕ) → waits_of 0 places ≡ replicate (length places) false
none_wait places = same_tests 0 places false (λ i lt. le-ltb (get_or places i 0) 0 (omega arith))

pub all_wait_new : (n : ℕ) → waits_of n (range_with_len 0 n) ≡ replicate n true
all_wait_new n = same_tests n (range_with_len 0 n) true (λ i lt.
    let inside : i < n = omega (arith, lt, length-range_with_len 0 n) in
    lt-ltb (get_or (range_with_len 0 n) i 0) n (omega (arith, inside, get_or-range_with_len 0 n i 0 inside))) ∙ ap (λ (k : ℕ). replicate k true) (length-range_with_len 0 n)
