-- Lists by key in one table, after a change of a stretch or of the items.
use Rattle.std.proofs.Common.{◌≡◌, ◌∙◌, ℕ, zero, suc, ◌+◌, ◌-◌, ◌<◌, ◌≤◌, List, [], ◌∷◌, ◌++◌, length, take, drop, get_or, set, refl, sym, ap, subst, inl, inr, arith, length-append}
use Rattle.std.specs.Prelude.{◌≢◌, ◌⊎◌, replicate}
use Rattle.std.proofs.lemmas.Bool.{cases_eq, cases_lt}
use Rattle.std.proofs.lemmas.Grind.{get_or-set_at}
use Rattle.std.proofs.lemmas.List.{drop-append-le, drop-set-add, drop-set-lt, ext_get_or, get_or-map, get_or-replicate, get_or-set_other, get_or_append_left, get_or_push, length-drop, length-map, length-replicate, length-set, length-take, length-take-le, map-append, set-get_or, take-append-drop, take-append-le, take-set-le, take-take, take_all, take_more_set}
use Rattle.std.proofs.Math.Seq.{drop-append_seam, take-append_seam}
use Rattle.mono_base.specs.declared.buckets.Stretch.{Stretch}
use Rattle.mono_base.specs.Buckets.{AreApart, IsApart, IsBehind, has_room, listed_in, lists_in, no_stretch, stretch_at}

-- ---- a stretch of items, after a change elsewhere

-- an item behind it
set_behind : {T : Type 0} (xs : List T) (p a n : ℕ) (v : T) → a + n ≤ p → take n (drop a (set xs p v)) ≡ take n (drop a xs)
set_behind xs p a n v le =
    let there : p ≡ a + (p - a) = omega (arith, le) in
    ap (λ (q : ℕ). take n (drop a (set xs q v))) there ∙ ap (take n) (drop-set-add a xs (p - a) v) ∙ take-set-le n (drop a xs) (p - a) v (omega (arith, le))

-- an item outside it
pub set_outside : {T : Type 0} (xs : List T) (p a n : ℕ) (v : T) → (a + n ≤ p) ⊎ (p < a) → take n (drop a (set xs p v)) ≡ take n (drop a xs)
set_outside xs p a n v (inl le) = set_behind xs p a n v le
set_outside xs p a n v (inr lt) = ap (take n) (drop-set-lt a xs p v lt)

-- the item right behind it, which it has then
pub set_next : {T : Type 0} (xs : List T) (a n : ℕ) (v : T) → a + n < length xs → take (n + 1) (drop a (set xs (a + n) v)) ≡ take n (drop a xs) ++ v ∷ []
set_next xs a n v lt = ap (take (n + 1)) (drop-set-add a xs n v) ∙ take_more_set (drop a xs) n v (omega (arith, lt, length-drop a xs))

-- more items at the end
appended : {T : Type 0} (xs ys : List T) (a n : ℕ) → a + n ≤ length xs → take n (drop a (xs ++ ys)) ≡ take n (drop a xs)
appended xs ys a n le = ap (take n) (drop-append-le a xs ys (omega (arith, le))) ∙ take-append-le n (drop a xs) ys (omega (arith, le, length-drop a xs))

-- items that begin with these
pub begins : {T : Type 0} (xs ys : List T) (a n : ℕ) → take (length xs) ys ≡ xs → a + n ≤ length xs → take n (drop a ys) ≡ take n (drop a xs)
begins xs ys a n is le =
    let whole : ys ≡ xs ++ drop (length xs) ys = sym (take-append-drop (length xs) ys) ∙ ap (λ (zs : List _). zs ++ drop (length xs) ys) is in
    ap (λ (zs : List _). take n (drop a zs)) whole ∙ appended xs (drop (length xs) ys) a n le

-- ---- the lists, where one stretch and the items changed

-- how the list at a key is read
pub list_at : {T : Type 0} (xs : List T) (ss : List Stretch) (k : ℕ) → k < length ss → get_or (lists_in xs ss) k [] ≡ listed_in xs (stretch_at ss k)
list_at xs ss k lt = get_or-map (listed_in xs) ss k no_stretch [] lt

-- the list of one stretch is another one now, and those of the others are the same
pub changed : {T : Type 0} (xs ys : List T) (ss : List Stretch) (k : ℕ) (s : Stretch) (l : List T) → k < length ss → listed_in ys s ≡ l
    → ((j : ℕ) → j < length ss → j ≢ k → listed_in ys (stretch_at ss j) ≡ listed_in xs (stretch_at ss j))
    → lists_in ys (set ss k s) ≡ set (lists_in xs ss) k l
changed xs ys ss k s l lt here others = ext_get_or [] (lists_in ys (set ss k s)) (set (lists_in xs ss) k l)
    (length-map (set ss k s) (listed_in ys) ∙ length-set ss k s ∙ sym (length-set (lists_in xs ss) k l ∙ length-map ss (listed_in xs)))
    (λ j below. at j (omega (arith, below, length-map (set ss k s) (listed_in ys), length-set ss k s)) (cases_eq j k))
  where
    at : (j : ℕ) → j < length ss → (j ≡ k) ⊎ (j ≡ k → ⊥) → get_or (lists_in ys (set ss k s)) j [] ≡ get_or (set (lists_in xs ss) k l) j []
    at j below (inl e) =
        list_at ys (set ss k s) j (omega (arith, below, length-set ss k s)) ∙ ap (listed_in ys) (get_or-set_at ss k j s no_stretch e lt) ∙ here
        ∙ sym (get_or-set_at (lists_in xs ss) k j l [] e (omega (arith, lt, length-map ss (listed_in xs))))
    at j below (inr ne) =
        list_at ys (set ss k s) j (omega (arith, below, length-set ss k s)) ∙ ap (listed_in ys) (get_or-set_other ss k j s no_stretch ne) ∙ others j below ne
        ∙ sym (list_at xs ss j below) ∙ sym (get_or-set_other (lists_in xs ss) k j l [] ne)

-- the list of each stretch is the same
pub unchanged : {T : Type 0} (xs ys : List T) (ss : List Stretch) → ((j : ℕ) → j < length ss → listed_in ys (stretch_at ss j) ≡ listed_in xs (stretch_at ss j)) → lists_in ys ss ≡ lists_in xs ss
unchanged xs ys ss same = ext_get_or [] (lists_in ys ss) (lists_in xs ss) (length-map ss (listed_in ys) ∙ sym (length-map ss (listed_in xs)))
    (λ j below. let lt : j < length ss = omega (arith, below, length-map ss (listed_in ys)) in list_at ys ss j lt ∙ same j lt ∙ sym (list_at xs ss j lt))

-- ---- stretches that lie apart

swapped : (s t : Stretch) → IsApart s t → IsApart t s
swapped s t (inl le) = inr le
swapped s t (inr le) = inl le

-- more items behind
pub apart_more : {T : Type 0} (xs ys : List T) (ss : List Stretch) → AreApart (length xs) ss → take (length xs) ys ≡ xs → AreApart (length ys) ss
apart_more xs ys ss are kept = record {
  held = are.held;
  within = λ k lt. let most = are.within k lt in omega (arith, most, ap length kept, length-take (length xs) ys);
  apart = are.apart;
}

-- one stretch is another one now, apart from the rest
pub apart_set : (n m : ℕ) (ss : List Stretch) (k : ℕ) (s : Stretch) → AreApart n ss → k < length ss → n ≤ m → s.len ≤ s.room → s.start + s.room ≤ m
    → ((j : ℕ) → j < length ss → j ≢ k → IsApart s (stretch_at ss j)) → AreApart m (set ss k s)
apart_set n m ss k s are lt le held within rest = record {
  held = λ j below. held_at j (omega (arith, below, length-set ss k s)) (cases_eq j k);
  within = λ j below. within_at j (omega (arith, below, length-set ss k s)) (cases_eq j k);
  apart = λ i j first second ne. apart_at i j (omega (arith, first, length-set ss k s)) (omega (arith, second, length-set ss k s)) ne (cases_eq i k) (cases_eq j k);
}
  where
    here : (j : ℕ) → j ≡ k → stretch_at (set ss k s) j ≡ s
    here j e = get_or-set_at ss k j s no_stretch e lt

    there : (j : ℕ) → (j ≡ k → ⊥) → stretch_at (set ss k s) j ≡ stretch_at ss j
    there j ne = get_or-set_other ss k j s no_stretch ne

    held_at : (j : ℕ) → j < length ss → (j ≡ k) ⊎ (j ≡ k → ⊥) → (stretch_at (set ss k s) j).len ≤ (stretch_at (set ss k s) j).room
    held_at j below (inl e) = subst (λ (t : Stretch). t.len ≤ t.room) (sym (here j e)) held
    held_at j below (inr ne) = subst (λ (t : Stretch). t.len ≤ t.room) (sym (there j ne)) (are.held j below)

    within_at : (j : ℕ) → j < length ss → (j ≡ k) ⊎ (j ≡ k → ⊥) → (stretch_at (set ss k s) j).start + (stretch_at (set ss k s) j).room ≤ m
    within_at j below (inl e) = subst (λ (t : Stretch). t.start + t.room ≤ m) (sym (here j e)) within
    within_at j below (inr ne) = subst (λ (t : Stretch). t.start + t.room ≤ m) (sym (there j ne)) (let most = are.within j below in omega (arith, le, most))

    apart_at : (i j : ℕ) → i < length ss → j < length ss → i ≢ j → (i ≡ k) ⊎ (i ≡ k → ⊥) → (j ≡ k) ⊎ (j ≡ k → ⊥) → IsApart (stretch_at (set ss k s) i) (stretch_at (set ss k s) j)
    apart_at i j first second ne (inl e) (inl f) = absurd (ne (e ∙ sym f))
    apart_at i j first second ne (inl e) (inr f) = subst (λ (t : Stretch). IsApart t (stretch_at (set ss k s) j)) (sym (here i e)) (subst (IsApart s) (sym (there j f)) (rest j second f))
    apart_at i j first second ne (inr e) (inl f) =
        subst (λ (t : Stretch). IsApart t (stretch_at (set ss k s) j)) (sym (there i e)) (subst (IsApart (stretch_at ss i)) (sym (here j f)) (swapped s (stretch_at ss i) (rest i first e)))
    apart_at i j first second ne (inr e) (inr f) =
        subst (λ (t : Stretch). IsApart t (stretch_at (set ss k s) j)) (sym (there i e)) (subst (IsApart (stretch_at ss i)) (sym (there j f)) (are.apart i j first second ne))

-- ---- an item joins a list that has room for it

-- the place behind a list with room is in no other stretch
outside : (n : ℕ) (ss : List Stretch) (k j : ℕ) → AreApart n ss → k < length ss → j < length ss → j ≢ k → has_room (stretch_at ss k)
    → ((stretch_at ss j).start + (stretch_at ss j).len ≤ (stretch_at ss k).start + (stretch_at ss k).len) ⊎ ((stretch_at ss k).start + (stretch_at ss k).len < (stretch_at ss j).start)
outside n ss k j are lt below ne room = by_order (are.apart j k below lt ne)
  where
    by_order : IsApart (stretch_at ss j) (stretch_at ss k)
        → ((stretch_at ss j).start + (stretch_at ss j).len ≤ (stretch_at ss k).start + (stretch_at ss k).len) ⊎ ((stretch_at ss k).start + (stretch_at ss k).len < (stretch_at ss j).start)
    by_order (inl le) = let held = are.held j below in inl (omega (arith, le, held))
    by_order (inr le) = inr (omega (arith, le, room))

pub put_lists : {T : Type 0} (xs : List T) (ss : List Stretch) (k : ℕ) (item : T) (s : Stretch) → AreApart (length xs) ss → k < length ss → has_room (stretch_at ss k)
    → s.start ≡ (stretch_at ss k).start → s.len ≡ (stretch_at ss k).len + 1
    → lists_in (set xs ((stretch_at ss k).start + (stretch_at ss k).len) item) (set ss k s) ≡ set (lists_in xs ss) k (get_or (lists_in xs ss) k [] ++ item ∷ [])
put_lists xs ss k item s are lt room start len =
    let at = stretch_at ss k in
    let within = are.within k lt in
    let p = at.start + at.len in
    changed xs (set xs p item) ss k s (get_or (lists_in xs ss) k [] ++ item ∷ []) lt
    (ap (λ (n : ℕ). take n (drop s.start (set xs p item))) len ∙ ap (λ (a : ℕ). take (at.len + 1) (drop a (set xs p item))) start
    ∙ set_next xs at.start at.len item (omega (arith, within, room)) ∙ ap (λ (l : List _). l ++ item ∷ []) (sym (list_at xs ss k lt)))
    (λ j below ne. set_outside xs p (stretch_at ss j).start (stretch_at ss j).len item (outside (length xs) ss k j are lt below ne room))

pub put_apart : (n : ℕ) (ss : List Stretch) (k : ℕ) (s : Stretch) → AreApart n ss → k < length ss → s.len ≤ s.room → s.start ≡ (stretch_at ss k).start → s.room ≡ (stretch_at ss k).room
    → AreApart n (set ss k s)
put_apart n ss k s are lt held start room =
    let le = are.within k lt in
    apart_set n n ss k s are lt (omega arith) held (omega (arith, le, start, room)) (λ j below ne. as_before j (are.apart k j lt below (λ e. ne (sym e))))
  where
    as_before : (j : ℕ) → IsApart (stretch_at ss k) (stretch_at ss j) → IsApart s (stretch_at ss j)
    as_before j (inl le) = inl (omega (arith, le, start, room))
    as_before j (inr le) = inr (omega (arith, le, start))

-- the last item of a list leaves
pub popped_lists : {T : Type 0} (xs : List T) (ss : List Stretch) (k : ℕ) (s : Stretch) → AreApart (length xs) ss → k < length ss → s.start ≡ (stretch_at ss k).start → s.len ≡ (stretch_at ss k).len - 1
    → lists_in xs (set ss k s) ≡ set (lists_in xs ss) k (take (length (get_or (lists_in xs ss) k []) - 1) (get_or (lists_in xs ss) k []))
popped_lists xs ss k s are lt start len =
    let at = stretch_at ss k in
    let held = are.held k lt in
    let within = are.within k lt in
    let count : length (take at.len (drop at.start xs)) ≡ at.len = length-take-le at.len (drop at.start xs) (omega (arith, held, within, length-drop at.start xs)) in
    changed xs xs ss k s _ lt
    (ap (λ (n : ℕ). take n (drop s.start xs)) len ∙ ap (λ (a : ℕ). take (at.len - 1) (drop a xs)) start
    ∙ sym (take-take (at.len - 1) at.len (drop at.start xs) (omega arith))
    ∙ ap (λ (n : ℕ). take (n - 1) (take at.len (drop at.start xs))) (sym count)
    ∙ ap (λ (l : List _). take (length l - 1) l) (sym (list_at xs ss k lt)))
    (λ j below ne. refl)

-- ---- a list moves behind all others

pub moved_lists : {T : Type 0} (xs ys : List T) (ss : List Stretch) (k : ℕ) (s : Stretch) → AreApart (length xs) ss → k < length ss → take (length xs) ys ≡ xs → IsBehind xs ys (stretch_at ss k) s
    → lists_in ys (set ss k s) ≡ lists_in xs ss
moved_lists xs ys ss k s are lt kept behind =
    changed xs ys ss k s (get_or (lists_in xs ss) k []) lt (behind.same ∙ sym (list_at xs ss k lt)) (λ j below ne. same_at j below)
    ∙ set-get_or (lists_in xs ss) k []
  where
    same_at : (j : ℕ) → j < length ss → listed_in ys (stretch_at ss j) ≡ listed_in xs (stretch_at ss j)
    same_at j below =
        let held = are.held j below in
        let within = are.within j below in
        begins xs ys (stretch_at ss j).start (stretch_at ss j).len kept (omega (arith, held, within))

pub moved_apart : {T : Type 0} (xs ys : List T) (ss : List Stretch) (k : ℕ) (s : Stretch) → AreApart (length xs) ss → k < length ss → IsBehind xs ys (stretch_at ss k) s → AreApart (length ys) (set ss k s)
moved_apart xs ys ss k s are lt behind =
    let start = behind.start in
    let room = behind.room in
    let end = behind.end in
    apart_set (length xs) (length ys) ss k s are lt (omega (arith, start, end)) (omega (arith, room)) end
    (λ j below ne. let within = are.within j below in inr (omega (arith, start, within)))

-- no list changes where items come behind all others
pub same_lists : {T : Type 0} (xs ys : List T) (ss : List Stretch) → AreApart (length xs) ss → take (length xs) ys ≡ xs → lists_in ys ss ≡ lists_in xs ss
same_lists xs ys ss are kept = unchanged xs ys ss (λ j below.
    let held = are.held j below in
    let within = are.within j below in
    begins xs ys (stretch_at ss j).start (stretch_at ss j).len kept (omega (arith, held, within)))

-- ---- a list joins behind those of the keys so far

pub pushed_lists : {T : Type 0} (xs list : List T) (ss : List Stretch) (s : Stretch) → AreApart (length xs) ss → s.start ≡ length xs → s.len ≡ length list
    → lists_in (xs ++ list) (ss ++ s ∷ []) ≡ lists_in xs ss ++ list ∷ []
pushed_lists xs list ss s are start len =
    map-append (listed_in (xs ++ list)) ss (s ∷ [])
    ∙ ap (λ (ls : List (List _)). ls ++ listed_in (xs ++ list) s ∷ []) (same_lists xs (xs ++ list) ss are (take-append_seam xs list))
    ∙ ap (λ (l : List _). lists_in xs ss ++ l ∷ []) last
  where
    last : listed_in (xs ++ list) s ≡ list
    last = ap (λ (a : ℕ). take s.len (drop a (xs ++ list))) start ∙ ap (take s.len) (drop-append_seam xs list) ∙ take_all s.len list (omega (arith, len))

pub pushed_apart : {T : Type 0} (xs list : List T) (ss : List Stretch) (s : Stretch) → AreApart (length xs) ss → s.start ≡ length xs → s.len ≡ length list → s.room ≡ s.len
    → AreApart (length (xs ++ list)) (ss ++ s ∷ [])
pushed_apart xs list ss s are start len room = record {
  held = λ j below. held_at j (cases_lt j (length ss)) (omega (arith, below, length-append ss (s ∷ [])));
  within = λ j below. within_at j (cases_lt j (length ss)) (omega (arith, below, length-append ss (s ∷ [])));
  apart = λ i j first second ne. apart_at i j (cases_lt i (length ss)) (cases_lt j (length ss)) (omega (arith, first, length-append ss (s ∷ []))) (omega (arith, second, length-append ss (s ∷ []))) ne;
}
  where
    old : (j : ℕ) → j < length ss → stretch_at (ss ++ s ∷ []) j ≡ stretch_at ss j
    old j lt = get_or_append_left ss (s ∷ []) no_stretch j lt

    new : (j : ℕ) → length ss ≤ j → j < length ss + 1 → stretch_at (ss ++ s ∷ []) j ≡ s
    new j le lt = get_or_push ss s no_stretch j (omega (arith, le, lt))

    held_at : (j : ℕ) → (j < length ss) ⊎ (length ss ≤ j) → j < length ss + 1 → (stretch_at (ss ++ s ∷ []) j).len ≤ (stretch_at (ss ++ s ∷ []) j).room
    held_at j (inl lt) below = subst (λ (t : Stretch). t.len ≤ t.room) (sym (old j lt)) (are.held j lt)
    held_at j (inr le) below = subst (λ (t : Stretch). t.len ≤ t.room) (sym (new j le below)) (omega (arith, room))

    within_at : (j : ℕ) → (j < length ss) ⊎ (length ss ≤ j) → j < length ss + 1 → (stretch_at (ss ++ s ∷ []) j).start + (stretch_at (ss ++ s ∷ []) j).room ≤ length (xs ++ list)
    within_at j (inl lt) below = subst (λ (t : Stretch). t.start + t.room ≤ length (xs ++ list)) (sym (old j lt)) (let most = are.within j lt in omega (arith, most, length-append xs list))
    within_at j (inr le) below = subst (λ (t : Stretch). t.start + t.room ≤ length (xs ++ list)) (sym (new j le below)) (omega (arith, start, len, room, length-append xs list))

    apart_at : (i j : ℕ) → (i < length ss) ⊎ (length ss ≤ i) → (j < length ss) ⊎ (length ss ≤ j) → i < length ss + 1 → j < length ss + 1 → i ≢ j
        → IsApart (stretch_at (ss ++ s ∷ []) i) (stretch_at (ss ++ s ∷ []) j)
    apart_at i j (inl lt) (inl lt') first second ne = subst (λ (t : Stretch). IsApart t (stretch_at (ss ++ s ∷ []) j)) (sym (old i lt)) (subst (IsApart (stretch_at ss i)) (sym (old j lt')) (are.apart i j lt lt' ne))
    apart_at i j (inl lt) (inr le) first second ne =
        subst (λ (t : Stretch). IsApart t (stretch_at (ss ++ s ∷ []) j)) (sym (old i lt)) (subst (IsApart (stretch_at ss i)) (sym (new j le second))
        (let most = are.within i lt in inl (omega (arith, most, start))))
    apart_at i j (inr le) (inl lt) first second ne =
        subst (λ (t : Stretch). IsApart t (stretch_at (ss ++ s ∷ []) j)) (sym (new i le first)) (subst (IsApart s) (sym (old j lt))
        (let most = are.within j lt in inr (omega (arith, most, start))))
    apart_at i j (inr le) (inr le') first second ne = absurd (ne (omega (arith, le, le', first, second)))

-- ---- as many empty lists

pub none_apart : (n : ℕ) → AreApart 0 (replicate n no_stretch)
none_apart n = record {
  held = λ k lt. subst (λ (t : Stretch). t.len ≤ t.room) (sym (is k lt)) (omega arith);
  within = λ k lt. subst (λ (t : Stretch). t.start + t.room ≤ 0) (sym (is k lt)) (omega arith);
  apart = λ j k first second ne. subst (λ (t : Stretch). IsApart t (stretch_at (replicate n no_stretch) k)) (sym (is j first)) (subst (IsApart no_stretch) (sym (is k second)) (inl (omega arith)));
}
  where
    is : (k : ℕ) → k < length (replicate n no_stretch) → stretch_at (replicate n no_stretch) k ≡ no_stretch
    is k lt = get_or-replicate n k no_stretch no_stretch (omega (arith, lt, length-replicate n no_stretch))

pub none_lists : {T : Type 0} (n : ℕ) → ◌≡◌ {A = List (List T)} (lists_in [] (replicate n no_stretch)) (replicate n [])
none_lists zero = refl
none_lists {T = T} (suc n) = ap (λ (ls : List (List T)). [] ∷ ls) (none_lists n)
