-- The pool of chunks: a place is taken on top of a stack, or given up.
use Rattle.std.proofs.Common.{◌≡◌, ◌≢◌, ℕ, suc, ◌+◌, ◌-◌, ◌*◌, ◌/◌, ◌%◌, ◌<◌, ◌≤◌, Bool, true, false, List, [], ◌∷◌, ◌++◌, length, get_or, set, arith, refl, sym, ◌∙◌, ap, subst, cond, eqb, eq-eqb, length-append, get_or-set_other, get_or-set_same, ◌⊎◌, inl, inr}
use Rattle.std.proofs.lemmas.List.{length-set}
use Rattle.mono_clauses.proofs.ChunkStacks.{one_same, one_other, tells, below_bottom, below_inner, stack_set, stack_append, stack_bottoms, stack_above, sum_set, sum_at, sum_less, sum_bottoms, sum_bottoms_most, times-append}
use Rattle.mono_clauses.specs.Lists.{times, list_at}
use Rattle.mono_clauses.specs.Stacks.{below, IsStack, sum_of, bottoms, HasRoom, IsPool, Higher, Fresh, Climbed, freed, one}

-- the top place of a stack
pub top_within : (links : List ℕ) (h : ℕ) (xs : List ℕ) → IsStack links h xs → h % 8 ≢ 7 → h < 8 * length links
top_within links h [] p n = absurd (n (ap (λ (y : ℕ). y % 8) p))
top_within links h (x ∷ xs) p n = omega (arith, p.0.is, p.0.within)

-- the place on top of a stack is in no stack
pub free_place : (slots : ℕ) (links free_chunks heads : List ℕ) (lists : List (List ℕ)) (c : ℕ) (links' free_chunks' : List ℕ) (x : ℕ) → IsPool slots links free_chunks heads lists → c < slots → Climbed links free_chunks (get_or heads c 4294967295) links' free_chunks' x → (sum_of (times x) lists ≡ 0) × (x < 8 * length links)
free_place slots links free_chunks heads lists c links' free_chunks' x i lt k = by_case k.is
  where
    stack : IsStack links (get_or heads c 4294967295) (list_at lists c)
    stack = i.stacks c lt

    by_case : Higher links free_chunks (get_or heads c 4294967295) links' free_chunks' x ⊎ Fresh links free_chunks (get_or heads c 4294967295) links' free_chunks' x → (sum_of (times x) lists ≡ 0) × (x < 8 * length links)
    by_case (inr f) =
        let a : times x free_chunks ≡ times x free_chunks' + times x (x ∷ []) = ap (times x) f.taken ∙ times-append x free_chunks' (x ∷ []) in
        let b = one_same x x refl in
        let one : 1 ≤ times x free_chunks = omega (arith, a, b) in
        (omega (arith, i.once x, one), (i.are_free x one).1)
    by_case (inl h) = (none, omega (arith, h.place, within, h.inside))
      where
        top : ℕ
        top = get_or heads c 4294967295

        within : get_or heads c 4294967295 < 8 * length links
        within = top_within links (get_or heads c 4294967295) (list_at lists c) stack h.inside

        short : get_or heads c 4294967295 < 4294967295
        short = omega (arith, within, i.few)

        inner : (get_or heads c 4294967295 + 1) % 8 ≢ 0
        inner z = omega (arith, h.inside, z)

        more : (k : ℕ) → k < length lists → times (get_or heads c 4294967295 + 1) (list_at lists k) ≤ times (get_or heads c 4294967295) (list_at lists k)
        more k lk = omega (arith, stack_above links (get_or heads k 4294967295) (list_at lists k) (get_or heads c 4294967295) (i.stacks k (omega (arith, lk, i.as_many))) inner short)

        own : times (get_or heads c 4294967295 + 1) (list_at lists c) + 1 ≤ times (get_or heads c 4294967295) (list_at lists c)
        own = let f = one_same (get_or heads c 4294967295) (get_or heads c 4294967295) refl in omega (arith, f, stack_above links (get_or heads c 4294967295) (list_at lists c) (get_or heads c 4294967295) stack inner short)

        none : sum_of (times x) lists ≡ 0
        none =
            let s = sum_less (times (get_or heads c 4294967295 + 1)) (times (get_or heads c 4294967295)) lists c more (omega (arith, lt, i.as_many)) own in
            let z : sum_of (times (get_or heads c 4294967295 + 1)) lists ≡ 0 = omega (arith, s, i.once (get_or heads c 4294967295)) in
            ap (λ (y : ℕ). sum_of (times y) lists) h.place ∙ z

pub absent_at : (f : List ℕ → ℕ) (lists : List (List ℕ)) (k : ℕ) → f [] ≡ 0 → sum_of f lists ≡ 0 → f (list_at lists k) ≡ 0
absent_at f lists k z e = omega (arith, sum_at f lists k z, e)

-- the place joins the stack
pub pool_put : (slots : ℕ) (links free_chunks heads : List ℕ) (lists : List (List ℕ)) (c : ℕ) (links' free_chunks' : List ℕ) (x : ℕ) → IsPool slots links free_chunks heads lists → c < slots → Climbed links free_chunks (get_or heads c 4294967295) links' free_chunks' x → IsPool slots links' free_chunks' (set heads c x) (set lists c (x ∷ list_at lists c))
pool_put slots links free_chunks heads lists c links' free_chunks' x i lt k = by_case k.is
  where
    unused : (sum_of (times x) lists ≡ 0) × (x < 8 * length links)
    unused = free_place slots links free_chunks heads lists c links' free_chunks' x i lt k

    stack : IsStack links (get_or heads c 4294967295) (list_at lists c)
    stack = i.stacks c lt

    in_lists : c < length lists
    in_lists = omega (arith, lt, i.as_many)

    short : x < 4294967295
    short = omega (arith, unused.1, i.few)

    sums : (f : List ℕ → ℕ) → sum_of f (set lists c (x ∷ list_at lists c)) + f (list_at lists c) ≡ sum_of f lists + f (x ∷ list_at lists c)
    sums f = sum_set f lists c (x ∷ list_at lists c) in_lists

    at : (ls : List ℕ) → IsStack ls x (x ∷ list_at lists c) → ((m : ℕ) → m < slots → IsStack ls (get_or heads m 4294967295) (list_at lists m)) → (m : ℕ) → m < slots → IsStack ls (get_or (set heads c x) m 4294967295) (list_at (set lists c (x ∷ list_at lists c)) m)
    at ls own others m lm = by_slot (tells c m)
      where
        by_slot : (c ≡ m) ⊎ (c ≢ m) → IsStack ls (get_or (set heads c x) m 4294967295) (list_at (set lists c (x ∷ list_at lists c)) m)
        by_slot (inl e) = subst (λ (n : ℕ). IsStack ls (get_or (set heads c x) n 4294967295) (list_at (set lists c (x ∷ list_at lists c)) n)) e
            (subst (λ (h : ℕ). IsStack ls h (list_at (set lists c (x ∷ list_at lists c)) c)) (sym (get_or-set_same heads c x 4294967295 (omega (arith, lt, i.many))))
            (subst (λ (ys : List ℕ). IsStack ls x ys) (sym (get_or-set_same lists c (x ∷ list_at lists c) [] in_lists)) own))
        by_slot (inr n) =
            subst (λ (h : ℕ). IsStack ls h (list_at (set lists c (x ∷ list_at lists c)) m)) (sym (get_or-set_other heads c m x 4294967295 (λ z. n (sym z))))
            (subst (λ (ys : List ℕ). IsStack ls (get_or heads m 4294967295) ys) (sym (get_or-set_other lists c m (x ∷ list_at lists c) [] (λ z. n (sym z)))) (others m lm))

    by_case : Higher links free_chunks (get_or heads c 4294967295) links' free_chunks' x ⊎ Fresh links free_chunks (get_or heads c 4294967295) links' free_chunks' x → IsPool slots links' free_chunks' (set heads c x) (set lists c (x ∷ list_at lists c))
    by_case (inl h) =
        subst (λ (ls : List ℕ). IsPool slots ls free_chunks' (set heads c x) (set lists c (x ∷ list_at lists c))) (sym h.same_links)
        (subst (λ (ss : List ℕ). IsPool slots links ss (set heads c x) (set lists c (x ∷ list_at lists c))) (sym h.same_free) (record {
          few = i.few;
          many = length-set heads c x ∙ i.many;
          as_many = length-set lists c (x ∷ list_at lists c) ∙ i.as_many;
          stacks = at links (record { is = refl; within = unused.1; short = short; full = full }, subst (λ (y : ℕ). IsStack links y (list_at lists c)) (sym down) stack) i.stacks;
          once = once;
          are_free = i.are_free;
          chunks = (let f = one_other (x % 8) 0 inner in omega (arith, sums bottoms, f, i.chunks));
        }))
      where
        inner : x % 8 ≢ 0
        inner z = omega (arith, h.place, h.inside, z)

        down : below links x ≡ get_or heads c 4294967295
        down = below_inner links x inner ∙ (let q : x - 1 ≡ get_or heads c 4294967295 = omega (arith, h.place) in q)

        full : below links x % 8 ≡ (x + 7) % 8
        full = ap (λ (y : ℕ). y % 8) down ∙ (let q : get_or heads c 4294967295 % 8 ≡ (x + 7) % 8 = omega (arith, h.place) in q)

        not_free : times x free_chunks ≡ 0
        not_free = by_count (tells (times x free_chunks) 0)
          where
            by_count : (times x free_chunks ≡ 0) ⊎ (times x free_chunks ≢ 0) → times x free_chunks ≡ 0
            by_count (inl e) = e
            by_count (inr n) = absurd (inner (i.are_free x (omega (arith, n))).0)

        once : (y : ℕ) → sum_of (times y) (set lists c (x ∷ list_at lists c)) + times y free_chunks ≤ 1
        once y = by_place (tells x y)
          where
            by_place : (x ≡ y) ⊎ (x ≢ y) → sum_of (times y) (set lists c (x ∷ list_at lists c)) + times y free_chunks ≤ 1
            by_place (inl e) =
                subst (λ (z : ℕ). sum_of (times z) (set lists c (x ∷ list_at lists c)) + times z free_chunks ≤ 1) e
                (let f = one_same x x refl in omega (arith, sums (times x), f, unused.0, not_free))
            by_place (inr n) = let f = one_other x y n in omega (arith, sums (times y), f, i.once y)
    by_case (inr f) =
        subst (λ (ls : List ℕ). IsPool slots ls free_chunks' (set heads c x) (set lists c (x ∷ list_at lists c))) (sym f.linked) (record {
          few = rw length-set i.few;
          many = length-set heads c x ∙ i.many;
          as_many = length-set lists c (x ∷ list_at lists c) ∙ i.as_many;
          stacks = at (set links (x / 8) (get_or heads c 4294967295)) (record { is = refl; within = rw length-set unused.1; short = short; full = full }, subst (λ (y : ℕ). IsStack (set links (x / 8) (get_or heads c 4294967295)) y (list_at lists c)) (sym down) (kept c lt)) kept;
          once = once;
          are_free = λ y p. (let q = i.are_free y (omega (arith, p, split y)) in (q.0, rw length-set q.1));
          chunks = chunks;
        })
      where
        split : (y : ℕ) → times y free_chunks ≡ times y free_chunks' + times y (x ∷ [])
        split y = ap (times y) f.taken ∙ times-append y free_chunks' (x ∷ [])

        bottom : x % 8 ≡ 0
        bottom = (i.are_free x (let o = one_same x x refl in omega (arith, split x, o))).0

        down : below (set links (x / 8) (get_or heads c 4294967295)) x ≡ get_or heads c 4294967295
        down = below_bottom (set links (x / 8) (get_or heads c 4294967295)) x bottom ∙ get_or-set_same links (x / 8) (get_or heads c 4294967295) 4294967295 (omega (arith, unused.1, bottom))

        full : below (set links (x / 8) (get_or heads c 4294967295)) x % 8 ≡ (x + 7) % 8
        full = ap (λ (y : ℕ). y % 8) down ∙ (let q : get_or heads c 4294967295 % 8 ≡ (x + 7) % 8 = omega (arith, f.full, bottom) in q)

        same : 8 * (x / 8) ≡ x
        same = omega (arith, bottom)

        kept : (m : ℕ) → m < slots → IsStack (set links (x / 8) (get_or heads c 4294967295)) (get_or heads m 4294967295) (list_at lists m)
        kept m lm = stack_set links (get_or heads m 4294967295) (list_at lists m) (x / 8) (get_or heads c 4294967295) (i.stacks m lm) (ap (λ (y : ℕ). times y (list_at lists m)) same ∙ absent_at (times x) lists m refl unused.0)

        once : (y : ℕ) → sum_of (times y) (set lists c (x ∷ list_at lists c)) + times y free_chunks' ≤ 1
        once y = omega (arith, sums (times y), split y, i.once y)

        chunks : sum_of bottoms (set lists c (x ∷ list_at lists c)) + length free_chunks' ≡ length (set links (x / 8) (get_or heads c 4294967295))
        chunks = (let o = one_same (x % 8) 0 bottom in omega (arith, sums bottoms, o, i.chunks, ap (λ (ys : List ℕ). length ys) f.taken, length-append free_chunks' (x ∷ []), length-set links (x / 8) (get_or heads c 4294967295)))

-- the top place leaves the stack
pub pool_remove : (slots : ℕ) (links free_chunks heads : List ℕ) (lists : List (List ℕ)) (c x : ℕ) (xs : List ℕ) → IsPool slots links free_chunks heads lists → c < slots → list_at lists c ≡ x ∷ xs → IsPool slots links (freed free_chunks (get_or heads c 4294967295)) (set heads c (below links (get_or heads c 4294967295))) (set lists c xs)
pool_remove slots links free_chunks heads lists c x xs i lt e =
    subst (λ (h : ℕ). IsPool slots links (freed free_chunks h) (set heads c (below links h)) (set lists c xs)) (sym stack.0.is) (record {
      few = i.few;
      many = length-set heads c (below links x) ∙ i.many;
      as_many = length-set lists c xs ∙ i.as_many;
      stacks = λ m lm. at m lm (tells c m);
      once = λ y. by_test_once y (tells (x % 8) 0);
      are_free = λ y. by_test_free y (tells (x % 8) 0);
      chunks = by_test_chunks (tells (x % 8) 0);
    })
  where
    stack : IsStack links (get_or heads c 4294967295) (x ∷ xs)
    stack = subst (λ (ys : List ℕ). IsStack links (get_or heads c 4294967295) ys) e (i.stacks c lt)

    in_lists : c < length lists
    in_lists = omega (arith, lt, i.as_many)

    sums : (f : List ℕ → ℕ) → sum_of f (set lists c xs) + f (x ∷ xs) ≡ sum_of f lists + f xs
    sums f = ap (λ (ys : List ℕ). sum_of f (set lists c xs) + f ys) (sym e) ∙ sum_set f lists c xs in_lists

    is_free : x % 8 ≡ 0 → freed free_chunks x ≡ free_chunks ++ x ∷ []
    is_free z = ap (λ (b : Bool). cond b (free_chunks ++ x ∷ []) free_chunks) (eq-eqb (x % 8) 0 z)

    not_free : x % 8 ≢ 0 → freed free_chunks x ≡ free_chunks
    not_free n = by_bool (eqb (x % 8) 0) refl
      where
        by_bool : (b : Bool) → eqb (x % 8) 0 ≡ b → freed free_chunks x ≡ free_chunks
        by_bool true q = absurd (let z = one_other (x % 8) 0 n in let y : one (eqb (x % 8) 0) ≡ 1 = ap one q in omega (arith, z, y))
        by_bool false q = ap (λ (b : Bool). cond b (free_chunks ++ x ∷ []) free_chunks) q

    at : (m : ℕ) → m < slots → (c ≡ m) ⊎ (c ≢ m) → IsStack links (get_or (set heads c (below links x)) m 4294967295) (list_at (set lists c xs) m)
    at m lm (inl s) = subst (λ (n : ℕ). IsStack links (get_or (set heads c (below links x)) n 4294967295) (list_at (set lists c xs) n)) s
        (subst (λ (h : ℕ). IsStack links h (list_at (set lists c xs) c)) (sym (get_or-set_same heads c (below links x) 4294967295 (omega (arith, lt, i.many))))
        (subst (λ (ys : List ℕ). IsStack links (below links x) ys) (sym (get_or-set_same lists c xs [] in_lists)) stack.1))
    at m lm (inr n) =
        subst (λ (h : ℕ). IsStack links h (list_at (set lists c xs) m)) (sym (get_or-set_other heads c m (below links x) 4294967295 (λ z. n (sym z))))
        (subst (λ (ys : List ℕ). IsStack links (get_or heads m 4294967295) ys) (sym (get_or-set_other lists c m xs [] (λ z. n (sym z)))) (i.stacks m lm))

    by_test_once : (y : ℕ) → (x % 8 ≡ 0) ⊎ (x % 8 ≢ 0) → sum_of (times y) (set lists c xs) + times y (freed free_chunks x) ≤ 1
    by_test_once y (inl z) = omega (arith, sums (times y), i.once y, ap (times y) (is_free z), times-append y free_chunks (x ∷ []))
    by_test_once y (inr n) = omega (arith, sums (times y), i.once y, ap (times y) (not_free n))

    by_test_free : (y : ℕ) → (x % 8 ≡ 0) ⊎ (x % 8 ≢ 0) → 1 ≤ times y (freed free_chunks x) → (y % 8 ≡ 0) × (y < 8 * length links)
    by_test_free y (inr n) p = i.are_free y (omega (arith, p, ap (times y) (not_free n)))
    by_test_free y (inl z) p = by_place (tells x y)
      where
        by_place : (x ≡ y) ⊎ (x ≢ y) → (y % 8 ≡ 0) × (y < 8 * length links)
        by_place (inl s) = (ap (λ (q : ℕ). q % 8) (sym s) ∙ z, omega (arith, stack.0.within, s))
        by_place (inr n) = let f = one_other x y n in i.are_free y (omega (arith, p, f, ap (times y) (is_free z), times-append y free_chunks (x ∷ [])))

    by_test_chunks : (x % 8 ≡ 0) ⊎ (x % 8 ≢ 0) → sum_of bottoms (set lists c xs) + length (freed free_chunks x) ≡ length links
    by_test_chunks (inl z) = let f = one_same (x % 8) 0 z in omega (arith, sums bottoms, f, i.chunks, ap (λ (ys : List ℕ). length ys) (is_free z), length-append free_chunks (x ∷ []))
    by_test_chunks (inr n) = let f = one_other (x % 8) 0 n in omega (arith, sums bottoms, f, i.chunks, ap (λ (ys : List ℕ). length ys) (not_free n))

-- there is a spare chunk while there is room for a watcher more
pub some_free : (slots : ℕ) (links free_chunks heads : List ℕ) (lists : List (List ℕ)) (watchers : ℕ) → IsPool slots links free_chunks heads lists → sum_of length lists < watchers → HasRoom watchers slots (length links) → 0 < length free_chunks
some_free slots links free_chunks heads lists watchers i fewer room = by_case room
  where
    by_case : (watchers ≤ length links) ⊎ (watchers + 7 * slots ≤ 8 * length links) → 0 < length free_chunks
    by_case (inl each) = omega (arith, sum_bottoms_most lists, fewer, each, i.chunks)
    by_case (inr cells) =
        let b = sum_bottoms lists (λ k lk. let q = stack_bottoms links (get_or heads k 4294967295) (list_at lists k) (i.stacks k (omega (arith, lk, i.as_many))) in omega (arith, q)) in
        omega (arith, b, fewer, cells, i.chunks, i.as_many)

-- fewer watchers find room, and more chunks have it
pub room_more : (watchers fewer slots chunks more : ℕ) → fewer ≤ watchers → chunks ≤ more → HasRoom watchers slots chunks → HasRoom fewer slots more
room_more watchers fewer slots chunks more w c room = by_case room
  where
    by_case : (watchers ≤ chunks) ⊎ (watchers + 7 * slots ≤ 8 * chunks) → (fewer ≤ more) ⊎ (fewer + 7 * slots ≤ 8 * more)
    by_case (inl each) = inl (omega (arith, each, w, c))
    by_case (inr cells) = inr (omega (arith, cells, w, c))

-- two chunks more have room for two watchers more
pub room_for_two : (watchers slots chunks more : ℕ) → more ≡ chunks + 2 → HasRoom watchers slots chunks → HasRoom (watchers + 2) slots more
room_for_two watchers slots chunks more is room = by_case room
  where
    by_case : (watchers ≤ chunks) ⊎ (watchers + 7 * slots ≤ 8 * chunks) → (watchers + 2 ≤ more) ⊎ (watchers + 2 + 7 * slots ≤ 8 * more)
    by_case (inl each) = inl (omega (arith, each, is))
    by_case (inr cells) = inr (omega (arith, cells, is))

-- a chunk more
pub pool_more : (slots : ℕ) (links free_chunks heads : List ℕ) (lists : List (List ℕ)) (v : ℕ) → IsPool slots links free_chunks heads lists → 8 * (length links + 1) ≤ 4294967295 → IsPool slots (links ++ v ∷ []) (free_chunks ++ (8 * length links) ∷ []) heads lists
pool_more slots links free_chunks heads lists v i few = record {
  few = omega (arith, few, grown);
  many = i.many;
  as_many = i.as_many;
  stacks = λ k lk. stack_append links (v ∷ []) (get_or heads k 4294967295) (list_at lists k) (i.stacks k lk);
  once = λ y. once y (tells (8 * length links) y);
  are_free = λ y p. are_free y p (tells (8 * length links) y);
  chunks = omega (arith, grown, length-append free_chunks ((8 * length links) ∷ []), i.chunks);
}
  where
    grown : length (links ++ v ∷ []) ≡ length links + 1
    grown = omega (arith, length-append links (v ∷ []))

    split : (y : ℕ) → times y (free_chunks ++ (8 * length links) ∷ []) ≡ times y free_chunks + times y ((8 * length links) ∷ [])
    split y = times-append y free_chunks ((8 * length links) ∷ [])

    absent_in : (h : ℕ) (xs : List ℕ) → IsStack links h xs → times (8 * length links) xs ≡ 0
    absent_in h [] p = refl
    absent_in h (x ∷ xs) p = let f = one_other x (8 * length links) (λ z. omega (arith, z, p.0.within)) in omega (arith, f, absent_in (below links x) xs p.1)

    absent : (ls : List (List ℕ)) → ((k : ℕ) → k < length ls → times (8 * length links) (list_at ls k) ≡ 0) → sum_of (times (8 * length links)) ls ≡ 0
    absent [] h = refl
    absent (xs ∷ ls) h = omega (arith, h 0 (omega arith), absent ls (λ k lk. h (suc k) (omega (arith, lk))))

    no_free : times (8 * length links) free_chunks ≡ 0
    no_free = by_count (tells (times (8 * length links) free_chunks) 0)
      where
        by_count : (times (8 * length links) free_chunks ≡ 0) ⊎ (times (8 * length links) free_chunks ≢ 0) → times (8 * length links) free_chunks ≡ 0
        by_count (inl e) = e
        by_count (inr n) = absurd (let q = i.are_free (8 * length links) (omega (arith, n)) in omega (arith, q.1))

    once : (y : ℕ) → (8 * length links ≡ y) ⊎ (8 * length links ≢ y) → sum_of (times y) lists + times y (free_chunks ++ (8 * length links) ∷ []) ≤ 1
    once y (inl e) = subst (λ (z : ℕ). sum_of (times z) lists + times z (free_chunks ++ (8 * length links) ∷ []) ≤ 1) e
        (let f = one_same (8 * length links) (8 * length links) refl in
        let a = absent lists (λ k lk. absent_in (get_or heads k 4294967295) (list_at lists k) (i.stacks k (omega (arith, lk, i.as_many)))) in
        omega (arith, f, a, no_free, split (8 * length links)))
    once y (inr n) = let f = one_other (8 * length links) y n in omega (arith, f, split y, i.once y)

    are_free : (y : ℕ) → 1 ≤ times y (free_chunks ++ (8 * length links) ∷ []) → (8 * length links ≡ y) ⊎ (8 * length links ≢ y) → (y % 8 ≡ 0) × (y < 8 * length (links ++ v ∷ []))
    are_free y p (inl e) = (omega (arith, e), omega (arith, e, grown))
    are_free y p (inr n) = let f = one_other (8 * length links) y n in let q = i.are_free y (omega (arith, p, f, split y)) in (q.0, omega (arith, q.1, grown))
