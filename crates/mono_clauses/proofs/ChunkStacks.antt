-- Stacks in chunks, and sums over them.
use Rattle.std.proofs.Common.{◌≡◌, ◌≢◌, ℕ, zero, suc, ◌+◌, ◌-◌, ◌*◌, ◌/◌, ◌%◌, ◌<◌, ◌≤◌, Bool, true, false, List, [], ◌∷◌, ◌++◌, length, get_or, set, arith, refl, sym, ◌∙◌, ap, subst, cond, eqb, eq-eqb, length-append, get_or-set_other, get_or-set_same, ◌⊎◌, inl, inr}
use Rattle.std.proofs.lemmas.Bool.Decides.{eqb_tells}
use Rattle.std.proofs.lemmas.List.{length-set, get_or_append_left}
use Rattle.mono_clauses.specs.Lists.{times, list_at}
use Rattle.mono_clauses.specs.Stacks.{below, IsStack, Rest, same_stack, watcher_at, watchers_at, all_watchers, sum_of, bottoms, one}

pub one_same : (x k : ℕ) → x ≡ k → one (eqb x k) ≡ 1
one_same x k e = ap one (eq-eqb x k e)

pub one_other : (x k : ℕ) → x ≢ k → one (eqb x k) ≡ 0
one_other x k n = by_test (eqb_tells x k)
  where
    by_test : ((eqb x k ≡ true) × (x ≡ k)) ⊎ ((eqb x k ≡ false) × (x ≢ k)) → one (eqb x k) ≡ 0
    by_test (inl s) = absurd (n s.1)
    by_test (inr o) = ap one o.0

-- equal or not
pub tells : (x k : ℕ) → (x ≡ k) ⊎ (x ≢ k)
tells x k = by_test (eqb_tells x k)
  where
    by_test : ((eqb x k ≡ true) × (x ≡ k)) ⊎ ((eqb x k ≡ false) × (x ≢ k)) → (x ≡ k) ⊎ (x ≢ k)
    by_test (inl s) = inl s.1
    by_test (inr o) = inr o.1

pub below_bottom : (links : List ℕ) (x : ℕ) → x % 8 ≡ 0 → below links x ≡ get_or links (x / 8) 4294967295
below_bottom links x e = ap (λ (b : Bool). cond b (get_or links (x / 8) 4294967295) (x - 1)) (eq-eqb (x % 8) 0 e)

pub below_inner : (links : List ℕ) (x : ℕ) → x % 8 ≢ 0 → below links x ≡ x - 1
below_inner links x n = by_test (eqb_tells (x % 8) 0)
  where
    by_test : ((eqb (x % 8) 0 ≡ true) × (x % 8 ≡ 0)) ⊎ ((eqb (x % 8) 0 ≡ false) × (x % 8 ≢ 0)) → below links x ≡ x - 1
    by_test (inl s) = absurd (n s.1)
    by_test (inr o) = ap (λ (b : Bool). cond b (get_or links (x / 8) 4294967295) (x - 1)) o.0

pub rest_is : (links : List ℕ) (h : ℕ) (r : Rest links h) (xs : List ℕ) → IsStack links h xs → r.places ≡ xs
rest_is links h r xs p = same_stack links h r.places xs r.is p

-- below a place the links of other chunks do not count
below_set : (links : List ℕ) (x j v : ℕ) → x ≢ 8 * j → below (set links j v) x ≡ below links x
below_set links x j v n = by_test (tells (x % 8) 0)
  where
    by_test : (x % 8 ≡ 0) ⊎ (x % 8 ≢ 0) → below (set links j v) x ≡ below links x
    by_test (inl e) = below_bottom (set links j v) x e ∙ get_or-set_other links j (x / 8) v 4294967295 (λ z. n (omega (arith, e, z))) ∙ sym (below_bottom links x e)
    by_test (inr o) = below_inner (set links j v) x o ∙ sym (below_inner links x o)

-- a stack that lacks a watcher
lacks : (w x : ℕ) (xs : List ℕ) → times w (x ∷ xs) ≡ 0 → (x ≢ w) × (times w xs ≡ 0)
lacks w x xs e = (λ s. let f = one_same x w s in omega (arith, e, f), omega (arith, e))

pub stack_set : (links : List ℕ) (h : ℕ) (xs : List ℕ) (j v : ℕ) → IsStack links h xs → times (8 * j) xs ≡ 0 → IsStack (set links j v) h xs
stack_set links h [] j v p e = p
stack_set links h (x ∷ xs) j v p e =
    let off = lacks (8 * j) x xs e in
    let b : below (set links j v) x ≡ below links x = below_set links x j v off.0 in (
      record { is = p.0.is; within = rw length-set p.0.within; short = p.0.short; full = ap (λ (y : ℕ). y % 8) b ∙ p.0.full },
      subst (λ (y : ℕ). IsStack (set links j v) y xs) (sym b) (stack_set links (below links x) xs j v p.1 off.1),
    )

below_append : (links more : List ℕ) (x : ℕ) → x < 8 * length links → below (links ++ more) x ≡ below links x
below_append links more x lt = by_test (tells (x % 8) 0)
  where
    by_test : (x % 8 ≡ 0) ⊎ (x % 8 ≢ 0) → below (links ++ more) x ≡ below links x
    by_test (inl e) = below_bottom (links ++ more) x e ∙ get_or_append_left links more 4294967295 (x / 8) (omega (arith, lt, e)) ∙ sym (below_bottom links x e)
    by_test (inr o) = below_inner (links ++ more) x o ∙ sym (below_inner links x o)

pub stack_append : (links more : List ℕ) (h : ℕ) (xs : List ℕ) → IsStack links h xs → IsStack (links ++ more) h xs
stack_append links more h [] p = p
stack_append links more h (x ∷ xs) p =
    let b : below (links ++ more) x ≡ below links x = below_append links more x p.0.within in (
      record { is = p.0.is; within = omega (arith, p.0.within, length-append links more); short = p.0.short; full = ap (λ (y : ℕ). y % 8) b ∙ p.0.full },
      subst (λ (y : ℕ). IsStack (links ++ more) y xs) (sym b) (stack_append links more (below links x) xs p.1),
    )

-- all chunks of a stack but the top one are full
pub stack_bottoms : (links : List ℕ) (h : ℕ) (xs : List ℕ) → IsStack links h xs → 8 * bottoms xs + h % 8 ≡ length xs + 7
stack_bottoms links h [] p = let e : h % 8 ≡ 7 = ap (λ (y : ℕ). y % 8) p in omega (arith, e)
stack_bottoms links h (x ∷ xs) p = by_test (tells (x % 8) 0) (stack_bottoms links (below links x) xs p.1)
  where
    top : h % 8 ≡ x % 8
    top = ap (λ (y : ℕ). y % 8) p.0.is

    by_test : (x % 8 ≡ 0) ⊎ (x % 8 ≢ 0) → 8 * bottoms xs + below links x % 8 ≡ length xs + 7 → 8 * bottoms (x ∷ xs) + h % 8 ≡ length (x ∷ xs) + 7
    by_test (inl e) ih = let f = one_same (x % 8) 0 e in omega (arith, e, f, ih, top, p.0.full)
    by_test (inr o) ih = let f = one_other (x % 8) 0 o in omega (arith, o, f, ih, top, p.0.full)

-- above a place its chunk's cells lead to it
pub stack_above : (links : List ℕ) (h : ℕ) (xs : List ℕ) (y : ℕ) → IsStack links h xs → (y + 1) % 8 ≢ 0 → y < 4294967295 → times (y + 1) xs + one (eqb h y) ≤ times y xs
stack_above links h [] y p n lt = let f = one_other h y (λ z. omega (arith, z, p, lt)) in omega (arith, f)
stack_above links h (x ∷ xs) y p n lt = by_test (tells x (y + 1)) (stack_above links (below links x) xs y p.1 n lt)
  where
    head : one (eqb h y) ≡ one (eqb x y)
    head = ap (λ (z : ℕ). one (eqb z y)) p.0.is

    by_test : (x ≡ y + 1) ⊎ (x ≢ y + 1) → times (y + 1) xs + one (eqb (below links x) y) ≤ times y xs → times (y + 1) (x ∷ xs) + one (eqb h y) ≤ times y (x ∷ xs)
    by_test (inl e) ih =
        let b : below links x ≡ x - 1 = below_inner links x (λ z. n (ap (λ (q : ℕ). q % 8) (sym e) ∙ z)) in
        let f = one_same (below links x) y (omega (arith, b, e)) in
        let g = one_same x (y + 1) e in
        omega (arith, f, g, ih, head)
    by_test (inr o) ih = let g = one_other x (y + 1) o in omega (arith, g, ih, head)

-- sums over the lists
pub sum_set : (f : List ℕ → ℕ) (ls : List (List ℕ)) (k : ℕ) (xs : List ℕ) → k < length ls → sum_of f (set ls k xs) + f (list_at ls k) ≡ sum_of f ls + f xs
sum_set f [] k xs lt = absurd (omega (arith, lt))
sum_set f (ys ∷ ls) zero xs lt = omega arith
sum_set f (ys ∷ ls) (suc k) xs lt = omega (arith, sum_set f ls k xs (omega (arith, lt)))

pub sum_at : (f : List ℕ → ℕ) (ls : List (List ℕ)) (k : ℕ) → f [] ≡ 0 → f (list_at ls k) ≤ sum_of f ls
sum_at f [] k z = omega (arith, z)
sum_at f (ys ∷ ls) zero z = omega arith
sum_at f (ys ∷ ls) (suc k) z = omega (arith, sum_at f ls k z)

pub sum_two : (f : List ℕ → ℕ) (ls : List (List ℕ)) (k m : ℕ) → f [] ≡ 0 → k < length ls → m ≢ k → f (list_at ls k) + f (list_at ls m) ≤ sum_of f ls
sum_two f ls k m z lt n =
    let a = sum_set f ls k [] lt in
    let b = sum_at f (set ls k []) m z in
    let c : f (list_at (set ls k []) m) ≡ f (list_at ls m) = ap f (get_or-set_other ls k m [] [] n) in
    omega (arith, a, b, c, z)

pub sum_le : (f g : List ℕ → ℕ) (ls : List (List ℕ)) → ((k : ℕ) → k < length ls → f (list_at ls k) ≤ g (list_at ls k)) → sum_of f ls ≤ sum_of g ls
sum_le f g [] h = omega arith
sum_le f g (xs ∷ ls) h = omega (arith, h 0 (omega arith), sum_le f g ls (λ k lt. h (suc k) (omega (arith, lt))))

pub sum_less : (f g : List ℕ → ℕ) (ls : List (List ℕ)) (c : ℕ) → ((k : ℕ) → k < length ls → f (list_at ls k) ≤ g (list_at ls k)) → c < length ls → f (list_at ls c) + 1 ≤ g (list_at ls c) → sum_of f ls + 1 ≤ sum_of g ls
sum_less f g [] c h lt q = absurd (omega (arith, lt))
sum_less f g (xs ∷ ls) zero h lt q = omega (arith, q, sum_le f g ls (λ k lt. h (suc k) (omega (arith, lt))))
sum_less f g (xs ∷ ls) (suc c) h lt q = omega (arith, h 0 (omega arith), sum_less f g ls c (λ k lt. h (suc k) (omega (arith, lt))) (omega (arith, lt)) q)

pub sum_bottoms : (ls : List (List ℕ)) → ((k : ℕ) → k < length ls → 8 * bottoms (list_at ls k) ≤ length (list_at ls k) + 7) → 8 * sum_of bottoms ls ≤ sum_of length ls + 7 * length ls
sum_bottoms [] h = omega arith
sum_bottoms (xs ∷ ls) h = omega (arith, h 0 (omega arith), sum_bottoms ls (λ k lt. h (suc k) (omega (arith, lt))))

-- a stack has no more chunks than watchers
one_most : (b : Bool) → one b ≤ 1
one_most true = omega arith
one_most false = omega arith

bottoms_most : (xs : List ℕ) → bottoms xs ≤ length xs
bottoms_most [] = omega arith
bottoms_most (x ∷ xs) = omega (arith, one_most (eqb (x % 8) 0), bottoms_most xs)

pub sum_bottoms_most : (ls : List (List ℕ)) → sum_of bottoms ls ≤ sum_of length ls
sum_bottoms_most [] = omega arith
sum_bottoms_most (xs ∷ ls) = omega (arith, bottoms_most xs, sum_bottoms_most ls)

pub times-append : (k : ℕ) (xs ys : List ℕ) → times k (xs ++ ys) ≡ times k xs + times k ys
times-append k [] ys = omega arith
times-append k (x ∷ xs) ys = omega (arith, times-append k xs ys)

-- a cell that is written
pub watchers_absent : (cells : List ℕ) (x n : ℕ) (xs : List ℕ) → times x xs ≡ 0 → watchers_at (set cells x n) xs ≡ watchers_at cells xs
watchers_absent cells x n [] e = refl
watchers_absent cells x n (y ∷ xs) e =
    let off = lacks x y xs e in
    let a : watcher_at (set cells x n) y ≡ watcher_at cells y = get_or-set_other cells x y n 0 off.0 in
    let b : watchers_at (set cells x n) xs ≡ watchers_at cells xs = watchers_absent cells x n xs off.1 in
    cc

pub watchers_swap : (cells : List ℕ) (x n w : ℕ) (xs : List ℕ) → x < length cells → times x xs ≡ 1 → times w (watchers_at (set cells x n) xs) + one (eqb (watcher_at cells x) w) ≡ times w (watchers_at cells xs) + one (eqb n w)
watchers_swap cells x n w [] lt e = absurd (omega (arith, e))
watchers_swap cells x n w (y ∷ xs) lt e = by_test (tells y x) (λ once. watchers_swap cells x n w xs lt once)
  where
    by_test : (y ≡ x) ⊎ (y ≢ x) → (times x xs ≡ 1 → times w (watchers_at (set cells x n) xs) + one (eqb (watcher_at cells x) w) ≡ times w (watchers_at cells xs) + one (eqb n w)) → times w (watchers_at (set cells x n) (y ∷ xs)) + one (eqb (watcher_at cells x) w) ≡ times w (watchers_at cells (y ∷ xs)) + one (eqb n w)
    by_test (inl s) ih =
        let f = one_same y x s in
        let a : one (eqb (watcher_at (set cells x n) y) w) ≡ one (eqb n w) = ap (λ (z : ℕ). one (eqb (watcher_at (set cells x n) z) w)) s ∙ ap (λ (z : ℕ). one (eqb z w)) (get_or-set_same cells x n 0 lt) in
        let b : one (eqb (watcher_at cells y) w) ≡ one (eqb (watcher_at cells x) w) = ap (λ (z : ℕ). one (eqb (watcher_at cells z) w)) s in
        let c : times w (watchers_at (set cells x n) xs) ≡ times w (watchers_at cells xs) = ap (times w) (watchers_absent cells x n xs (omega (arith, e, f))) in
        omega (arith, a, b, c)
    by_test (inr o) ih =
        let f = one_other y x o in
        let a : one (eqb (watcher_at (set cells x n) y) w) ≡ one (eqb (watcher_at cells y) w) = ap (λ (z : ℕ). one (eqb z w)) (get_or-set_other cells x y n 0 o) in
        omega (arith, a, ih (omega (arith, e, f)))

pub at_watchers : (cells : List ℕ) (ls : List (List ℕ)) (k : ℕ) → list_at (all_watchers cells ls) k ≡ watchers_at cells (list_at ls k)
at_watchers cells [] zero = refl
at_watchers cells [] (suc k) = refl
at_watchers cells (xs ∷ ls) zero = refl
at_watchers cells (xs ∷ ls) (suc k) = at_watchers cells ls k

pub all_absent : (cells : List ℕ) (x n : ℕ) (ls : List (List ℕ)) → sum_of (times x) ls ≡ 0 → all_watchers (set cells x n) ls ≡ all_watchers cells ls
all_absent cells x n [] e = refl
all_absent cells x n (xs ∷ ls) e =
    let a : watchers_at (set cells x n) xs ≡ watchers_at cells xs = watchers_absent cells x n xs (omega (arith, e)) in
    let b : all_watchers (set cells x n) ls ≡ all_watchers cells ls = all_absent cells x n ls (omega (arith, e)) in
    cc
