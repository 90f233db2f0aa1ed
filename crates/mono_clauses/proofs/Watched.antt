-- What each watcher watches, by the two arrays that hold it.
use Rattle.std.proofs.Common.{◌≡◌, ℕ, zero, suc, ◌<◌, Bool, true, false, List, [], ◌∷◌, ◌++◌, length, get_or, set, arith, refl, ap}
use Rattle.std.specs.Prelude.{ℤ, Option, Some, None, if◌then◌else◌}

-- a watcher that is busy watches its literal
abbrev pub watched_of : List Bool → List ℤ → List (Option ℤ)
watched_of [] ls = []
watched_of (b ∷ bs) [] = []
watched_of (b ∷ bs) (l ∷ ls) = (if b then Some l else None) ∷ watched_of bs ls

pub length_watched : (bs : List Bool) (ls : List ℤ) → length bs ≡ length ls → length (watched_of bs ls) ≡ length ls
length_watched [] [] e = refl
length_watched [] (l ∷ ls) e = absurd (omega (arith, e))
length_watched (b ∷ bs) [] e = refl
length_watched (b ∷ bs) (l ∷ ls) e = ap suc (length_watched bs ls (omega (arith, e)))

pub at_watched : (bs : List Bool) (ls : List ℤ) (w : ℕ) (d : ℤ) → length bs ≡ length ls → w < length ls → get_or (watched_of bs ls) w None ≡ (if get_or bs w false then Some (get_or ls w d) else None)
at_watched [] [] w d e lt = absurd (omega (arith, lt))
at_watched [] (l ∷ ls) w d e lt = absurd (omega (arith, e))
at_watched (b ∷ bs) [] w d e lt = absurd (omega (arith, e))
at_watched (b ∷ bs) (l ∷ ls) zero d e lt = refl
at_watched (b ∷ bs) (l ∷ ls) (suc w) d e lt = at_watched bs ls w d (omega (arith, e)) (omega (arith, lt))

some_if : (b : Bool) (l a : ℤ) → (if b then Some l else None) ≡ Some a → (b ≡ true) × (l ≡ a)
some_if true l a e = (refl, cc)
some_if false l a e = absurd cc

-- a watcher that watches something is busy
pub busy_at : (bs : List Bool) (ls : List ℤ) (w : ℕ) (a : ℤ) → get_or (watched_of bs ls) w None ≡ Some a → get_or bs w false ≡ true
busy_at [] ls w a e = absurd cc
busy_at (b ∷ bs) [] w a e = absurd cc
busy_at (b ∷ bs) (l ∷ ls) zero a e = (some_if b l a e).0
busy_at (b ∷ bs) (l ∷ ls) (suc w) a e = busy_at bs ls w a e

busy_if : (b : Bool) (l : ℤ) → ((if b then Some l else None) ≡ None → ⊥) → (if b then Some l else None) ≡ Some l
busy_if true l n = refl
busy_if false l n = absurd (n refl)

-- and watches its literal
pub lit_at_busy : (bs : List Bool) (ls : List ℤ) (w : ℕ) (d : ℤ) → (get_or (watched_of bs ls) w None ≡ None → ⊥) → get_or (watched_of bs ls) w None ≡ Some (get_or ls w d)
lit_at_busy [] ls w d n = absurd (n refl)
lit_at_busy (b ∷ bs) [] w d n = absurd (n refl)
lit_at_busy (b ∷ bs) (l ∷ ls) zero d n = busy_if b l n
lit_at_busy (b ∷ bs) (l ∷ ls) (suc w) d n = lit_at_busy bs ls w d n

pub set_both : (bs : List Bool) (ls : List ℤ) (w : ℕ) (l : ℤ) → watched_of (set bs w true) (set ls w l) ≡ set (watched_of bs ls) w (Some l)
set_both [] ls w l = refl
set_both (b ∷ bs) [] zero l = refl
set_both (b ∷ bs) [] (suc w) l = refl
set_both (b ∷ bs) (k ∷ ls) zero l = refl
set_both (b ∷ bs) (k ∷ ls) (suc w) l = ap (λ (xs : List (Option ℤ)). (if b then Some k else None) ∷ xs) (set_both bs ls w l)

pub set_lit : (bs : List Bool) (ls : List ℤ) (w : ℕ) (l : ℤ) → get_or bs w false ≡ true → watched_of bs (set ls w l) ≡ set (watched_of bs ls) w (Some l)
set_lit [] ls w l e = refl
set_lit (b ∷ bs) [] zero l e = refl
set_lit (b ∷ bs) [] (suc w) l e = refl
set_lit (b ∷ bs) (k ∷ ls) zero l e = ap (λ (c : Bool). (if c then Some l else None) ∷ watched_of bs ls) e
set_lit (b ∷ bs) (k ∷ ls) (suc w) l e = ap (λ (xs : List (Option ℤ)). (if b then Some k else None) ∷ xs) (set_lit bs ls w l e)

pub watched_more : (bs : List Bool) (ls : List ℤ) (l : ℤ) → length bs ≡ length ls → watched_of (bs ++ false ∷ []) (ls ++ l ∷ []) ≡ watched_of bs ls ++ None ∷ []
watched_more [] [] l e = refl
watched_more [] (k ∷ ls) l e = absurd (omega (arith, e))
watched_more (b ∷ bs) [] l e = absurd (omega (arith, e))
watched_more (b ∷ bs) (k ∷ ls) l e = ap (λ (xs : List (Option ℤ)). (if b then Some k else None) ∷ xs) (watched_more bs ls l (omega (arith, e)))
