-- Sweeps over the list of theories, seen through their facts.
use Rattle.std.proofs.Common.{length-drop, ◌-◌, below_more, subst, add-one, length-append, zero, suc, ◌≡◌, ℕ, ◌+◌, ◌<◌, ◌≤◌, List, [], ◌∷◌, ◌++◌, length, take, drop, map, arith, refl, sym, ◌∙◌, ap, get_or, set}
use Rattle.std.proofs.lemmas.List.{take-append-drop, get_or_read, take_all}
use Rattle.std.proofs.lemmas.List.Elements.{filter-append}
use Rattle.std.proofs.Math.Seq.{map-set_same, take-append_seam}
use Rattle.std.specs.Prelude.{ℤ}
use Rattle.mono_theory.specs.Theories.{Facts}
use Rattle.mono_search.specs.TheoryLists.{concerning}

-- one more step of a sweep that writes each item of a list
pub swept_step : {X : Type 0} (h : X → X) (xs : List X) (i : ℕ) (d y : X) → i < length xs → y ≡ h (get_or xs i d) → set (map h (take i xs) ++ drop i xs) i y ≡ map h (take (suc i) xs) ++ drop (suc i) xs
swept_step h [] i d y b e = absurd (omega arith)
swept_step h (x ∷ xs) zero d y b e = ap (λ z. z ∷ xs) e
swept_step h (x ∷ xs) (suc i) d y b e = ap (λ zs. h x ∷ zs) (swept_step h xs i d y (omega arith) e)

-- what the sweep has not written yet is as it was
pub swept_read : {X : Type 0} (h : X → X) (xs : List X) (i : ℕ) (d : X) → get_or (map h (take i xs) ++ drop i xs) i d ≡ get_or xs i d
swept_read h [] zero d = refl
swept_read h [] (suc i) d = refl
swept_read h (x ∷ xs) zero d = refl
swept_read h (x ∷ xs) (suc i) d = swept_read h xs i d

pub map_at : {T X : Type 0} (f : T → X) (ts : List T) (i : ℕ) (d : T) → f (get_or ts i d) ≡ get_or (map f ts) i (f d)
map_at f [] i d = refl
map_at f (t ∷ ts) zero d = refl
map_at f (t ∷ ts) (suc i) d = map_at f ts i d

pub map_set : {T X : Type 0} (f : T → X) (ts : List T) (i : ℕ) (y : T) → map f (set ts i y) ≡ set (map f ts) i (f y)
map_set f [] i y = refl
map_set f (t ∷ ts) zero y = refl
map_set f (t ∷ ts) (suc i) y = ap (λ zs. f t ∷ zs) (map_set f ts i y)

-- a sweep over values of which facts are known: what it reads at its place
pub sweep_read : {T X : Type 0} (fact : T → X) (h : X → X) (ts now : List T) (i : ℕ) (t : T) → map fact now ≡ map h (take i (map fact ts)) ++ drop i (map fact ts)
    → t ≡ get_or now i t → fact t ≡ get_or (map fact ts) i (fact t)
sweep_read fact h ts now i t inv at =
    ap fact at ∙ map_at fact now i t ∙ ap (λ zs. get_or zs i (fact t)) inv ∙ swept_read h (map fact ts) i (fact t)

-- and what it leaves
pub sweep_write : {T X : Type 0} (fact : T → X) (h : X → X) (ts now : List T) (i : ℕ) (t new : T) → map fact now ≡ map h (take i (map fact ts)) ++ drop i (map fact ts)
    → i < length (map fact ts) → t ≡ get_or now i t → fact new ≡ h (fact t)
    → map fact (set now i new) ≡ map h (take (i + 1) (map fact ts)) ++ drop (i + 1) (map fact ts)
sweep_write fact h ts now i t new inv b at e =
    rw add-one (map_set fact now i new ∙ ap (λ zs. set zs i (fact new)) inv ∙ swept_step h (map fact ts) i (fact t) (fact new) b (e ∙ ap h (sweep_read fact h ts now i t inv at)))

-- a sweep that leaves each fact as it is
pub same_read : {T X : Type 0} (fact : T → X) (ts now : List T) (i : ℕ) (t : T) → map fact now ≡ map fact ts → t ≡ get_or now i t → fact t ≡ get_or (map fact ts) i (fact t)
same_read fact ts now i t inv at = ap fact at ∙ map_at fact now i t ∙ ap (λ zs. get_or zs i (fact t)) inv

pub same_write : {T X : Type 0} (fact : T → X) (ts now : List T) (i : ℕ) (t new : T) → map fact now ≡ map fact ts → t ≡ get_or now i t → fact new ≡ fact t → map fact (set now i new) ≡ map fact ts
same_write fact ts now i t new inv at e = map-set_same fact now i new t (e ∙ ap fact at) ∙ inv

-- the part of a list is that of its front and that of its rest
pub part_split : (f : Facts) (k : ℕ) (t : List ℤ) → concerning f t ≡ concerning f (take k t) ++ concerning f (drop k t)
part_split f k t = rw (← filter-append) (ap (concerning f) (sym (take-append-drop k t)))

-- what is left when the part of the rest is cut off
pub front_of : (a b c : List ℤ) → c ≡ a ++ b → take (length c - length b) c ≡ a
front_of a b c e = rw (e, length-append) (let n : length a + length b - length b ≡ length a = omega arith in rw n (take-append_seam a b))

-- one more that holds, at the place that a sweep is at
pub one_more : {X : Type 0} (P : X → Type 0) (xs : List X) (i : ℕ) (x : X) → i < length xs → x ≡ get_or xs i x → P x → ((k : ℕ) (d : X) → k < i → P (get_or xs k d)) → (k : ℕ) (d : X) → k < i + 1 → P (get_or xs k d)
one_more P xs i x b e p below k d lt = below_more (λ j. P (get_or xs j d)) i (λ j l. below j d l) (subst P (get_or_read xs i x b e d) p) k lt

-- a slice from a place on
pub tail_is : (k : ℕ) (t : List ℤ) → take (length t - k) (drop k t) ≡ drop k t
tail_is k t = take_all (length t - k) (drop k t) (rw length-drop (omega arith))

-- what a theory that has seen a list has seen once the rest of it is taken back
pub rewound_seen : (f : Facts) (t : List ℤ) (k seen dropped : ℕ) → f.seen ≡ concerning f t → seen ≡ length f.seen → dropped ≡ length (concerning f (take (length t - k) (drop k t)))
    → (dropped ≤ seen) × (take (seen - dropped) f.seen ≡ concerning f (take k t))
rewound_seen f t k seen dropped h s d =
    let split : f.seen ≡ concerning f (take k t) ++ concerning f (drop k t) = h ∙ part_split f k t in
    let rest : dropped ≡ length (concerning f (drop k t)) = d ∙ ap (λ u. length (concerning f u)) (tail_is k t) in
    (omega (arith, s, rest, ap length split, length-append (concerning f (take k t)) (concerning f (drop k t))), rw (s, rest) (front_of _ _ _ split))
