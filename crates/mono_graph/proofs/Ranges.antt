-- One more number of a range, also filtered, and mapped then.
use Rattle.std.proofs.Common.{◌≡◌, ℕ, zero, suc, ◌+◌, Bool, true, false, cond, List, [], ◌∷◌, ◌++◌, map, filter, ap, ◌∙◌, arith, append-nil}
use Rattle.std.specs.List.{range_with_len}
use Rattle.std.proofs.lemmas.List.{map-append}
use Rattle.std.proofs.lemmas.List.Elements.{filter-append}

pub range_push : (a n : ℕ) → range_with_len a (suc n) ≡ range_with_len a n ++ (a + n) ∷ []
range_push a zero = ap (λ (k : ℕ). k ∷ []) (omega arith)
range_push a (suc n) = ap (λ (ks : List ℕ). a ∷ ks) (range_push (a + 1) n ∙ ap (λ (k : ℕ). range_with_len (a + 1) n ++ k ∷ []) (omega arith))

pub filter_range : (p : ℕ → Bool) (n : ℕ) → filter p (range_with_len 0 (n + 1)) ≡ filter p (range_with_len 0 n) ++ cond (p n) (n ∷ []) []
filter_range p n =
    ap (λ (m : ℕ). filter p (range_with_len 0 m)) (let e : n + 1 ≡ suc n = omega arith in e)
    ∙ (ap (λ (ks : List ℕ). filter p ks) (range_push 0 n)
    ∙ (filter-append p (range_with_len 0 n) ((0 + n) ∷ [])
    ∙ ap (λ (m : ℕ). filter p (range_with_len 0 n) ++ cond (p m) (m ∷ []) []) (let e : 0 + n ≡ n = omega arith in e)))

pub filter_range_yes : (p : ℕ → Bool) (n : ℕ) → p n ≡ true → filter p (range_with_len 0 (n + 1)) ≡ filter p (range_with_len 0 n) ++ n ∷ []
filter_range_yes p n h = filter_range p n ∙ ap (λ (b : Bool). filter p (range_with_len 0 n) ++ cond b (n ∷ []) []) h

pub filter_range_no : (p : ℕ → Bool) (n : ℕ) → p n ≡ false → filter p (range_with_len 0 (n + 1)) ≡ filter p (range_with_len 0 n)
filter_range_no p n h = filter_range p n ∙ (ap (λ (b : Bool). filter p (range_with_len 0 n) ++ cond b (n ∷ []) []) h ∙ append-nil (filter p (range_with_len 0 n)))

pub map_filter_range_yes : {Y : Type 0} (f : ℕ → Y) (p : ℕ → Bool) (n : ℕ) → p n ≡ true → map f (filter p (range_with_len 0 (n + 1))) ≡ map f (filter p (range_with_len 0 n)) ++ f n ∷ []
map_filter_range_yes f p n h = ap (λ (ks : List ℕ). map f ks) (filter_range_yes p n h) ∙ map-append f (filter p (range_with_len 0 n)) (n ∷ [])

pub map_filter_range_no : {Y : Type 0} (f : ℕ → Y) (p : ℕ → Bool) (n : ℕ) → p n ≡ false → map f (filter p (range_with_len 0 (n + 1))) ≡ map f (filter p (range_with_len 0 n))
map_filter_range_no f p n h = ap (λ (ks : List ℕ). map f ks) (filter_range_no p n h)
