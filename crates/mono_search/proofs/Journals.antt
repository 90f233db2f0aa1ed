-- The journal, and what the store holds of it.
use Rattle.std.proofs.Common.{◌≡◌, ℕ, zero, suc, ◌+◌, ◌<◌, ◌≤◌, List, [], ◌∷◌, ◌++◌, take, get_or, length, All, refl, sym, ap, subst, ◌∙◌, ℤ, Some, arith, length-append, append_assoc}
use Rattle.std.specs.Prelude.{slice_get}
use Rattle.std.proofs.lemmas.List.{length-take, take_more}
use Rattle.std.proofs.lemmas.List.Elements.{All-append}
use Rattle.std.proofs.lemmas.Option.{slice_get_within}
use Rattle.mono_problem.specs.Instance.{numbered}
use Rattle.mono_clauses.specs.Store.{Held, lists_of}
use Rattle.mono_search.specs.State.{IsNamed}
use Rattle.mono_search.specs.Stored.{inputs_from}

-- ---- clauses by their numbers

slice_get_left : (xs ys : List (List ℤ)) (k : ℕ) (x : List ℤ) → slice_get xs k ≡ Some x → slice_get (xs ++ ys) k ≡ Some x
slice_get_left [] ys k x e = absurd cc
slice_get_left (z ∷ xs) ys zero x e = e
slice_get_left (z ∷ xs) ys (suc k) x e = slice_get_left xs ys k x e

pub numbered-left : (cs ds : List (List ℤ)) (n : ℕ) (c : List ℤ) → numbered cs n ≡ Some c → numbered (cs ++ ds) n ≡ Some c
numbered-left cs ds zero c e = absurd cc
numbered-left cs ds (suc n) c e = slice_get_left cs ds n c e

pub numbered_within : (cs : List (List ℤ)) (n : ℕ) (c : List ℤ) → numbered cs n ≡ Some c → n ≤ length cs
numbered_within cs zero c e = absurd cc
numbered_within cs (suc n) c e = omega (arith, slice_get_within cs n c e)

slice_get_seam : (xs ys : List (List ℤ)) (x : List ℤ) → slice_get (xs ++ x ∷ ys) (length xs) ≡ Some x
slice_get_seam [] ys x = refl
slice_get_seam (z ∷ xs) ys x = slice_get_seam xs ys x

pub numbered-last : (cs : List (List ℤ)) (c : List ℤ) → numbered (cs ++ c ∷ []) (suc (length cs)) ≡ Some c
numbered-last cs c = slice_get_seam cs [] c

-- ---- what is held

pub lists-inputs : (n : ℕ) (cs : List (List ℤ)) → lists_of (inputs_from n cs) ≡ cs
lists-inputs n [] = refl
lists-inputs n (c ∷ cs) = ap (λ ds. c ∷ ds) (lists-inputs (suc n) cs)

pub length-inputs : (n : ℕ) (cs : List (List ℤ)) → length (inputs_from n cs) ≡ length cs
length-inputs n [] = refl
length-inputs n (c ∷ cs) = ap suc (length-inputs (suc n) cs)

-- each clause that is held stands under its number
pub all_cons : {A : Type 0} (P : A → Type 0) (x : A) (xs : List A) → P x → All P xs → All P (x ∷ xs)
all_cons P x xs p h zero d lt = p
all_cons P x xs p h (suc k) d lt = h k d (omega arith)

pub all_none : {A : Type 0} (P : A → Type 0) → All P []
all_none P k d lt = absurd (omega arith)

pub inputs_named : (before cs rest : List (List ℤ)) → All (IsNamed ((before ++ cs) ++ rest)) (inputs_from (length before) cs)
inputs_named before [] rest = all_none (IsNamed ((before ++ []) ++ rest))
inputs_named before (c ∷ cs) rest =
    let e : (before ++ c ∷ []) ++ cs ≡ before ++ c ∷ cs = append_assoc before (c ∷ []) cs in
    let n : length (before ++ c ∷ []) ≡ suc (length before) = omega (arith, length-append before (c ∷ [])) in
    let ih = inputs_named (before ++ c ∷ []) cs rest in
    let there : slice_get ((before ++ c ∷ cs) ++ rest) (length before) ≡ Some c = slice_get_left (before ++ c ∷ cs) rest (length before) c (slice_get_seam before cs c) in
    all_cons (IsNamed ((before ++ c ∷ cs) ++ rest)) (record { number = suc (length before); lits = c }) (inputs_from (suc (length before)) cs) there
    (subst (λ (m : ℕ). All (IsNamed ((before ++ c ∷ cs) ++ rest)) (inputs_from m cs)) n (subst (λ (ds : List (List ℤ)). All (IsNamed (ds ++ rest)) (inputs_from (length (before ++ c ∷ [])) cs)) e ih))

pub named-left : (cs ds : List (List ℤ)) (hs : List Held) → All (IsNamed cs) hs → All (IsNamed (cs ++ ds)) hs
named-left cs ds hs named = λ k h lt. numbered-left cs ds (get_or hs k h).number (get_or hs k h).lits (named k h lt)

pub named_below : (cs : List (List ℤ)) (hs : List Held) (n : ℕ) → length cs < n → All (IsNamed cs) hs → All (λ h. h.number < n) hs
named_below cs hs n lt named = λ k h in_list. omega (arith, lt, numbered_within cs (get_or hs k h).number (get_or hs k h).lits (named k h in_list))

-- the last of all clauses joins
pub named-push : (cs : List (List ℤ)) (c : List ℤ) (hs : List Held) (n : ℕ) → n ≡ suc (length cs) → All (IsNamed cs) hs → All (IsNamed (cs ++ c ∷ [])) (hs ++ record { number = n; lits = c } ∷ [])
named-push cs c hs n e named =
    All-append (IsNamed (cs ++ c ∷ [])) hs (record { number = n; lits = c } ∷ []) (named-left cs (c ∷ []) hs named)
    (all_cons (IsNamed (cs ++ c ∷ [])) (record { number = n; lits = c }) [] (ap (numbered (cs ++ c ∷ [])) e ∙ numbered-last cs c) (all_none (IsNamed (cs ++ c ∷ []))))

pub inputs_below : (m : ℕ) (cs : List (List ℤ)) (n : ℕ) → m + length cs < n → All (λ h. h.number < n) (inputs_from m cs)
inputs_below m [] n lt = all_none (λ (h : Held). h.number < n)
inputs_below m (c ∷ cs) n lt = all_cons (λ (h : Held). h.number < n) (record { number = suc m; lits = c }) (inputs_from (suc m) cs) (omega arith) (inputs_below (suc m) cs n (omega arith))

pub inputs-push : (m : ℕ) (cs : List (List ℤ)) (c : List ℤ) → inputs_from m (cs ++ c ∷ []) ≡ inputs_from m cs ++ record { number = suc (m + length cs); lits = c } ∷ []
inputs-push m [] c = let e : m + length {A = List ℤ} [] ≡ m = omega arith in ap (λ (n : ℕ). record { number = suc n; lits = c } ∷ []) (sym e)
inputs-push m (d ∷ cs) c = let e : suc m + length cs ≡ m + length (d ∷ cs) = omega arith in ap (λ hs. record { number = suc m; lits = d } ∷ hs) (inputs-push (suc m) cs c ∙ ap (λ (n : ℕ). inputs_from (suc m) cs ++ record { number = suc n; lits = c } ∷ []) e)

-- one more clause of the problem is held
pub inputs-more : (hs : List Held) (cs : List (List ℤ)) (k n : ℕ) (c d : List ℤ) → hs ≡ inputs_from 0 (take k cs) → k < length cs → c ≡ get_or cs k d → n ≡ k + 1 → hs ++ record { number = n; lits = c } ∷ [] ≡ inputs_from 0 (take (k + 1) cs)
inputs-more hs cs k n c d e lt at num =
    let len : length (take k cs) ≡ k = rw length-take (omega (arith, lt)) in
    let number : n ≡ suc (0 + length (take k cs)) = omega (arith, num, len) in
    ap (λ (xs : List Held). xs ++ record { number = n; lits = c } ∷ []) e
    ∙ ap (λ (m : ℕ). inputs_from 0 (take k cs) ++ record { number = m; lits = c } ∷ []) number
    ∙ sym (inputs-push 0 (take k cs) c)
    ∙ ap (λ (x : List ℤ). inputs_from 0 (take k cs ++ x ∷ [])) at
    ∙ ap (inputs_from 0) (sym (take_more cs k d lt))
