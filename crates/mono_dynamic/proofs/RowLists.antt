-- Rows that change one after another.
use Rattle.std.proofs.Common.{◌≡◌, ℕ, suc, ◌+◌, ◌<◌, ◌≤◌, Bool, List, [], ◌∷◌, ◌++◌, length, map, take, get_or, set, refl, sym, ap, subst, ◌∙◌, inl, inr, arith}
use Rattle.std.specs.Prelude.{All}
use Rattle.std.specs.List.{AllZip, each_same}
use Rattle.std.proofs.lemmas.Bool.{cases_lt, cases_eq}
use Rattle.std.proofs.lemmas.List.{length-set, map-append, set-get_or, get_or-set_same, get_or-set_other, get_or_read, take_more}
use Rattle.std.proofs.lemmas.List.Elements.{length_all_zip, AllZip-get_or}
use Rattle.mono_graph.specs.Digraph.{Digraph}
use Rattle.mono_dynamic.specs.BySource.{IsBack, OrSame}

-- the rows before a place have changed, and the others have not
pub record AreChanged {X : Type 0} (Is : X → X → Type 0) (olds nows : List X) (i : ℕ) : Type 0 where
  pub len : length nows ≡ length olds
  pub done : (j : ℕ) (d : X) → j < i → j < length olds → Is (get_or olds j d) (get_or nows j d)
  pub rest : (j : ℕ) (d : X) → i ≤ j → get_or nows j d ≡ get_or olds j d

pub changed_none : {X : Type 0} (Is : X → X → Type 0) (olds : List X) → AreChanged Is olds olds 0
changed_none Is olds = record { len = refl; done = λ j d lt low. absurd (omega arith); rest = λ j d le. refl }

-- the row at the place is one of those at the beginning
pub row_before : {X : Type 0} {Is : X → X → Type 0} {olds nows : List X} {i : ℕ} (r : X) → AreChanged Is olds nows i → r ≡ get_or nows i r → r ≡ get_or olds i r
row_before {i = i} r c is = is ∙ c.rest i r (omega arith)

pub changed_more : {X : Type 0} {Is : X → X → Type 0} {olds nows : List X} {i : ℕ} (r new : X) → AreChanged Is olds nows i → i < length nows → r ≡ get_or nows i r → Is r new → AreChanged Is olds (set nows i new) (i + 1)
changed_more {X = X} {Is = Is} {olds = olds} {nows = nows} {i = i} r new c lt is changed = record {
  len = length-set nows i new ∙ c.len;
  done = λ j d low inside. elim (cases_eq j i) [
    | inl here ↦
        subst (λ (k : ℕ). Is (get_or olds k d) (get_or (set nows i new) k d)) (sym here)
        (subst (λ (x : X). Is x (get_or (set nows i new) i d)) (get_or_read nows i r lt is d ∙ c.rest i d (omega arith))
        (subst (λ (y : X). Is r y) (sym (get_or-set_same nows i new d lt)) changed))
    | inr other ↦ subst (λ (y : X). Is (get_or olds j d) y) (sym (get_or-set_other nows i j new d other)) (c.done j d (omega arith) inside)
  ];
  rest = λ j d le. get_or-set_other nows i j new d (omega arith) ∙ c.rest j d (omega arith);
}

all_zip_by : {X : Type 0} (Is : X → X → Type 0) (xs ys : List X) → length ys ≡ length xs → ((j : ℕ) (d : X) → j < length xs → Is (get_or xs j d) (get_or ys j d)) → AllZip Is xs ys
all_zip_by Is [] [] len h = tt
all_zip_by Is [] (y ∷ ys) len h = absurd (omega (arith, len))
all_zip_by Is (x ∷ xs) [] len h = absurd (omega (arith, len))
all_zip_by Is (x ∷ xs) (y ∷ ys) len h = (h 0 x (omega arith), all_zip_by Is xs ys (omega (arith, len)) (λ j d lt. h (suc j) d (omega (arith, lt))))

-- rows that have all changed
pub all_changed : {X : Type 0} {Is : X → X → Type 0} {olds nows : List X} {i : ℕ} → length nows ≤ i → AreChanged Is olds nows i → AllZip Is olds nows
all_changed {Is = Is} {olds = olds} {nows = nows} {i = i} le c = all_zip_by Is olds nows c.len (λ j d lt. c.done j d (let len = c.len in omega (arith, le, len, lt)) lt)

-- rows of which some have
pub some_changed : {X : Type 0} {Is : X → X → Type 0} {olds nows : List X} {i : ℕ} → AreChanged Is olds nows i → AllZip (OrSame Is) olds nows
some_changed {Is = Is} {olds = olds} {nows = nows} {i = i} c =
    all_zip_by (OrSame Is) olds nows c.len (λ j d lt. elim (cases_lt j i) [ inl before ↦ inr (c.done j d before lt) | inr past ↦ inl (c.rest j d past) ])

-- the row at the place stayed as it was
pub some_changed_set : {X : Type 0} {Is : X → X → Type 0} {olds nows : List X} {i : ℕ} (r new : X) → AreChanged Is olds nows i → r ≡ get_or nows i r → new ≡ r → AllZip (OrSame Is) olds (set nows i new)
some_changed_set {X = X} {Is = Is} {olds = olds} {nows = nows} {i = i} r new c is same =
    subst (λ (xs : List X). AllZip (OrSame Is) olds xs) (sym (ap (set nows i) (same ∙ is) ∙ set-get_or nows i r)) (some_changed c)

-- rows that all went back
pub all_undone : {X : Type 0} (Fits : ℕ → ℕ → X → Type 0) (Grown : Digraph → List Bool → List ℕ → ℕ → X → X → Type 0) (Undone : ℕ → X → X → Type 0) (kept : ℕ) (olds news : List X) → AllZip (IsBack Fits Grown Undone kept) olds news → AllZip (Undone kept) olds news
all_undone Fits Grown Undone kept olds news back =
    all_zip_by (Undone kept) olds news (sym (length_all_zip (IsBack Fits Grown Undone kept) olds news back)) (λ j d lt. (AllZip-get_or (IsBack Fits Grown Undone kept) olds news j d d back lt).is)

-- rows of which some grew by a step are as before once it is taken back
pub rows_restored : {X : Type 0} (Fits : ℕ → ℕ → X → Type 0) (Grown : Digraph → List Bool → List ℕ → ℕ → X → X → Type 0) (Undone : ℕ → X → X → Type 0) (g : Digraph) (Q : List Bool) (ks : List ℕ) (kept : ℕ) (olds mids news : List X)
    → All (Fits g.nodes kept) olds → AllZip (OrSame (Grown g Q ks kept)) olds mids → AllZip (IsBack Fits Grown Undone kept) mids news → news ≡ olds
rows_restored Fits Grown Undone g Q ks kept olds mids news fit grown back =
    let first : length olds ≡ length mids = length_all_zip (OrSame (Grown g Q ks kept)) olds mids grown in
    let last : length mids ≡ length news = length_all_zip (IsBack Fits Grown Undone kept) mids news back in
    each_same olds news (all_zip_by (λ x y. y ≡ x) olds news (sym (first ∙ last))
    (λ j d lt. (AllZip-get_or (IsBack Fits Grown Undone kept) mids news j d d back (omega (arith, lt, first))).restored g Q ks (get_or olds j d) (fit j d lt) (AllZip-get_or (OrSame (Grown g Q ks kept)) olds mids j d d grown lt)))

-- a row more, of the next of the sources
pub mapped_more : {X Y : Type 0} (f : X → Y) (xs : List X) (i : ℕ) (d : X) (olds nows : List Y) (y : Y) → i < length xs → olds ≡ map f (take i xs) → y ≡ f (get_or xs i d) → nows ≡ olds ++ y ∷ [] → nows ≡ map f (take (i + 1) xs)
mapped_more {X = X} {Y = Y} f xs i d olds nows y lt was is pushed =
    let next : map f (take (i + 1) xs) ≡ map f (take i xs) ++ f (get_or xs i d) ∷ [] =
    ap (λ (ys : List X). map f ys) (take_more xs i d lt) ∙ map-append f (take i xs) (get_or xs i d ∷ []) in
    pushed ∙ ap (λ (ys : List Y). ys ++ y ∷ []) was ∙ ap (λ (z : Y). map f (take i xs) ++ z ∷ []) is ∙ sym next
