-- What all items of a list pass, seen from its front.
use Rattle.std.proofs.Common.{◌≡◌, ℕ, zero, suc, ◌+◌, ◌<◌, Bool, true, false, ◌&&◌, List, [], ◌∷◌, ◌++◌, length, map, take, get_or, Option, Some, refl, sym, ap, ◌∙◌, arith}
use Rattle.std.specs.Prelude.{IsTrue, is_some, unwrap_or}
use Rattle.std.specs.List.{list_all}
use Rattle.std.proofs.lemmas.Bool.{and_from}
use Rattle.std.proofs.lemmas.List.{take_more, map-append}
use Rattle.mono_graph.specs.declared.amount.Amount.{Amount}
use Rattle.mono_graph.specs.Digraph.{Digraph, place_of}
use Rattle.mono_steps.specs.Witnesses.{place_or_end, placed, placed_amounts}
use Rattle.std.proofs.lemmas.List.Folds.{list_all-append}

-- one item more passes
pub all_more : {X : Type 0} (p : X → Bool) (xs : List X) (i : ℕ) (d : X) → i < length xs → IsTrue (list_all p (take i xs)) → IsTrue (p (get_or xs i d)) → IsTrue (list_all p (take (i + 1) xs))
all_more {X} p xs i d low h here =
    ap (λ (ys : List X). list_all p ys) (take_more xs i d low) ∙ list_all-append p (take i xs) (get_or xs i d ∷ []) ∙ and_from (list_all p (take i xs)) (p (get_or xs i d) && true) h (and_from (p (get_or xs i d)) true here refl)

-- one doesn't
pub not_all : {X : Type 0} (p : X → Bool) (xs : List X) (i : ℕ) (d : X) → i < length xs → p (get_or xs i d) ≡ false → list_all p xs ≡ false
not_all p [] i d low h = absurd (omega arith)
not_all p (x ∷ xs) zero d low h = ap (λ (b : Bool). b && list_all p xs) h
not_all p (x ∷ xs) (suc i) d low h = ap (λ (b : Bool). p x && b) (not_all p xs i d (omega arith) h) ∙ off (p x)
  where
    off : (b : Bool) → (b && false) ≡ false
    off true = refl
    off false = refl

-- ---- one edge more

pub map_more : {X Y : Type 0} (f : X → Y) (xs : List X) (i : ℕ) (d : X) → i < length xs → map f (take (i + 1) xs) ≡ map f (take i xs) ++ f (get_or xs i d) ∷ []
map_more {X} f xs i d low = ap (λ (ys : List X). map f ys) (take_more xs i d low) ∙ map-append f (take i xs) (get_or xs i d ∷ [])

place_is : (g : Digraph) (n k : ℕ) → Some k ≡ place_of g n → place_or_end g n ≡ k
place_is g n k e = ap (λ (o : Option ℕ). unwrap_or o (length g.edges)) (sym e)

is_there : (g : Digraph) (n k : ℕ) → Some k ≡ place_of g n → IsTrue (is_some (place_of g n))
is_there g n k e = ap (λ (o : Option ℕ). is_some o) (sym e)

-- a number whose place was found, behind the places before
pub edge_more : (g : Digraph) (numbers places new : List ℕ) (i k : ℕ) → i < length numbers → Some k ≡ place_of g (get_or numbers i 0) → places ≡ placed g (take i numbers) → new ≡ places ++ k ∷ [] → new ≡ placed g (take (i + 1) numbers)
edge_more g numbers places new i k low found before after =
    after ∙ ap (λ (ks : List ℕ). ks ++ k ∷ []) before ∙ ap (λ (j : ℕ). placed g (take i numbers) ++ j ∷ []) (sym (place_is g (get_or numbers i 0) k found)) ∙ sym (map_more (place_or_end g) numbers i 0 low)

pub number_more : (g : Digraph) (numbers : List ℕ) (i k : ℕ) → i < length numbers → Some k ≡ place_of g (get_or numbers i 0) → IsTrue (list_all (λ n. is_some (place_of g n)) (take i numbers)) → IsTrue (list_all (λ n. is_some (place_of g n)) (take (i + 1) numbers))
number_more g numbers i k low found h = all_more (λ n. is_some (place_of g n)) numbers i 0 low h (is_there g (get_or numbers i 0) k found)

pub amount_more : (g : Digraph) (listed amounts new : List Amount) (i k : ℕ) (d : Amount) → i < length listed → Some k ≡ place_of g (get_or listed i d).edge → amounts ≡ placed_amounts g (take i listed)
    → new ≡ amounts ++ record { edge = k; amount = (get_or listed i d).amount } ∷ [] → new ≡ placed_amounts g (take (i + 1) listed)
amount_more g listed amounts new i k d low found before after =
    after ∙ ap (λ (ms : List Amount). ms ++ record { edge = k; amount = (get_or listed i d).amount } ∷ []) before
    ∙ ap (λ (j : ℕ). placed_amounts g (take i listed) ++ record { edge = j; amount = (get_or listed i d).amount } ∷ []) (sym (place_is g (get_or listed i d).edge k found))
    ∙ sym (map_more (λ (m : Amount). record { edge = place_or_end g m.edge; amount = m.amount }) listed i d low)

pub entry_more : (g : Digraph) (listed : List Amount) (i k : ℕ) (d : Amount) → i < length listed → Some k ≡ place_of g (get_or listed i d).edge → IsTrue (list_all (λ (m : Amount). is_some (place_of g m.edge)) (take i listed)) → IsTrue (list_all (λ (m : Amount). is_some (place_of g m.edge)) (take (i + 1) listed))
entry_more g listed i k d low found h = all_more (λ (m : Amount). is_some (place_of g m.edge)) listed i d low h (is_there g (get_or listed i d).edge k found)
