-- The entries of a map of graphs, copied one after the other.
use Rattle.std.proofs.Common.{◌≡◌, ℕ, zero, suc, ◌+◌, ◌<◌, ◌≤◌, Bool, true, false, cond, not, List, [], ◌∷◌, length, take, map, get_or, refl, sym, ap, ◌∙◌, arith, IsNone, position, nat_eq}
use Rattle.std.specs.List.{position_or_len}
use Rattle.std.proofs.lemmas.Bool.{le-ltb}
use Rattle.std.proofs.lemmas.List.{take_more}
use Rattle.indexmap.specs.IndexMap.{insert_entry}
use Rattle.mono_graph.specs.Digraph.{Digraph}
use Rattle.mono_problem.specs.Instance.{no_graph, place_named}
use Rattle.mono_problem.specs.WellFormed.{AreNamed}
use Rattle.mono_problem.proofs.Declared.{position-value}
use Rattle.mono_problem.proofs.Entries.{insert_entry-undeclared}

names-take : (k : ℕ) (gs : List (ℕ × Digraph)) → map (λ (g : ℕ × Digraph). g.0) (take k gs) ≡ take k (map (λ (g : ℕ × Digraph). g.0) gs)
names-take zero gs = refl
names-take (suc k) [] = refl
names-take (suc k) (g ∷ gs) = ap (λ ns. g.0 ∷ ns) (names-take k gs)

-- none of the items before the first that passes does
first_alone : (test : ℕ → Bool) (xs : List ℕ) (k : ℕ) → k ≤ position_or_len test xs → length (take k xs) ≤ position_or_len test (take k xs)
first_alone test xs zero h = omega arith
first_alone test [] (suc k) h = omega arith
first_alone test (x ∷ xs) (suc k) h =
    (elim (test x) as (λ b. suc k ≤ cond (not b) (1 + position_or_len test xs) 0 → suc (length (take k xs)) ≤ cond (not b) (1 + position_or_len test (take k xs)) 0) [
      | true ↦ λ low. absurd (omega (arith, low))
      | false ↦ λ low. let more : k ≤ position_or_len test xs = omega (arith, low) in omega (arith, first_alone test xs k more)
    ]) h

none_before : (test : ℕ → Bool) (xs : List ℕ) → length xs ≤ position_or_len test xs → IsNone (position test xs)
none_before test xs h = rw (le-ltb (position_or_len test xs) (length xs) h) refl

pub not_before : (gs : List (ℕ × Digraph)) (k : ℕ) → AreNamed gs → k < length gs → IsNone (place_named (take k gs) (get_or gs k no_graph).0)
not_before gs k named h =
    let test : ℕ → Bool = λ j. nat_eq (get_or gs k no_graph).0 j in
    let names = map (λ (g : ℕ × Digraph). g.0) gs in
    let at = position-value test names k (named k h) in
    rw (names-take k gs) (none_before test (take k names) (first_alone test names k (omega (arith, at.0))))

pub copied_entry : (gs : List (ℕ × Digraph)) (k : ℕ) → AreNamed gs → k < length gs → insert_entry nat_eq (take k gs) (get_or gs k no_graph).0 (get_or gs k no_graph).1 ≡ take (k + 1) gs
copied_entry gs k named h = insert_entry-undeclared (get_or gs k no_graph).0 (get_or gs k no_graph).1 (take k gs) (not_before gs k named h) ∙ sym (take_more gs k no_graph h)
