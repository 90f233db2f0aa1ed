-- Identities that differ, and the place of the graph that has one.
use Rattle.std.proofs.Common.{◌≡◌, ℕ, zero, suc, ◌<◌, ◌==◌, Bool, true, false, ltb, eqb, List, [], ◌∷◌, ◌++◌, length, map, refl, sym, ap, ◌∙◌, arith, Option, Some, None, position, inl, inr, ◌≤◌}
use Rattle.std.specs.List.{position_or_len}
use Rattle.std.specs.Option.{option_map}
use Rattle.std.proofs.lemmas.Bool.Decides.{nat_tests}
use Rattle.std.proofs.lemmas.Bool.{cases_lt, lt-ltb}
use Rattle.std.proofs.lemmas.List.{map-append}
use Rattle.mono_problem.proofs.Declared.{position_push_found}
use Rattle.mono_problem.specs.Instance.{place_named}

-- ---- the first place

position-at : (test : ℕ → Bool) (xs : List ℕ) (n : ℕ) → position_or_len test xs ≡ n → n < length xs → position test xs ≡ Some n
position-at test xs n e low =
    let test_passes : ltb (position_or_len test xs) (length xs) ≡ true = lt-ltb (position_or_len test xs) (length xs) (omega arith) in
    rw test_passes (ap Some e)

position-none : (test : ℕ → Bool) (xs : List ℕ) → length xs ≤ position_or_len test xs → position test xs ≡ None
position-none test xs past =
    let test_fails : ltb (position_or_len test xs) (length xs) ≡ false = grind (arith, nat_tests) in
    rw test_fails refl

position-here : (test : ℕ → Bool) (x : ℕ) (xs : List ℕ) → test x ≡ true → position test (x ∷ xs) ≡ Some 0
position-here test x xs h = position-at test (x ∷ xs) 0 (rw h refl) (omega arith)

position-later : (test : ℕ → Bool) (x : ℕ) (xs : List ℕ) → test x ≡ false → position test (x ∷ xs) ≡ option_map (λ k. suc k) (position test xs)
position-later test x xs h =
    let next : position_or_len test (x ∷ xs) ≡ suc (position_or_len test xs) = rw h (omega arith) in
    elim (cases_lt (position_or_len test xs) (length xs)) [
      | inl low ↦ position-at test (x ∷ xs) (suc (position_or_len test xs)) next (omega arith) ∙ sym (ap (option_map (λ k. suc k)) (position-at test xs (position_or_len test xs) refl low))
      | inr past ↦ position-none test (x ∷ xs) (omega (arith, next)) ∙ sym (ap (option_map (λ k. suc k)) (position-none test xs past))
    ]

the_same : (x id : ℕ) → eqb id x ≡ true → x ≡ id
the_same x id e = grind (arith, nat_tests, e)

apart : (x id : ℕ) → eqb id x ≡ false → x ≡ id → ⊥
apart x id e same = absurd (grind (arith, nat_tests, e, same))

-- ---- identities

-- no graph has the identity
abbrev pub Lacks : ℕ → List (ℕ × ℕ) → Type 0
Lacks id [] = Unit {0}
Lacks id (g ∷ gs) = (g.0 ≡ id → ⊥) × Lacks id gs

abbrev pub AreDistinct : List (ℕ × ℕ) → Type 0
AreDistinct [] = Unit {0}
AreDistinct (g ∷ gs) = Lacks g.0 gs × AreDistinct gs

-- the graph at the place is the one with the identity
abbrev pub IsOnlyAt : ℕ → ℕ → List (ℕ × ℕ) → Type 0
IsOnlyAt id k [] = ⊥
IsOnlyAt id zero (g ∷ gs) = (g.0 ≡ id) × Lacks id gs
IsOnlyAt id (suc k) (g ∷ gs) = (g.0 ≡ id → ⊥) × IsOnlyAt id k gs

Lacks-push : (id : ℕ) (gs : List (ℕ × ℕ)) (g : ℕ × ℕ) → Lacks id gs → (g.0 ≡ id → ⊥) → Lacks id (gs ++ g ∷ [])
Lacks-push id [] g h new = (new, tt)
Lacks-push id (x ∷ xs) g h new = (h.0, Lacks-push id xs g h.1 new)

pub AreDistinct-push : (gs : List (ℕ × ℕ)) (g : ℕ × ℕ) → AreDistinct gs → Lacks g.0 gs → AreDistinct (gs ++ g ∷ [])
AreDistinct-push [] g h new = (tt, tt)
AreDistinct-push (x ∷ xs) g h new = (Lacks-push x.0 xs g h.0 (λ e. new.0 (sym e)), AreDistinct-push xs g h.1 new.1)

Lacks-along : (id other : ℕ) (gs : List (ℕ × ℕ)) → id ≡ other → Lacks id gs → Lacks other gs
Lacks-along id other [] e h = tt
Lacks-along id other (g ∷ gs) e h = ((λ k. h.0 (k ∙ sym e)), Lacks-along id other gs e h.1)

none_before : (o : Option ℕ) → option_map (λ k. suc k) o ≡ None → o ≡ None
none_before None h = refl
none_before (Some k) h = absurd cc

pub absent : (id : ℕ) (gs : List (ℕ × ℕ)) → place_named gs id ≡ None → Lacks id gs
absent id [] h = tt
absent id (g ∷ gs) h =
    (elim (eqb id g.0) as (λ b. eqb id g.0 ≡ b → Lacks id (g ∷ gs)) [
      | true ↦ λ e. let here = position-here (λ k. id == k) g.0 (map (λ (g : ℕ × ℕ). g.0) gs) e in absurd cc
      | false ↦ λ e.
          let later = position-later (λ k. id == k) g.0 (map (λ (g : ℕ × ℕ). g.0) gs) e in
          (apart g.0 id e, absent id gs (none_before (place_named gs id) (sym later ∙ h)))
    ]) refl

at_first : (id k : ℕ) (g : ℕ × ℕ) (gs : List (ℕ × ℕ)) → Some 0 ≡ Some k → g.0 ≡ id → Lacks id gs → IsOnlyAt id k (g ∷ gs)
at_first id zero g gs e same others = (same, others)
at_first id (suc k) g gs e same others = absurd cc

at_later : (id k : ℕ) (g : ℕ × ℕ) (gs : List (ℕ × ℕ)) (o : Option ℕ) → option_map (λ j. suc j) o ≡ Some k → (g.0 ≡ id → ⊥) → ((j : ℕ) → o ≡ Some j → IsOnlyAt id j gs) → IsOnlyAt id k (g ∷ gs)
at_later id k g gs None e apart more = absurd cc
at_later id zero g gs (Some j) e apart more = absurd cc
at_later id (suc k) g gs (Some j) e apart more = (apart, more k cc)

pub only_at : (id k : ℕ) (gs : List (ℕ × ℕ)) → AreDistinct gs → place_named gs id ≡ Some k → IsOnlyAt id k gs
only_at id k [] h found = absurd cc
only_at id k (g ∷ gs) h found =
    (elim (eqb id g.0) as (λ b. eqb id g.0 ≡ b → IsOnlyAt id k (g ∷ gs)) [
      | true ↦ λ e.
          let same = the_same g.0 id e in
          let here = position-here (λ k. id == k) g.0 (map (λ (g : ℕ × ℕ). g.0) gs) e in
          at_first id k g gs (sym here ∙ found) same (Lacks-along g.0 id gs same h.0)
      | false ↦ λ e.
          let later = position-later (λ k. id == k) g.0 (map (λ (g : ℕ × ℕ). g.0) gs) e in
          at_later id k g gs (place_named gs id) (sym later ∙ found) (apart g.0 id e) (λ j at. only_at id j gs h.1 at)
    ]) refl

pub IsOnlyAt-held : (id k : ℕ) (gs : List (ℕ × ℕ)) → IsOnlyAt id k gs → k < length gs
IsOnlyAt-held id k [] h = absurd h
IsOnlyAt-held id zero (g ∷ gs) h = omega arith
IsOnlyAt-held id (suc k) (g ∷ gs) h = let rest = IsOnlyAt-held id k gs h.1 in omega arith

pub place_named-push : (gs : List (ℕ × ℕ)) (g : ℕ × ℕ) (id k : ℕ) → place_named gs id ≡ Some k → place_named (gs ++ g ∷ []) id ≡ Some k
place_named-push gs g id k h =
    ap (position (λ k. id == k)) (map-append (λ (g : ℕ × ℕ). g.0) gs (g ∷ [])) ∙ position_push_found (λ k. id == k) (map (λ (g : ℕ × ℕ). g.0) gs) g.0 k h

-- each of the identities is one of a graph
abbrev pub AreNamed : List (ℕ × ℕ) → List ℕ → Type 0
AreNamed gs [] = Unit {0}
AreNamed gs (id ∷ ids) = ((k : ℕ) × (place_named gs id ≡ Some k)) × AreNamed gs ids

pub AreNamed-wider : (gs : List (ℕ × ℕ)) (g : ℕ × ℕ) (ids : List ℕ) → AreNamed gs ids → AreNamed (gs ++ g ∷ []) ids
AreNamed-wider gs g [] h = tt
AreNamed-wider gs g (id ∷ ids) h = ((h.0.0, place_named-push gs g id h.0.0 h.0.1), AreNamed-wider gs g ids h.1)

pub AreNamed-push : (gs : List (ℕ × ℕ)) (ids : List ℕ) (id k : ℕ) → AreNamed gs ids → place_named gs id ≡ Some k → AreNamed gs (ids ++ id ∷ [])
AreNamed-push gs [] id k h found = ((k, found), tt)
AreNamed-push gs (i ∷ is) id k h found = (h.0, AreNamed-push gs is id k h.1 found)
