-- Partial assignments: no literal together with its negation, one literal more, and fewer.
use Rattle.std.proofs.Common.{◌≡◌, ◌+◌, ◌<◌, ◌≤◌, eqb, ◌⊎◌, ℕ, zero, suc, Bool, true, false, not, ◌&&◌, ◌||◌, ◌==◌, List, [], ◌∷◌, ◌++◌, take, drop, length, map, arith, refl, sym, ap, subst, ◌∙◌, inl, inr, ℤ}
use Rattle.std.specs.Prelude.{All, IsTrue, pos, negsuc, neg_ℤ, if◌then◌else◌}
use Rattle.std.specs.Ordering.{int_eq}
use Rattle.std.proofs.lemmas.Bool.{and_parts, and_from, or_cases, or_left, or_right, or_parts, not-true, not_from_false, both_ways, false_from_ne_true, eq-eqb, eqb-true, leb-true}
use Rattle.std.proofs.lemmas.List.{take-append-drop, length-map}
use Rattle.std.specs.List.{AllByRecursion, IsDistinct, list_any}
use Rattle.std.proofs.lemmas.List.Folds.{list_any-append}
use Rattle.std.proofs.lemmas.List.Elements.{All-head, All-tail}
use Rattle.std.proofs.lemmas.Map.Keys.{IsDistinct-cons}
use Rattle.std.proofs.lemmas.Map.Steps.{length-le_from_distinct_below}
use Rattle.mono_base.specs.declared.value.Value.TheVariants.{Yes, No, Unset}
use Rattle.mono_base.specs.Literal.{var_of, is_lit, has_lit, IsLitWithin}
use Rattle.mono_base.specs.Partial.{has_var, is_partial, is_true_in, is_false_in, is_open_in, value_by}
use Rattle.mono_base.proofs.Truth.{same_lit, lit_itself}

pub neg-neg : (l : ℤ) → neg_ℤ (neg_ℤ l) ≡ l
neg-neg (pos zero) = refl
neg-neg (pos (suc n)) = refl
neg-neg (negsuc n) = refl

pub var-neg : (l : ℤ) → var_of (neg_ℤ l) ≡ var_of l
var-neg (pos zero) = refl
var-neg (pos (suc n)) = refl
var-neg (negsuc n) = refl

-- a literal is not its own negation
pub not_own_negation : (l : ℤ) → IsTrue (is_lit l) → l ≡ neg_ℤ l → ⊥
not_own_negation (pos zero) h e = cc
not_own_negation (pos (suc n)) h e = cc
not_own_negation (negsuc n) h e = cc

-- two literals over one variable are equal or opposite
pub same_or_opposite : (l m : ℤ) → var_of m ≡ var_of l → (m ≡ l) ⊎ (m ≡ neg_ℤ l)
same_or_opposite (pos k) (pos n) e = inl (ap pos e)
same_or_opposite (pos zero) (negsuc n) e = absurd cc
same_or_opposite (pos (suc k)) (negsuc n) e = inr cc
same_or_opposite (negsuc k) (pos n) e = inr (ap pos e)
same_or_opposite (negsuc k) (negsuc n) e = inl cc

-- the variables of a list are those of its literals
pub has_var_of : (t : List ℤ) (l : ℤ) (x : ℕ) → IsTrue (has_lit t l) → var_of l ≡ x → IsTrue (has_var t x)
has_var_of [] l x h e = absurd cc
has_var_of (m ∷ t) l x h e =
    elim (or_cases (int_eq l m) (has_lit t l) h) [
      | inl same ↦ or_left (var_of m == x) (has_var t x) (eq-eqb (var_of m) x (ap var_of (sym (same_lit l m same)) ∙ e))
      | inr later ↦ or_right (var_of m == x) (has_var t x) (has_var_of t l x later e)
    ]

pub has_either : (t : List ℤ) (l : ℤ) → IsTrue (has_var t (var_of l)) → IsTrue (has_lit t l) ⊎ IsTrue (has_lit t (neg_ℤ l))
has_either [] l h = absurd cc
has_either (m ∷ t) l h =
    elim (or_cases (var_of m == var_of l) (has_var t (var_of l)) h) [
      | inl e ↦ elim (same_or_opposite l m (eqb-true (var_of m) (var_of l) e)) [
        | inl s ↦ inl (or_left (int_eq l m) (has_lit t l) (subst (λ (k : ℤ). IsTrue (int_eq l k)) (sym s) (lit_itself l)))
        | inr s ↦ inr (or_left (int_eq (neg_ℤ l) m) (has_lit t (neg_ℤ l)) (subst (λ (k : ℤ). IsTrue (int_eq (neg_ℤ l) k)) (sym s) (lit_itself (neg_ℤ l))))
      ]
      | inr e ↦ elim (has_either t l e) [
        | inl s ↦ inl (or_right (int_eq l m) (has_lit t l) s)
        | inr s ↦ inr (or_right (int_eq (neg_ℤ l) m) (has_lit t (neg_ℤ l)) s)
      ]
    ]

-- ---- the parts of a partial assignment

pub record IsJoined (l : ℤ) (t : List ℤ) : Type 0 where
  pub lit : IsTrue (is_lit l)
  pub new : has_var t (var_of l) ≡ false
  pub rest : IsTrue (is_partial t)

pub joined : (l : ℤ) (t : List ℤ) → IsTrue (is_partial (l ∷ t)) → IsJoined l t
joined l t p =
    let a = and_parts (is_lit l && not (has_var t (var_of l))) (is_partial t) p in
    let b = and_parts (is_lit l) (not (has_var t (var_of l))) a.0 in
    record { lit = b.0; new = not-true (has_var t (var_of l)) b.1; rest = a.1 }

pub join : (l : ℤ) (t : List ℤ) → IsJoined l t → IsTrue (is_partial (l ∷ t))
join l t j = and_from (is_lit l && not (has_var t (var_of l))) (is_partial t) (and_from (is_lit l) (not (has_var t (var_of l))) j.lit (not_from_false (has_var t (var_of l)) j.new)) j.rest

-- a literal and its negation are not both in it
pub one_sign : (t : List ℤ) (l : ℤ) → IsTrue (is_partial t) → IsTrue (has_lit t l) → IsTrue (has_lit t (neg_ℤ l)) → ⊥
one_sign [] l p h k = cc
one_sign (m ∷ t) l p h k =
    let j = joined m t p in
    elim (or_cases (int_eq l m) (has_lit t l) h) [
      | inl here ↦ elim (or_cases (int_eq (neg_ℤ l) m) (has_lit t (neg_ℤ l)) k) [
        | inl there ↦ not_own_negation l (subst (λ (x : ℤ). IsTrue (is_lit x)) (sym (same_lit l m here)) j.lit) (same_lit l m here ∙ sym (same_lit (neg_ℤ l) m there))
        | inr later ↦ both_ways (has_var t (var_of m)) j.new (has_var_of t (neg_ℤ l) (var_of m) later (var-neg l ∙ ap var_of (same_lit l m here)))
      ]
      | inr later ↦ elim (or_cases (int_eq (neg_ℤ l) m) (has_lit t (neg_ℤ l)) k) [
        | inl there ↦ both_ways (has_var t (var_of m)) j.new (has_var_of t l (var_of m) later (sym (var-neg l) ∙ ap var_of (same_lit (neg_ℤ l) m there)))
        | inr both ↦ one_sign t l j.rest later both
      ]
    ]

-- a false literal is not true
pub false_not_true : (t : List ℤ) (l : ℤ) → IsTrue (is_partial t) → IsTrue (is_false_in t l) → is_true_in t l ≡ false
false_not_true t l p f = false_from_ne_true (is_true_in t l) (λ h. one_sign t l p h f)

-- the variable of an open literal is new
pub open_is_new : (t : List ℤ) (l : ℤ) → IsTrue (is_open_in t l) → has_var t (var_of l) ≡ false
open_is_new t l o =
    let a = and_parts (not (is_true_in t l)) (not (is_false_in t l)) o in
    false_from_ne_true (has_var t (var_of l)) (λ h. elim (has_either t l h) [
      | inl e ↦ both_ways (is_true_in t l) (not-true (is_true_in t l) a.0) e
      | inr e ↦ both_ways (is_false_in t l) (not-true (is_false_in t l) a.1) e
    ])

-- the literals over a new variable are open
pub new_is_open : (t : List ℤ) (l : ℤ) → has_var t (var_of l) ≡ false → IsTrue (is_open_in t l)
new_is_open t l none = both (has_lit t l) (has_lit t (neg_ℤ l)) (off l refl) (off (neg_ℤ l) (var-neg l))
  where
    off : (m : ℤ) → var_of m ≡ var_of l → has_lit t m ≡ false
    off m e = false_from_ne_true (has_lit t m) (λ h. both_ways (has_var t (var_of l)) none (has_var_of t m (var_of l) h e))

    both : (a b : Bool) → a ≡ false → b ≡ false → IsTrue (not a && not b)
    both a b x y = and_from (not a) (not b) (not_from_false a x) (not_from_false b y)

-- ---- one literal more, and fewer

pub has_var-append : (t u : List ℤ) (x : ℕ) → has_var (t ++ u) x ≡ (has_var t x || has_var u x)
has_var-append t u x = list_any-append (λ (l : ℤ). var_of l == x) t u

neither : (a b : Bool) → a ≡ false → b ≡ false → (a || b) ≡ false
neither true b e f = e
neither false b e f = f

pub is_partial-push : (t : List ℤ) (l : ℤ) → IsTrue (is_partial t) → IsTrue (is_lit l) → has_var t (var_of l) ≡ false → IsTrue (is_partial (t ++ l ∷ []))
is_partial-push [] l p lit new = join l [] (record { lit = lit; new = refl; rest = refl })
is_partial-push (m ∷ t) l p lit new =
    let j = joined m t p in
    let apart = or_parts (var_of m == var_of l) (has_var t (var_of l)) new in
    let other : (var_of l == var_of m) ≡ false = false_from_ne_true (var_of l == var_of m) (λ h. both_ways (var_of m == var_of l) apart.0 (eq-eqb (var_of m) (var_of l) (sym (eqb-true (var_of l) (var_of m) h)))) in
    join m (t ++ l ∷ []) (record {
      lit = j.lit;
      new = has_var-append t (l ∷ []) (var_of m) ∙ neither (has_var t (var_of m)) _ j.new (neither (var_of l == var_of m) false other refl);
      rest = is_partial-push t l j.rest lit apart.1;
    })

-- the front of a partial assignment is one, and what comes later is open there
pub is_partial-front : (t u : List ℤ) → IsTrue (is_partial (t ++ u)) → IsTrue (is_partial t)
is_partial-front [] u p = refl
is_partial-front (l ∷ t) u p =
    let j = joined l (t ++ u) p in
    let none = or_parts (has_var t (var_of l)) (has_var u (var_of l)) (sym (has_var-append t u (var_of l)) ∙ j.new) in
    join l t (record { lit = j.lit; new = none.0; rest = is_partial-front t u j.rest })

pub later_is_new : (t u : List ℤ) (x : ℕ) → IsTrue (is_partial (t ++ u)) → IsTrue (has_var u x) → has_var t x ≡ false
later_is_new [] u x p h = refl
later_is_new (l ∷ t) u x p h =
    let j = joined l (t ++ u) p in
    neither (var_of l == x) (has_var t x) (false_from_ne_true (var_of l == x) (λ e.
    let later : IsTrue (has_var u (var_of l)) = subst (λ (n : ℕ). IsTrue (has_var u n)) (sym (eqb-true (var_of l) x e)) h in
    both_ways (has_var (t ++ u) (var_of l)) j.new (has_var-append t u (var_of l) ∙ or_right (has_var t (var_of l)) (has_var u (var_of l)) later))) (later_is_new t u x j.rest h)

pub is_partial-take : (k : ℕ) (t : List ℤ) → IsTrue (is_partial t) → IsTrue (is_partial (take k t))
is_partial-take k t p = is_partial-front (take k t) (drop k t) (subst (λ (u : List ℤ). IsTrue (is_partial u)) (sym (take-append-drop k t)) p)

-- ---- the values of literals

yes_no : Yes ≡ No → ⊥
yes_no e = cc

yes_unset : Yes ≡ Unset → ⊥
yes_unset e = cc

no_unset : No ≡ Unset → ⊥
no_unset e = cc

pub true_from_yes : (t : List ℤ) (l : ℤ) → value_by t l ≡ Yes → IsTrue (is_true_in t l)
true_from_yes t l e = by_both (is_true_in t l) (is_false_in t l) e
  where
    by_both : (a b : Bool) → (if a then Yes else if b then No else Unset) ≡ Yes → IsTrue a
    by_both true b e = refl
    by_both false true e = absurd (yes_no (sym e))
    by_both false false e = absurd (yes_unset (sym e))

pub false_from_no : (t : List ℤ) (l : ℤ) → value_by t l ≡ No → IsTrue (is_false_in t l)
false_from_no t l e = by_both (is_true_in t l) (is_false_in t l) e
  where
    by_both : (a b : Bool) → (if a then Yes else if b then No else Unset) ≡ No → IsTrue b
    by_both true b e = absurd (yes_no e)
    by_both false true e = refl
    by_both false false e = absurd (no_unset (sym e))

pub open_from_unset : (t : List ℤ) (l : ℤ) → value_by t l ≡ Unset → IsTrue (is_open_in t l)
open_from_unset t l e = by_both (is_true_in t l) (is_false_in t l) e
  where
    by_both : (a b : Bool) → (if a then Yes else if b then No else Unset) ≡ Unset → IsTrue (not a && not b)
    by_both true b e = absurd (yes_unset e)
    by_both false true e = absurd (no_unset e)
    by_both false false e = refl

pub yes_from_true : (t : List ℤ) (l : ℤ) → IsTrue (is_true_in t l) → value_by t l ≡ Yes
yes_from_true t l h = rw h refl

pub no_from_false : (t : List ℤ) (l : ℤ) → IsTrue (is_partial t) → IsTrue (is_false_in t l) → value_by t l ≡ No
no_from_false t l p h = rw (false_not_true t l p h, h) refl

pub unset_from_open : (t : List ℤ) (l : ℤ) → IsTrue (is_open_in t l) → value_by t l ≡ Unset
unset_from_open t l h =
    let a = and_parts (not (is_true_in t l)) (not (is_false_in t l)) h in
    rw (not-true (is_true_in t l) a.0, not-true (is_false_in t l) a.1) refl

-- ---- how many literals there are

apart : (x : ℕ) (t : List ℤ) → has_var t x ≡ false → AllByRecursion (λ (y : ℕ). eqb x y ≡ false) (map var_of t)
apart x [] h = tt
apart x (l ∷ t) h =
    let s = or_parts (var_of l == x) (has_var t x) h in
    (false_from_ne_true (eqb x (var_of l)) (λ e. both_ways (var_of l == x) s.0 (eq-eqb (var_of l) x (sym (eqb-true x (var_of l) e)))), apart x t s.1)

-- their variables are different
pub distinct_vars : (t : List ℤ) → IsTrue (is_partial t) → IsDistinct eqb (map var_of t)
unfolding IsDistinct
distinct_vars [] p = tt
distinct_vars (l ∷ t) p = let j = joined l t p in (apart (var_of l) t j.new, distinct_vars t j.rest)

no_zero : (t : List ℤ) → IsTrue (is_partial t) → has_var t 0 ≡ false
no_zero [] p = refl
no_zero (l ∷ t) p = let j = joined l t p in neither (var_of l == 0) (has_var t 0) (false_from_ne_true (var_of l == 0) (λ e. absurd (let z : var_of l ≡ 0 = eqb-true (var_of l) 0 e in let low : 1 ≤ var_of l = leb-true 1 (var_of l) j.lit in omega (arith, z, low)))) (no_zero t j.rest)

vars_below : (vars : ℕ) (t : List ℤ) → All (IsLitWithin vars) t → (x : ℕ) → list_any (eqb x) (map var_of t) ≡ true → x < vars + 1
vars_below vars [] h x e = absurd cc
vars_below vars (l ∷ t) h x e =
    elim (or_cases (eqb x (var_of l)) (list_any (eqb x) (map var_of t)) e) [
      | inl here ↦ let low : var_of l ≤ vars = (All-head (IsLitWithin vars) l t h).1 in omega (arith, eqb-true x (var_of l) here, low)
      | inr later ↦ vars_below vars t (All-tail (IsLitWithin vars) l t h) x later
    ]

-- a partial assignment over the variables 1 to `vars` has at most so many literals
pub few_literals : (vars : ℕ) (t : List ℤ) → IsTrue (is_partial t) → All (IsLitWithin vars) t → length t ≤ vars
few_literals vars t p h =
    let below : (x : ℕ) → list_any (eqb x) (0 ∷ map var_of t) ≡ true → x < vars + 1 = λ x e. (elim (or_cases (eqb x 0) (list_any (eqb x) (map var_of t)) e) [
      | inl here ↦ omega (arith, eqb-true x 0 here)
      | inr later ↦ vars_below vars t h x later
    ]) in
    let few : length (0 ∷ map var_of t) ≤ vars + 1 = length-le_from_distinct_below (0 ∷ map var_of t) (vars + 1) (IsDistinct-cons eqb 0 (map var_of t) (apart 0 t (no_zero t p)) (distinct_vars t p)) below in
    omega (arith, few, length-map t var_of)
