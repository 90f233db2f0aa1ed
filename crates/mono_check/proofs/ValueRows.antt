-- The numbers of `v` lines: literals, one over each variable, and the ending 0.
use Rattle.std.proofs.Common.{◌≡◌, ℕ, zero, suc, ◌+◌, ◌-◌, ◌<◌, ◌≤◌, eqb, ◌⊎◌, Bool, true, false, not, ◌&&◌, ◌||◌, ◌==◌, cond, List, [], ◌∷◌, ◌++◌, take, length, map, refl, sym, ap, ◌∙◌, inl, inr, ℤ, pos, append-nil, length-append, arith}
use Rattle.std.specs.Prelude.{IsTrue, nat_le}
use Rattle.std.specs.List.{list_any}
use Rattle.std.proofs.lemmas.Bool.{and_parts, and_from, or_cases, or_parts, or_left, or_right, cases_Bool, eq-eqb, eqb-true, le-leb, leb-true, true_from_ne_false, false_from_ne_true}
use Rattle.std.proofs.lemmas.List.{length-map}
use Rattle.std.proofs.lemmas.List.Elements.{All-cons, filter-append}
use Rattle.std.proofs.lemmas.List.Folds.{list_any-append, list_all-append}
use Rattle.std.proofs.lemmas.Map.Steps.{le-length_from_below}
use Rattle.std.proofs.Math.Seq.{take-append_seam}
use Rattle.mono_base.specs.Literal.{var_of, IsLitWithin}
use Rattle.mono_base.specs.Partial.{has_var, is_partial}
use Rattle.mono_base.proofs.Truth.{same_lit}
use Rattle.mono_base.proofs.Partials.{join, is_partial-front, few_literals}
use Rattle.mono_problem.specs.Instance.{Instance}
use Rattle.mono_steps.specs.ChainSteps.{names_vars}
use Rattle.mono_check.specs.Values.{are_values, is_end, literals_among, has_end, goes_on}
use Rattle.mono_check.specs.Answers.{AreValues}
use Rattle.mono_check.proofs.Literals.{is_known}
use Rattle.mono_steps.proofs.StepVars.{vars_within}

-- ---- one literal over each variable

-- as many different ones as there are variables leave none out
pub one_each : (p : Instance) (lits : List ℤ) → IsTrue (are_values p lits) → p.vars ≤ length lits → AreValues p lits
one_each p lits h long =
    let a = and_parts (names_vars p lits) (is_partial lits) h in
    record {
      known = a.0;
      once = a.1;
      each = λ x low high. true_from_ne_false (has_var lits x) (λ none.
          let more : IsTrue (is_partial (pos x ∷ lits)) = join (pos x) lits (record { lit = le-leb 1 x low; new = none; rest = a.1 }) in
          let few : length (pos x ∷ lits) ≤ p.vars = few_literals p.vars (pos x ∷ lits) more (All-cons (IsLitWithin p.vars) (pos x) lits (low, high) (vars_within p lits a.0)) in
          omega (arith, few, long));
    }

listed : (t : List ℤ) (x : ℕ) → IsTrue (has_var t x) → IsTrue (list_any (eqb x) (map var_of t))
listed [] x h = absurd cc
listed (l ∷ t) x h = elim (or_cases (var_of l == x) (has_var t x) h) [
  | inl here ↦ or_left (eqb x (var_of l)) (list_any (eqb x) (map var_of t)) (eq-eqb x (var_of l) (sym (eqb-true (var_of l) x here)))
  | inr later ↦ or_right (eqb x (var_of l)) (list_any (eqb x) (map var_of t)) (listed t x later)
]

pub enough : (p : Instance) (lits : List ℤ) → AreValues p lits → p.vars ≤ length lits
enough p lits v =
    let many : p.vars + 1 ≤ length (0 ∷ map var_of lits) = le-length_from_below (0 ∷ map var_of lits) (p.vars + 1) by_number in
    omega (arith, many, length-map lits var_of)
  where
    by_number : (q : ℕ) → q < p.vars + 1 → list_any (eqb q) (0 ∷ map var_of lits) ≡ true
    by_number zero lt = refl
    by_number (suc q) lt = or_right (eqb (suc q) 0) (list_any (eqb (suc q)) (map var_of lits)) (listed lits (suc q) (v.each (suc q) (omega arith) (omega arith)))

pub as_test : (p : Instance) (lits : List ℤ) → AreValues p lits → IsTrue (are_values p lits)
as_test p lits v = and_from (names_vars p lits) (is_partial lits) v.known v.once

-- the front of values
pub values-front : (p : Instance) (t u : List ℤ) → IsTrue (are_values p (t ++ u)) → IsTrue (are_values p t)
values-front p t u h =
    let a = and_parts (names_vars p (t ++ u)) (is_partial (t ++ u)) h in
    let names : IsTrue (names_vars p t && names_vars p u) = sym (list_all-append (is_known p) t u) ∙ a.0 in
    and_from (names_vars p t) (is_partial t) (and_parts (names_vars p t) (names_vars p u) names).0 (is_partial-front t u a.1)

-- none of the literals is a 0
pub no_end : (p : Instance) (lits : List ℤ) → IsTrue (names_vars p lits) → has_end lits ≡ false
no_end p [] h = refl
no_end p (l ∷ lits) h =
    let a = and_parts (is_known p l) (names_vars p lits) h in
    neither (is_end l) (has_end lits) (by_lit l a.0) (no_end p lits a.1)
  where
    by_lit : (m : ℤ) → IsTrue (is_known p m) → is_end m ≡ false
    by_lit m k = false_from_ne_true (is_end m) (λ e. absurd (
        let zero-var : var_of m ≡ 0 = ap var_of (same_lit m (pos 0) e) in
        let low : 1 ≤ var_of m = leb-true 1 (var_of m) (and_parts (nat_le 1 (var_of m)) (nat_le (var_of m) p.vars) k).0 in
        omega (arith, zero-var, low)))

    neither : (a b : Bool) → a ≡ false → b ≡ false → (a || b) ≡ false
    neither true b e f = e
    neither false b e f = f

-- ---- the numbers of one line

pub none_among : (zs : List ℤ) → has_end zs ≡ false → literals_among zs ≡ zs
none_among [] h = refl
none_among (z ∷ zs) h =
    let s = or_parts (is_end z) (has_end zs) h in
    ap (λ (e : Bool). cond (not e) (z ∷ literals_among zs) (literals_among zs)) s.0 ∙ ap (λ (ys : List ℤ). z ∷ ys) (none_among zs s.1)

-- literals alone, or literals and the ending 0
pub record IsOpenRow (zs : List ℤ) : Type 0 where
  pub none : has_end zs ≡ false
  pub same : literals_among zs ≡ zs

pub record IsLastRow (zs : List ℤ) : Type 0 where
  pub lits : List ℤ
  pub is : zs ≡ lits ++ pos 0 ∷ []
  pub end : has_end zs ≡ true
  pub same : literals_among zs ≡ lits

goes_on-cons : (z y : ℤ) (ys : List ℤ) → goes_on (z ∷ y ∷ ys) ≡ (is_end z || goes_on (y ∷ ys))
goes_on-cons z y ys = let e : length (z ∷ y ∷ ys) - 1 ≡ suc (length (y ∷ ys) - 1) = omega arith in ap (λ (n : ℕ). has_end (take n (z ∷ y ∷ ys))) e

pub row_shape : (zs : List ℤ) → goes_on zs ≡ false → IsOpenRow zs ⊎ IsLastRow zs
row_shape [] h = inl (record { none = refl; same = refl })
row_shape (z ∷ []) h = elim (cases_Bool (is_end z)) [
  | inl on ↦ inr (record {
    lits = [];
    is = ap (λ (w : ℤ). w ∷ []) (same_lit z (pos 0) on);
    end = or_left (is_end z) false on;
    same = ap (λ (e : Bool). cond (not e) (z ∷ []) []) on;
  })
  | inr off ↦ inl (record {
    none = ap (λ (e : Bool). e || false) off;
    same = ap (λ (e : Bool). cond (not e) (z ∷ []) []) off;
  })
]
row_shape (z ∷ y ∷ ys) h =
    let s = or_parts (is_end z) (goes_on (y ∷ ys)) (sym (goes_on-cons z y ys) ∙ h) in
    let keeps : literals_among (z ∷ y ∷ ys) ≡ z ∷ literals_among (y ∷ ys) = ap (λ (e : Bool). cond (not e) (z ∷ literals_among (y ∷ ys)) (literals_among (y ∷ ys))) s.0 in
    elim (row_shape (y ∷ ys) s.1) [
      | inl o ↦ inl (record {
        none = ap (λ (e : Bool). e || has_end (y ∷ ys)) s.0 ∙ o.none;
        same = keeps ∙ ap (λ (ws : List ℤ). z ∷ ws) o.same;
      })
      | inr l ↦ inr (record {
        lits = z ∷ l.lits;
        is = ap (λ (ws : List ℤ). z ∷ ws) l.is;
        end = or_right (is_end z) (has_end (y ∷ ys)) l.end;
        same = keeps ∙ ap (λ (ws : List ℤ). z ∷ ws) l.same;
      })
    ]

-- literals alone don't go on behind a 0
pub open_stops : (zs : List ℤ) → has_end zs ≡ false → goes_on zs ≡ false
open_stops [] h = refl
open_stops (z ∷ []) h = refl
open_stops (z ∷ y ∷ ys) h =
    let s = or_parts (is_end z) (has_end (y ∷ ys)) h in
    goes_on-cons z y ys ∙ (ap (λ (e : Bool). e || goes_on (y ∷ ys)) s.0 ∙ open_stops (y ∷ ys) s.1)

-- literals and the ending 0 neither
pub last_ends : (lits : List ℤ) → has_end (lits ++ pos 0 ∷ []) ≡ true
last_ends lits = list_any-append is_end lits (pos 0 ∷ []) ∙ or_right (has_end lits) true refl

pub last_among : (lits : List ℤ) → has_end lits ≡ false → literals_among (lits ++ pos 0 ∷ []) ≡ lits
last_among lits none = filter-append (λ z. not (is_end z)) lits (pos 0 ∷ []) ∙ (append-nil (literals_among lits) ∙ none_among lits none)

pub last_stops : (lits : List ℤ) → has_end lits ≡ false → goes_on (lits ++ pos 0 ∷ []) ≡ false
last_stops lits none =
    let e : length (lits ++ pos 0 ∷ []) - 1 ≡ length lits = omega (arith, length-append lits (pos 0 ∷ [])) in
    ap (λ (n : ℕ). has_end (take n (lits ++ pos 0 ∷ []))) e ∙ (ap has_end (take-append_seam lits (pos 0 ∷ [])) ∙ none)

-- ---- lines joined

-- the first line has literals alone, or all of them and the ending 0
pub record IsFront (zs rest lits : List ℤ) : Type 0 where
  pub more : List ℤ
  pub lits_are : lits ≡ zs ++ more
  pub rest_is : rest ≡ more ++ pos 0 ∷ []

pub record IsWhole (zs rest lits : List ℤ) : Type 0 where
  pub row : zs ≡ lits ++ pos 0 ∷ []
  pub rest_is : rest ≡ []

pub split_row : (zs rest lits : List ℤ) → zs ++ rest ≡ lits ++ pos 0 ∷ [] → IsFront zs rest lits ⊎ IsWhole zs rest lits
split_row [] rest lits h = inl (record { more = lits; lits_are = refl; rest_is = h })
split_row (z ∷ zs) rest [] h =
    let head : z ≡ pos 0 = cc in
    let tail : zs ++ rest ≡ [] = cc in
    inr (both zs head tail)
  where
    both : (ys : List ℤ) → z ≡ pos 0 → ys ++ rest ≡ [] → IsWhole (z ∷ ys) rest []
    both [] e t = record { row = ap (λ (w : ℤ). w ∷ []) e; rest_is = t }
    both (y ∷ ys) e t = absurd cc
split_row (z ∷ zs) rest (l ∷ lits) h =
    let head : z ≡ l = cc in
    let tail : zs ++ rest ≡ lits ++ pos 0 ∷ [] = cc in
    elim (split_row zs rest lits tail) [
      | inl f ↦ inl (record { more = f.more; lits_are = ap (λ (w : ℤ). w ∷ lits) (sym head) ∙ ap (λ (ws : List ℤ). z ∷ ws) f.lits_are; rest_is = f.rest_is })
      | inr w ↦ inr (record { row = ap (λ (ws : List ℤ). z ∷ ws) w.row ∙ ap (λ (v : ℤ). v ∷ (lits ++ pos 0 ∷ [])) head; rest_is = w.rest_is })
    ]
