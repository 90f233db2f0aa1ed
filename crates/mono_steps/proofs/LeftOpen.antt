-- What a new clause is like: a partial assignment leaves it open in one literal, and every clause known is quiet.
use Rattle.std.proofs.Common.{◌≡◌, ◌<◌, ◌≤◌, ◌+◌, ◌-◌, ℕ, Bool, false, not, ◌&&◌, ◌==◌, List, [], ◌∷◌, ◌++◌, take, drop, length, get_or, filter, sym, ap, subst, ◌∙◌, inl, inr, ℤ, pos, arith, Option, Some}
use Rattle.std.specs.Prelude.{IsTrue, neg_ℤ, nat_le, unwrap_or}
use Rattle.std.specs.Ordering.{int_eq}
use Rattle.std.specs.List.{list_any}
use Rattle.std.proofs.lemmas.Bool.{and_parts, or_cases, not-true, both_ways, cases_Bool, ne_eqb}
use Rattle.std.proofs.lemmas.Bool.Decides.{Decides-int_eq}
use Rattle.std.proofs.lemmas.List.{get_or-drop, length-drop, take-append-drop}
use Rattle.std.proofs.lemmas.List.Folds.{list_any_at}
use mathlib.Core.Logic.{◌⊎◌}
use Rattle.mono_base.specs.Literal.{is_lit, has_lit, var_of, within, without, has_opposites, lit_at}
use Rattle.mono_base.specs.Partial.{is_partial, is_true_in, is_false_in, is_open_in, others_false, has_two, is_quiet, unit_quiet}
use Rattle.mono_base.proofs.Truth.{same_lit, lit_itself, at_each, from_each}
use Rattle.mono_base.proofs.Partials.{neg-neg, var-neg, not_own_negation, one_sign, has_var_of, joined, is_partial-take, later_is_new, new_is_open}
use Rattle.mono_steps.specs.declared.step.Chain.{Chain}
use Rattle.mono_steps.specs.Chains.{chain_end}
use Rattle.mono_steps.specs.ChainSteps.{clauses_named}
use Rattle.mono_steps.specs.New.{IsExactEnd, IsNewClause}
use Rattle.mono_steps.proofs.LitTests.{found, none_found, has-filter, no_two}
use Rattle.mono_steps.proofs.Sets.{has-without, within-has}

-- every other literal of the clause is false
pub others_are_false : (t c : List ℤ) (l m : ℤ) → IsTrue (others_false t c l) → IsTrue (has_lit c m) → (m ≡ l) ⊎ IsTrue (is_false_in t m)
others_are_false t c l m h k = elim (cases_Bool (int_eq l m)) [
  | inl same ↦ inl (sym (same_lit l m same))
  | inr other ↦ inr (at_each (is_false_in t) (without c l) h m (has-without c l m ∙ ap (λ (b : Bool). not b && has_lit c m) other ∙ k))
]

pub others_from_each : (t c : List ℤ) (l : ℤ) → ((m : ℤ) → IsTrue (has_lit c m) → (m ≡ l → ⊥) → IsTrue (is_false_in t m)) → IsTrue (others_false t c l)
others_from_each t c l h = from_each (is_false_in t) (without c l) (λ m k.
    let a = and_parts (not (int_eq l m)) (has_lit c m) (sym (has-without c l m) ∙ k) in
    h m a.1 (λ e. both_ways (int_eq l m) (not-true (int_eq l m) a.0) ((Decides-int_eq l m).1 (sym e))))

-- an open literal is neither true nor false
pub open_not_true : (t : List ℤ) (l : ℤ) → IsTrue (is_open_in t l) → IsTrue (is_true_in t l) → ⊥
open_not_true t l o h = both_ways (is_true_in t l) (not-true (is_true_in t l) (and_parts (not (is_true_in t l)) (not (is_false_in t l)) o).0) h

pub open_not_false : (t : List ℤ) (l : ℤ) → IsTrue (is_open_in t l) → IsTrue (is_false_in t l) → ⊥
open_not_false t l o h = both_ways (is_false_in t l) (not-true (is_false_in t l) (and_parts (not (is_true_in t l)) (not (is_false_in t l)) o).1) h

-- ---- a new clause

module _ (known : List (List ℤ)) (c : List ℤ) (new : IsNewClause known c) where
  is_other : (m : ℤ) → IsTrue (has_lit c m) → (m ≡ new.lit) ⊎ IsTrue (is_false_in new.under m)
  is_other m h = others_are_false new.under c new.lit m new.others h

  -- it has a literal
  pub not_empty : (length c == 0) ≡ false
  not_empty = has_some c new.lit new.has
    where
      has_some : (d : List ℤ) (l : ℤ) → IsTrue (has_lit d l) → (length d == 0) ≡ false
      has_some [] l h = absurd cc
      has_some (m ∷ d) l h = ne_eqb (length (m ∷ d)) 0 (λ e. omega arith)

  -- it doesn't have a literal and its negation
  one_sign_each : (m : ℤ) → IsTrue (has_lit c m) → IsTrue (has_lit c (neg_ℤ m)) → ⊥
  one_sign_each m h k =
      let back : IsTrue (is_false_in new.under (neg_ℤ m)) → IsTrue (is_true_in new.under m) = λ e. subst (λ (x : ℤ). IsTrue (has_lit new.under x)) (neg-neg m) e in
      elim (is_other m h) [
        | inl here ↦ elim (is_other (neg_ℤ m) k) [
          | inl there ↦ not_own_negation m (subst (λ (x : ℤ). IsTrue (is_lit x)) (sym here) new.is_literal) (here ∙ sym there)
          | inr off ↦ open_not_true new.under new.lit new.is_open (subst (λ (x : ℤ). IsTrue (has_lit new.under x)) here (back off))
        ]
        | inr on ↦ elim (is_other (neg_ℤ m) k) [
          | inl there ↦ open_not_true new.under new.lit new.is_open (subst (λ (x : ℤ). IsTrue (has_lit new.under x)) there on)
          | inr off ↦ one_sign new.under m new.partial (back off) on
        ]
      ]

  pub no_opposites : has_opposites c ≡ false
  no_opposites = none_found (λ m. has_lit c (neg_ℤ m)) c one_sign_each

  -- none of its literals is true, and only one is open
  never_true : (m : ℤ) → IsTrue (has_lit c m) → IsTrue (is_true_in new.under m) → ⊥
  never_true m h k = elim (is_other m h) [
    | inl here ↦ open_not_true new.under new.lit new.is_open (subst (λ (x : ℤ). IsTrue (has_lit new.under x)) here k)
    | inr off ↦ one_sign new.under m new.partial k off
  ]

  open_is : (m : ℤ) → IsTrue (has_lit c m) → IsTrue (is_open_in new.under m) → m ≡ new.lit
  open_is m h o = elim (is_other m h) [
    | inl here ↦ here
    | inr off ↦ absurd (open_not_false new.under m o off)
  ]

  -- so it contains no quiet clause
  pub contains_no_quiet : (d : List ℤ) → IsTrue (is_quiet new.under d) → IsTrue (within d c) → ⊥
  contains_no_quiet d q w =
      elim (or_cases (list_any (is_true_in new.under) d) (has_two (filter (is_open_in new.under) d)) q) [
        | inl some ↦ let f = found (is_true_in new.under) d some in never_true f.lit (within-has d c f.lit w f.has) f.passes
        | inr two ↦ both_ways (has_two (filter (is_open_in new.under) d)) (no_two (filter (is_open_in new.under) d) new.lit (λ m k.
            let a = and_parts (is_open_in new.under m) (has_lit d m) (sym (has-filter (is_open_in new.under) d m) ∙ k) in
            open_is m (within-has d c m w a.1) a.0)) two
      ]

-- ---- what a search learns

pub has_at : (t : List ℤ) (k : ℕ) → k < length t → IsTrue (has_lit t (lit_at t k))
has_at t k low = list_any_at (int_eq (lit_at t k)) t k (pos 0) low (lit_itself (lit_at t k))

-- what stands from a place on is behind the front up to it
has_behind : (t : List ℤ) (n k : ℕ) → n ≤ k → k < length t → IsTrue (has_lit (drop n t) (lit_at t k))
has_behind t n k behind low =
    let same : n + (k - n) ≡ k = omega (arith, behind) in
    let at : get_or (drop n t) (k - n) (pos 0) ≡ lit_at t k = get_or-drop n t (k - n) (pos 0) ∙ ap (λ (i : ℕ). lit_at t i) same in
    subst (λ (l : ℤ). IsTrue (has_lit (drop n t) l)) at (has_at (drop n t) (k - n) (omega (arith, behind, low, length-drop n t)))

-- a literal of a partial assignment is one
pub is_lit_in : (t : List ℤ) (l : ℤ) → IsTrue (is_partial t) → IsTrue (has_lit t l) → IsTrue (is_lit l)
is_lit_in [] l p h = absurd cc
is_lit_in (m ∷ t) l p h =
    let j = joined m t p in
    elim (or_cases (int_eq l m) (has_lit t l) h) [
      | inl e ↦ subst (λ (x : ℤ). IsTrue (is_lit x)) (sym (same_lit l m e)) j.lit
      | inr e ↦ is_lit_in t l j.rest e
    ]

-- a clause whose literals but one are false before a place, while that one is false from the place on, is new where all is
-- quiet before the place
pub learned_is_new : (known : List (List ℤ)) (t c : List ℤ) (start place : ℕ) → IsTrue (is_partial t) → start ≤ place → place < length t → IsTrue (has_lit c (neg_ℤ (lit_at t place)))
    → ((m : ℤ) → IsTrue (has_lit c m) → (m ≡ neg_ℤ (lit_at t place) → ⊥) → IsTrue (is_false_in (take start t) m)) → IsTrue (unit_quiet known (take start t))
    → IsNewClause known c
learned_is_new known t c start place p behind low has others quiet =
    let l = lit_at t place in
    let parts : IsTrue (is_partial (take start t ++ drop start t)) = subst (λ (u : List ℤ). IsTrue (is_partial u)) (sym (take-append-drop start t)) p in
    let later = later_is_new (take start t) (drop start t) (var_of (neg_ℤ l)) parts (has_var_of (drop start t) l (var_of (neg_ℤ l)) (has_behind t start place behind low) (sym (var-neg l))) in
    record {
      under = take start t;
      partial = is_partial-take start t p;
      quiet = quiet;
      lit = neg_ℤ l;
      is_literal = ap (nat_le 1) (var-neg l) ∙ is_lit_in t l p (has_at t place low);
      has = has;
      is_open = new_is_open (take start t) (neg_ℤ l) later;
      others = others_from_each (take start t) c (neg_ℤ l) others;
    }

-- ---- exact ends

-- a chain that ends in e has exactly the literals of e
pub end_literals : (all : List (List ℤ)) (c : Chain) (e : List ℤ) → IsExactEnd all c → chain_end (clauses_named all c.used) ≡ Some e → (l : ℤ) → has_lit c.clause l ≡ has_lit e l
end_literals all c e x is l = x.same l ∙ ap (λ (o : Option (List ℤ)). has_lit (unwrap_or o []) l) (sym x.is_end ∙ is)
