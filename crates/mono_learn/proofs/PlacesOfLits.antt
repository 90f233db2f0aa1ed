-- Literals and their places on a trail.
use Rattle.std.proofs.Common.{◌≡◌, ℕ, zero, suc, ◌+◌, ◌<◌, ◌≤◌, Bool, false, cond, eqb, eq-eqb, List, [], ◌∷◌, length, take, refl, sym, ap, subst, ◌∙◌, ◌⊎◌, inl, inr, ℤ, pos, neg_ℤ, arith}
use Rattle.std.specs.Prelude.{IsTrue, Option, Some, option_map}
use Rattle.std.specs.Ordering.{int_eq}
use Rattle.std.proofs.lemmas.Bool.{both_ways, or_cases, le-leb}
use Rattle.std.proofs.lemmas.Bool.Decides.{eqb_tells}
use Rattle.std.proofs.lemmas.Option.{same_Some}
use Rattle.std.proofs.lemmas.List.{get_or-take, length-take}
use Rattle.mono_base.specs.Literal.{var_of, is_lit, has_lit, without, lit_at}
use Rattle.mono_base.specs.Partial.{has_var, is_partial, is_false_in}
use Rattle.mono_base.proofs.Truth.{same_lit, at_each}
use Rattle.mono_base.proofs.Partials.{joined, var-neg, not_own_negation}
use Rattle.mono_problem.specs.Instance.{numbered}
use Rattle.mono_trail.specs.declared.reason.Reason.{Reason}
use Rattle.mono_trail.specs.Places.{place_in, reason_at}
use Rattle.mono_trail.specs.TrailView.{TrailView, IsSoundTrail}
use Rattle.mono_learn.specs.Reasons.{WasUnit, IsFalseClause}
use Rattle.mono_learn.specs.Resolvents.{FalseBy, AllFalse}
use Rattle.mono_trail.proofs.Places.{has_var_at}
use Rattle.mono_learn.proofs.LitSets.{has-without, has_at}

off_head : (x : ℤ) (t : List ℤ) (k : ℕ) → has_var t (var_of x) ≡ false → k < length t → eqb (var_of x) (var_of (lit_at t k)) ≡ false
off_head x t k new lt = elim (eqb_tells (var_of x) (var_of (lit_at t k))) [
  | inl same ↦ absurd (both_ways (has_var t (var_of x)) new (subst (λ (v : ℕ). IsTrue (has_var t v)) (sym same.1) (has_var_at t k lt)))
  | inr other ↦ other.0
]

-- the place of what stands at a place
pub place_in_at : (t : List ℤ) (k : ℕ) → IsTrue (is_partial t) → k < length t → place_in t (var_of (lit_at t k)) ≡ Some k
place_in_at [] k p lt = absurd (omega (arith, lt))
place_in_at (x ∷ t) zero p lt = ap (λ (b : Bool). cond b (Some 0) (option_map (λ j. j + 1) (place_in t (var_of x)))) (eq-eqb (var_of x) (var_of x) refl)
place_in_at (x ∷ t) (suc k) p lt =
    let j = joined x t p in
    let off : eqb (var_of x) (var_of (lit_at t k)) ≡ false = off_head x t k j.new (omega (arith, lt)) in
    let ih : place_in t (var_of (lit_at t k)) ≡ Some k = place_in_at t k j.rest (omega (arith, lt)) in
    let up : k + 1 ≡ suc k = omega arith in
    ap (λ (b : Bool). cond b (Some 0) (option_map (λ i. i + 1) (place_in t (var_of (lit_at t k))))) off ∙ ap (option_map (λ i. i + 1)) ih ∙ ap Some up

-- each variable has one place
pub one_place : (t : List ℤ) (j k : ℕ) → IsTrue (is_partial t) → j < length t → k < length t → var_of (lit_at t j) ≡ var_of (lit_at t k) → j ≡ k
one_place t j k p lj lk e = same_Some j k (sym (place_in_at t j p lj) ∙ ap (place_in t) e ∙ place_in_at t k p lk)

-- the place of a false literal's variable
pub place_of_false : (t : List ℤ) (n : ℕ) (l : ℤ) → IsTrue (is_partial t) → (f : FalseBy t n l) → place_in t (var_of l) ≡ Some f.place
place_of_false t n l p f = ap (place_in t) (sym (var-neg l) ∙ ap var_of (sym f.there)) ∙ place_in_at t f.place p f.within

-- the reason of the literal that was read at a place
pub reason_read : (t : TrailView) (k v : ℕ) (x : ℤ) (o : Option Reason) → IsSoundTrail t → k < length t.lits → x ≡ lit_at t.lits k → v ≡ var_of x → o ≡ option_map (reason_at t.marks) (place_in t.lits v) → o ≡ Some (reason_at t.marks k)
reason_read t k v x o s lt ex ev e = e ∙ ap (λ (w : ℕ). option_map (reason_at t.marks) (place_in t.lits w)) (ev ∙ ap var_of ex) ∙ ap (option_map (reason_at t.marks)) (place_in_at t.lits k s.partial lt)

-- a trail's literals have variables
pub is_var_at : (t : TrailView) (k : ℕ) → IsSoundTrail t → k < length t.lits → (1 ≤ var_of (lit_at t.lits k)) × (var_of (lit_at t.lits k) ≤ t.vars)
is_var_at t k s lt = let w = s.within k (pos 0) lt in (omega (arith, w.0), w.1)

pub is_var_false : (t : TrailView) (n : ℕ) (l : ℤ) → IsSoundTrail t → FalseBy t.lits n l → (1 ≤ var_of l) × (var_of l ≤ t.vars)
is_var_false t n l s f =
    let same : var_of (lit_at t.lits f.place) ≡ var_of l = ap var_of f.there ∙ var-neg l in
    let r = is_var_at t f.place s f.within in
    (omega (arith, same, r.0), omega (arith, same, r.1))

pub is_literal : (l : ℤ) → 1 ≤ var_of l → IsTrue (is_lit l)
is_literal l h = le-leb 1 (var_of l) h

-- a literal and its negation do not both stand there
pub no_opposites : (t : TrailView) (j k : ℕ) (l : ℤ) → IsSoundTrail t → j < length t.lits → k < length t.lits → lit_at t.lits j ≡ l → lit_at t.lits k ≡ neg_ℤ l → ⊥
no_opposites t j k l s lj lk ej ek =
    let same : j ≡ k = one_place t.lits j k s.partial lj lk (ap var_of ej ∙ sym (var-neg l) ∙ ap var_of (sym ek)) in
    let v = is_var_at t j s lj in
    not_own_negation l (is_literal l (subst (λ (m : ℤ). 1 ≤ var_of m) ej v.0)) (sym ej ∙ ap (lit_at t.lits) same ∙ ek)

-- ---- the same in the words of partial assignments

-- a literal of a list stands at one of its places
pub record Stands (t : List ℤ) (l : ℤ) : Type 0 where
  pub place : ℕ
  pub within : place < length t
  pub there : lit_at t place ≡ l

pub has_stands : (t : List ℤ) (l : ℤ) → IsTrue (has_lit t l) → Stands t l
has_stands [] l h = absurd cc
has_stands (x ∷ t) l h = by_head (or_cases (int_eq l x) (has_lit t l) h) (λ k. has_stands t l k)
  where
    by_head : IsTrue (int_eq l x) ⊎ IsTrue (has_lit t l) → (IsTrue (has_lit t l) → Stands t l) → Stands (x ∷ t) l
    by_head (inl e) later = record { place = 0; within = omega arith; there = sym (same_lit l x e) }
    by_head (inr k) later = let s = later k in record { place = suc s.place; within = omega (arith, s.within); there = s.there }

pub stands_has : (t : List ℤ) (l : ℤ) → Stands t l → IsTrue (has_lit t l)
stands_has t l s = subst (λ (m : ℤ). IsTrue (has_lit t m)) s.there (has_at t s.place (pos 0) s.within)

pub false_before : (t : List ℤ) (n : ℕ) (l : ℤ) → IsTrue (is_false_in (take n t) l) → FalseBy t n l
false_before t n l h =
    let s = has_stands (take n t) (neg_ℤ l) h in
    let len = length-take n t in
    let low : s.place < n = omega (arith, s.within, len) in
    record { place = s.place; below = low; within = omega (arith, s.within, len); there = sym (get_or-take n t s.place (pos 0) low) ∙ s.there }

pub false_now : (t : List ℤ) (l : ℤ) → IsTrue (is_false_in t l) → FalseBy t (length t) l
false_now t l h = let s = has_stands t (neg_ℤ l) h in record { place = s.place; below = s.within; within = s.within; there = s.there }

pub is_false : (t : List ℤ) (n : ℕ) (l : ℤ) → FalseBy t n l → IsTrue (is_false_in t l)
is_false t n l f = stands_has t (neg_ℤ l) (record { place = f.place; within = f.within; there = f.there })

-- ---- clauses that have a number

pub record IsNumberOf (cs : List (List ℤ)) (n : ℕ) : Type 0 where
  pub low : 1 ≤ n
  pub high : n ≤ length cs

pub is_number : (cs : List (List ℤ)) (n : ℕ) (c : List ℤ) → numbered cs n ≡ Some c → IsNumberOf cs n
is_number cs zero c e = absurd cc
is_number [] (suc n) c e = absurd cc
is_number (d ∷ cs) (suc zero) c e = record { low = omega arith; high = omega arith }
is_number (d ∷ cs) (suc (suc n)) c e = let i = is_number cs (suc n) c e in record { low = omega arith; high = omega (arith, i.high) }

pub unit_number : (cs : List (List ℤ)) (t : List ℤ) (k n : ℕ) → WasUnit cs t k n → IsNumberOf cs n
unit_number cs t k n w = is_number cs n w.clause w.is

-- the other literals of a reason
pub reason_others : (cs : List (List ℤ)) (t : List ℤ) (k n : ℕ) (w : WasUnit cs t k n) (l : ℤ) → IsTrue (has_lit w.clause l) → (l ≡ lit_at t k → ⊥) → FalseBy t k l
reason_others cs t k n w l h d = false_before t k l (at_each (is_false_in (take k t)) (without w.clause (lit_at t k)) w.others l (has-without w.clause (lit_at t k) l d h))

pub clause_false : (cs : List (List ℤ)) (t : List ℤ) (n : ℕ) (w : IsFalseClause cs t n) → AllFalse t (length t) w.clause
clause_false cs t n w = record { are = λ l h. false_now t l (at_each (is_false_in t) w.clause w.is_false l h) }
