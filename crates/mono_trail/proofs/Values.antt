-- The table of values by literal, through a literal more and literals dropped.
use Rattle.std.proofs.Common.{◌≡◌, ◌≢◌, ℕ, zero, suc, ◌+◌, ◌*◌, ◌<◌, ◌≤◌, eqb, eq-eqb, Bool, true, false, List, [], ◌∷◌, ◌++◌, length, take, drop, get_or, set, refl, sym, ◌∙◌, ap, subst, arith, ◌⊎◌, inl, inr, ◌||◌}
use Rattle.std.specs.Prelude.{ℤ, pos, neg_ℤ, replicate, IsTrue, All, if◌then◌else◌, ◌==◌}
use Rattle.std.specs.Ordering.{int_eq}
use Rattle.std.proofs.lemmas.Bool.{both_ways, or_cases, or_from, or_left, or_right, or_parts, le-leb}
use Rattle.std.proofs.lemmas.Bool.Decides.{eqb_tells}
use Rattle.std.proofs.lemmas.List.{length-set, length-replicate, get_or-replicate, get_or-set_same, get_or-set_other, get_or_read, take-append-drop}
use Rattle.std.proofs.lemmas.List.Elements.{All-drop, All-weaker}
use Rattle.std.proofs.lemmas.List.Folds.{list_any-append}
use Rattle.mono_base.specs.Literal.{IsLitWithin, has_lit, slot, var_of}
use Rattle.mono_base.specs.Partial.{has_var, is_partial, is_open_in, is_false_in, value_by}
use Rattle.mono_base.specs.declared.value.Value.{Value}
use Rattle.mono_base.specs.declared.value.Value.TheVariants.{Yes, No, Unset}
use Rattle.mono_base.proofs.Partials.{var-neg, neg-neg, same_or_opposite, not_own_negation, has_var_of, open_is_new, new_is_open, later_is_new, yes_from_true, no_from_false, unset_from_open, open_from_unset, is_partial-push}
use Rattle.mono_base.proofs.Sparse.{slot_injective, slot_bound}
use Rattle.mono_base.proofs.Truth.{lit_itself}
use Rattle.mono_trail.specs.Kept.{AreValues, unvalued}
use Rattle.mono_trail.specs.Moves.{IsVar}

pub values_new : (vars : ℕ) → AreValues vars [] (replicate (2 * vars + 2) Unset)
values_new vars = record { slots = length-replicate (2 * vars + 2) Unset; are = λ l h. get_or-replicate (2 * vars + 2) (slot l) Unset Unset (slot_bound l vars h.1) }

-- ---- the slots of a literal and its negation

not_own : (x : ℤ) → 1 ≤ var_of x → x ≡ neg_ℤ x → ⊥
not_own x low e = not_own_negation x (le-leb 1 (var_of x) low) e

pub slots_fit : (vars : ℕ) (lits : List ℤ) (vs : List Value) (l : ℤ) → AreValues vars lits vs → var_of l ≤ vars → (slot l < length vs) × (slot (neg_ℤ l) < length vs)
slots_fit vars lits vs l a h = (omega (arith, a.slots, slot_bound l vars h), omega (arith, a.slots, slot_bound (neg_ℤ l) vars (omega (arith, h, var-neg l))))

abbrev two_set : List Value → ℤ → Value → Value → List Value
two_set vs x a b = set (set vs (slot x) a) (slot (neg_ℤ x)) b

two_set_other : (vs : List Value) (l x : ℤ) (a b : Value) → var_of l ≢ var_of x → get_or (two_set vs x a b) (slot l) Unset ≡ get_or vs (slot l) Unset
two_set_other vs l x a b n =
    get_or-set_other (set vs (slot x) a) (slot (neg_ℤ x)) (slot l) b Unset (λ e. n (ap var_of (slot_injective l (neg_ℤ x) e) ∙ var-neg x))
    ∙ get_or-set_other vs (slot x) (slot l) a Unset (λ e. n (ap var_of (slot_injective l x e)))

two_set_own : (vs : List Value) (x : ℤ) (a b : Value) → 1 ≤ var_of x → slot x < length vs → get_or (two_set vs x a b) (slot x) Unset ≡ a
two_set_own vs x a b low lt =
    get_or-set_other (set vs (slot x) a) (slot (neg_ℤ x)) (slot x) b Unset (λ e. not_own x low (slot_injective x (neg_ℤ x) e))
    ∙ get_or-set_same vs (slot x) a Unset lt

two_set_neg : (vs : List Value) (x : ℤ) (a b : Value) → slot (neg_ℤ x) < length vs → get_or (two_set vs x a b) (slot (neg_ℤ x)) Unset ≡ b
two_set_neg vs x a b lt = get_or-set_same (set vs (slot x) a) (slot (neg_ℤ x)) b Unset (omega (arith, lt, length-set vs (slot x) a))

-- ---- values of literals under a longer list

abbrev value_from : Bool → Bool → Value
value_from a b = if a then Yes else if b then No else Unset

-- literals over other variables change no value
value_by-append : (t u : List ℤ) (l : ℤ) → has_var u (var_of l) ≡ false → value_by (t ++ u) l ≡ value_by t l
value_by-append t u l none = same (has_lit (t ++ u) l) (has_lit t l) (has_lit (t ++ u) (neg_ℤ l)) (has_lit t (neg_ℤ l)) (off l refl) (off (neg_ℤ l) (var-neg l))
  where
    off : (m : ℤ) → var_of m ≡ var_of l → has_lit (t ++ u) m ≡ has_lit t m
    off m e = list_any-append (int_eq m) t u ∙ drop_none (has_lit t m) (has_lit u m) refl
      where
        drop_none : (a b : Bool) → has_lit u m ≡ b → (a || b) ≡ a
        drop_none true b f = refl
        drop_none false false f = refl
        drop_none false true f = absurd (both_ways (has_var u (var_of l)) none (has_var_of u m (var_of l) f e))

    same : (a a' b b' : Bool) → a ≡ a' → b ≡ b' → value_from a b ≡ value_from a' b'
    same a a' b b' e f = rw (e, f) refl

-- ---- a literal joins

has_last : (t : List ℤ) (x : ℤ) → IsTrue (has_lit (t ++ x ∷ []) x)
has_last t x = list_any-append (int_eq x) t (x ∷ []) ∙ or_right (has_lit t x) (has_lit (x ∷ []) x) (or_left (int_eq x x) false (lit_itself x))

pub values_join : (vars : ℕ) (lits : List ℤ) (vs : List Value) (x : ℤ) → AreValues vars lits vs → IsTrue (is_partial lits) → IsLitWithin vars x → IsTrue (is_open_in lits x) → AreValues vars (lits ++ x ∷ []) (set (set vs (slot x) Yes) (slot (neg_ℤ x)) No)
values_join vars lits vs x a p r o = record {
  slots = length-set (set vs (slot x) Yes) (slot (neg_ℤ x)) No ∙ length-set vs (slot x) Yes ∙ a.slots;
  are = λ l h. by_var l h (eqb_tells (var_of x) (var_of l));
}
  where
    fit : (slot x < length vs) × (slot (neg_ℤ x) < length vs)
    fit = slots_fit vars lits vs x a r.1

    longer : IsTrue (is_partial (lits ++ x ∷ []))
    longer = is_partial-push lits x p (le-leb 1 (var_of x) r.0) (open_is_new lits x o)

    is_false : IsTrue (is_false_in (lits ++ x ∷ []) (neg_ℤ x))
    is_false = subst (λ (m : ℤ). IsTrue (has_lit (lits ++ x ∷ []) m)) (sym (neg-neg x)) (has_last lits x)

    by_sign : (l : ℤ) → (l ≡ x) ⊎ (l ≡ neg_ℤ x) → get_or (two_set vs x Yes No) (slot l) Unset ≡ value_by (lits ++ x ∷ []) l
    by_sign l (inl e) = subst (λ (m : ℤ). get_or (two_set vs x Yes No) (slot m) Unset ≡ value_by (lits ++ x ∷ []) m) (sym e)
        (two_set_own vs x Yes No r.0 fit.0 ∙ sym (yes_from_true (lits ++ x ∷ []) x (has_last lits x)))
    by_sign l (inr e) = subst (λ (m : ℤ). get_or (two_set vs x Yes No) (slot m) Unset ≡ value_by (lits ++ x ∷ []) m) (sym e)
        (two_set_neg vs x Yes No fit.1 ∙ sym (no_from_false (lits ++ x ∷ []) (neg_ℤ x) longer is_false))

    by_var : (l : ℤ) → IsLitWithin vars l → ((eqb (var_of x) (var_of l) ≡ true) × (var_of x ≡ var_of l)) ⊎ ((eqb (var_of x) (var_of l) ≡ false) × (var_of x ≢ var_of l)) → get_or (two_set vs x Yes No) (slot l) Unset ≡ value_by (lits ++ x ∷ []) l
    by_var l h (inl same) = by_sign l (same_or_opposite x l (sym same.1))
    by_var l h (inr other) = two_set_other vs l x Yes No (λ e. other.1 (sym e)) ∙ a.are l h ∙ sym (value_by-append lits (x ∷ []) l (or_from (eqb (var_of x) (var_of l)) false other.0 refl))

-- ---- literals are dropped

pub length-unvalued : (t : List ℤ) (vs : List Value) → length (unvalued t vs) ≡ length vs
length-unvalued [] vs = refl
length-unvalued (x ∷ t) vs = length-unvalued t (two_set vs x Unset Unset) ∙ length-set (set vs (slot x) Unset) (slot (neg_ℤ x)) Unset ∙ length-set vs (slot x) Unset

set_unset : (vs : List Value) (i k : ℕ) → get_or vs k Unset ≡ Unset → get_or (set vs i Unset) k Unset ≡ Unset
set_unset [] i k h = h
set_unset (v ∷ vs) zero zero h = refl
set_unset (v ∷ vs) zero (suc k) h = h
set_unset (v ∷ vs) (suc i) zero h = h
set_unset (v ∷ vs) (suc i) (suc k) h = set_unset vs i k h

stays_unset : (t : List ℤ) (vs : List Value) (k : ℕ) → get_or vs k Unset ≡ Unset → get_or (unvalued t vs) k Unset ≡ Unset
stays_unset [] vs k h = h
stays_unset (x ∷ t) vs k h = stays_unset t (two_set vs x Unset Unset) k (set_unset (set vs (slot x) Unset) (slot (neg_ℤ x)) k (set_unset vs (slot x) k h))

unvalued_other : (t : List ℤ) (vs : List Value) (l : ℤ) → has_var t (var_of l) ≡ false → get_or (unvalued t vs) (slot l) Unset ≡ get_or vs (slot l) Unset
unvalued_other [] vs l h = refl
unvalued_other (x ∷ t) vs l h =
    let parts = or_parts (var_of x == var_of l) (has_var t (var_of l)) h in
    unvalued_other t (two_set vs x Unset Unset) l parts.1 ∙ two_set_other vs l x Unset Unset (λ e. both_ways (var_of x == var_of l) parts.0 (eq-eqb (var_of x) (var_of l) (sym e)))

unvalued_same : (vars : ℕ) (t : List ℤ) (vs : List Value) (l : ℤ) → length vs ≡ 2 * vars + 2 → IsLitWithin vars l → IsTrue (has_var t (var_of l)) → get_or (unvalued t vs) (slot l) Unset ≡ Unset
unvalued_same vars [] vs l n r h = absurd cc
unvalued_same vars (x ∷ t) vs l n r h = by_var (eqb_tells (var_of x) (var_of l)) (λ k. unvalued_same vars t (two_set vs x Unset Unset) l (length-set (set vs (slot x) Unset) (slot (neg_ℤ x)) Unset ∙ length-set vs (slot x) Unset ∙ n) r k)
  where
    here : (m : ℤ) → (m ≡ x) ⊎ (m ≡ neg_ℤ x) → IsLitWithin vars m → get_or (two_set vs x Unset Unset) (slot m) Unset ≡ Unset
    here m (inl e) w = subst (λ (q : ℤ). get_or (two_set vs x Unset Unset) (slot q) Unset ≡ Unset) (sym e)
        (two_set_own vs x Unset Unset (subst (λ (q : ℤ). 1 ≤ var_of q) e w.0) (omega (arith, n, subst (λ (q : ℤ). slot q < 2 * vars + 2) e (slot_bound m vars w.1))))
    here m (inr e) w = subst (λ (q : ℤ). get_or (two_set vs x Unset Unset) (slot q) Unset ≡ Unset) (sym e)
        (two_set_neg vs x Unset Unset (omega (arith, n, subst (λ (q : ℤ). slot q < 2 * vars + 2) e (slot_bound m vars w.1))))

    by_var : ((eqb (var_of x) (var_of l) ≡ true) × (var_of x ≡ var_of l)) ⊎ ((eqb (var_of x) (var_of l) ≡ false) × (var_of x ≢ var_of l)) → (IsTrue (has_var t (var_of l)) → get_or (unvalued t (two_set vs x Unset Unset)) (slot l) Unset ≡ Unset) → get_or (unvalued t (two_set vs x Unset Unset)) (slot l) Unset ≡ Unset
    by_var (inl same) ih = stays_unset t (two_set vs x Unset Unset) (slot l) (here l (same_or_opposite x l (sym same.1)) r)
    by_var (inr other) ih = elim (or_cases (var_of x == var_of l) (has_var t (var_of l)) h) [
      | inl e ↦ absurd (both_ways (var_of x == var_of l) other.0 e)
      | inr later ↦ ih later
    ]

pub values_back : (vars : ℕ) (lits : List ℤ) (vs : List Value) (k : ℕ) → AreValues vars lits vs → IsTrue (is_partial lits) → AreValues vars (take k lits) (unvalued (drop k lits) vs)
values_back vars lits vs k a p = record {
  slots = length-unvalued (drop k lits) vs ∙ a.slots;
  are = λ l h. by_drop l h (has_var (drop k lits) (var_of l)) refl;
}
  where
    whole : take k lits ++ drop k lits ≡ lits
    whole = take-append-drop k lits

    by_drop : (l : ℤ) → IsLitWithin vars l → (b : Bool) → has_var (drop k lits) (var_of l) ≡ b → get_or (unvalued (drop k lits) vs) (slot l) Unset ≡ value_by (take k lits) l
    by_drop l h true e = unvalued_same vars (drop k lits) vs l a.slots h e ∙ sym (unset_from_open (take k lits) l (new_is_open (take k lits) l (later_is_new (take k lits) (drop k lits) (var_of l) (subst (λ (t : List ℤ). IsTrue (is_partial t)) (sym whole) p) e)))
    by_drop l h false e = unvalued_other (drop k lits) vs l e ∙ a.are l h ∙ ap (λ (t : List ℤ). value_by t l) (sym whole) ∙ value_by-append (take k lits) (drop k lits) l e

-- the dropped literals have slots
pub drop_fits : (vars : ℕ) (lits : List ℤ) (vs : List Value) (k : ℕ) → AreValues vars lits vs → All (IsLitWithin vars) lits → All (λ (l : ℤ). (slot l < length vs) × (slot (neg_ℤ l) < length vs)) (drop k lits)
drop_fits vars lits vs k a h = All-weaker (IsLitWithin vars) _ (λ l r. slots_fit vars lits vs l a r.1) (drop k lits) (All-drop (IsLitWithin vars) k lits h)

-- ---- what the table answers

pub value_read : (vars : ℕ) (lits : List ℤ) (values : List Value) (l : ℤ) (x : Value) → AreValues vars lits values → IsLitWithin vars l → x ≡ get_or values (slot l) x → x ≡ value_by lits l
value_read vars lits values l x a h e = get_or_read values (slot l) x (slots_fit vars lits values l a h.1).0 e Unset ∙ a.are l h

pub open_read : (vars : ℕ) (lits : List ℤ) (values : List Value) (v : ℕ) (x : Value) → AreValues vars lits values → IsVar vars v → x ≡ get_or values (2 * v) x → x ≡ Unset → has_var lits v ≡ false
open_read vars lits values v x a h e u = open_is_new lits (pos v) (open_from_unset lits (pos v) (sym (value_read vars lits values (pos v) x a h e) ∙ u))

pub set_read : (vars : ℕ) (lits : List ℤ) (values : List Value) (v : ℕ) (x : Value) → AreValues vars lits values → IsVar vars v → x ≡ get_or values (2 * v) x → (x ≡ Unset → ⊥) → IsTrue (has_var lits v)
set_read vars lits values v x a h e n = by_answer (has_var lits v) refl
  where
    by_answer : (b : Bool) → has_var lits v ≡ b → b ≡ true
    by_answer true f = refl
    by_answer false f = absurd (n (value_read vars lits values (pos v) x a h e ∙ unset_from_open lits (pos v) (new_is_open lits (pos v) f)))
