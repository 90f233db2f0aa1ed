-- Where literals stand in lists, their values, and the clauses that are false, unit or quiet by the values of their literals.
use Rattle.std.proofs.Common.{◌≡◌, ◌≢◌, ℕ, zero, suc, ◌<◌, Bool, true, false, List, [], ◌∷◌, ◌++◌, length, get_or, arith, refl, sym, ◌∙◌, ap, subst, ◌⊎◌, inl, inr, not}
use Rattle.std.specs.Prelude.{ℤ, pos, neg_ℤ, IsTrue, filter}
use Rattle.std.specs.Ordering.{int_eq}
use Rattle.std.specs.List.{list_any}
use Rattle.std.proofs.lemmas.Bool.{or_cases, or_left, or_right, and_from, not_from_false}
use Rattle.std.proofs.lemmas.Bool.Decides.{Decides-int_eq}
use Rattle.std.proofs.lemmas.List.Folds.{list_any-append}
use Rattle.mono_base.specs.Literal.{has_lit}
use Rattle.mono_base.specs.Partial.{is_partial, is_true_in, is_false_in, is_open_in, is_false_clause, others_false, has_two, is_quiet, value_by}
use Rattle.mono_base.specs.declared.value.Value.TheVariants.{Yes, No, Unset}
use Rattle.mono_base.proofs.Partials.{true_from_yes, false_from_no, open_from_unset, yes_from_true, no_from_false}
use Rattle.mono_clauses.specs.ClauseValues.{HasTrue, AllFalse, FalseBut}
use Rattle.mono_clauses.specs.Lists.{Stands}

-- two different literals of the clause are open
pub record HasTwoOpen (t c : List ℤ) : Type 0 where
  pub one : ℤ
  pub two : ℤ
  pub has_one : Stands c one
  pub has_two : Stands c two
  pub one_open : value_by t one ≡ Unset
  pub two_open : value_by t two ≡ Unset
  pub differ : one ≢ two

pub record IsQuiet (t c : List ℤ) : Type 0 where
  pub why : HasTrue t c ⊎ HasTwoOpen t c

-- x is the one open literal of the clause, and the others are false
pub record IsUnit (t c : List ℤ) (x : ℤ) : Type 0 where
  pub has : Stands c x
  pub is_open : value_by t x ≡ Unset
  pub others : FalseBut t c x

-- ---- standing in a list

pub stands_later : (x : ℤ) (t : List ℤ) (l : ℤ) → Stands t l → Stands (x ∷ t) l
stands_later x t l s = record { place = suc s.place; within = omega (arith, s.within); there = s.there }

pub has_stands : (t : List ℤ) (l : ℤ) → IsTrue (has_lit t l) → Stands t l
has_stands [] l h = absurd cc
has_stands (x ∷ t) l h = elim (or_cases (int_eq l x) (has_lit t l) h) [
  | inl e ↦ record { place = 0; within = omega arith; there = sym ((Decides-int_eq l x).0 e) }
  | inr k ↦ stands_later x t l (has_stands t l k)
]

pub stands_has : (t : List ℤ) (l : ℤ) → Stands t l → IsTrue (has_lit t l)
stands_has t l s = at t s.place s.within s.there
  where
    at : (u : List ℤ) (k : ℕ) → k < length u → get_or u k (pos 0) ≡ l → IsTrue (has_lit u l)
    at [] k lt e = absurd (omega (arith, lt))
    at (x ∷ u) zero lt e = or_left (int_eq l x) (has_lit u l) ((Decides-int_eq l x).1 (sym e))
    at (x ∷ u) (suc k) lt e = or_right (int_eq l x) (has_lit u l) (at u k (omega (arith, lt)) e)

-- a literal is the first one or stands later
pub stands_either : (x : ℤ) (t : List ℤ) (l : ℤ) → Stands (x ∷ t) l → (x ≡ l) ⊎ Stands t l
stands_either x t l s = at s.place s.within s.there
  where
    at : (k : ℕ) → k < length (x ∷ t) → get_or (x ∷ t) k (pos 0) ≡ l → (x ≡ l) ⊎ Stands t l
    at zero lt e = inl e
    at (suc k) lt e = inr (record { place = k; within = omega (arith, lt); there = e })

-- equal or not
pub int_tells : (x m : ℤ) → (x ≡ m) ⊎ (x ≢ m)
int_tells x m = by_test (int_eq x m) refl
  where
    by_test : (b : Bool) → int_eq x m ≡ b → (x ≡ m) ⊎ (x ≢ m)
    by_test true e = inl ((Decides-int_eq x m).0 e)
    by_test false e = inr (λ s. (let h : IsTrue false = subst (λ (v : Bool). IsTrue v) e ((Decides-int_eq x m).1 s) in cc))

pub not_equal : (x m : ℤ) → x ≢ m → int_eq x m ≡ false
not_equal x m n = by_test (int_eq x m) refl
  where
    by_test : (b : Bool) → int_eq x m ≡ b → b ≡ false
    by_test true e = absurd (n ((Decides-int_eq x m).0 e))
    by_test false e = refl

-- ---- values

-- a true literal stands in the list, and the negation of a false one does
pub yes_stands : (t : List ℤ) (l : ℤ) → value_by t l ≡ Yes → Stands t l
yes_stands t l e = has_stands t l (true_from_yes t l e)

pub no_stands : (t : List ℤ) (l : ℤ) → value_by t l ≡ No → Stands t (neg_ℤ l)
no_stands t l e = has_stands t (neg_ℤ l) (false_from_no t l e)

pub stands_yes : (t : List ℤ) (l : ℤ) → Stands t l → value_by t l ≡ Yes
stands_yes t l s = yes_from_true t l (stands_has t l s)

pub stands_no : (t : List ℤ) (l : ℤ) → IsTrue (is_partial t) → Stands t (neg_ℤ l) → value_by t l ≡ No
stands_no t l p s = no_from_false t l p (stands_has t (neg_ℤ l) s)

-- a literal keeps its value when literals join
has_append : (t s : List ℤ) (l : ℤ) → IsTrue (has_lit t l) → IsTrue (has_lit (t ++ s) l)
has_append t s l h = list_any-append (int_eq l) t s ∙ or_left (has_lit t l) (has_lit s l) h

pub yes_stays : (t s : List ℤ) (l : ℤ) → value_by t l ≡ Yes → value_by (t ++ s) l ≡ Yes
yes_stays t s l e = yes_from_true (t ++ s) l (has_append t s l (true_from_yes t l e))

pub no_stays : (t s : List ℤ) (l : ℤ) → IsTrue (is_partial (t ++ s)) → value_by t l ≡ No → value_by (t ++ s) l ≡ No
no_stays t s l p e = no_from_false (t ++ s) l p (has_append t s (neg_ℤ l) (false_from_no t l e))

-- ---- clauses

false_rest : (t : List ℤ) (x : ℤ) (c : List ℤ) → AllFalse t (x ∷ c) → AllFalse t c
false_rest t x c f = record { at = λ k lt. f.at (suc k) (omega (arith, lt)) }

-- a clause is false where each of its literals is
pub false_clause : (t c : List ℤ) → AllFalse t c → IsTrue (is_false_clause t c)
false_clause t [] f = refl
false_clause t (x ∷ c) f = and_from (is_false_in t x) (is_false_clause t c) (false_from_no t x (f.at 0 (omega arith))) (false_clause t c (false_rest t x c f))

but_rest : (t : List ℤ) (x : ℤ) (c : List ℤ) (l : ℤ) → FalseBut t (x ∷ c) l → FalseBut t c l
but_rest t x c l f = record { at = λ k lt n. f.at (suc k) (omega (arith, lt)) n }

pub others_are_false : (t c : List ℤ) (l : ℤ) → FalseBut t c l → IsTrue (others_false t c l)
others_are_false t [] l f = refl
others_are_false t (x ∷ c) l f = by_test (int_tells l x) (others_are_false t c l (but_rest t x c l f))
  where
    by_test : (l ≡ x) ⊎ (l ≢ x) → IsTrue (others_false t c l) → IsTrue (others_false t (x ∷ c) l)
    by_test (inl e) ih = rw ((Decides-int_eq l x).1 e) ih
    by_test (inr n) ih = rw (not_equal l x n) (and_from (is_false_in t x) (others_false t c l) (false_from_no t x (f.at 0 (omega arith) (λ e. n (sym e)))) ih)

-- a list that has two different literals has two
differs_somewhere : (x : ℤ) (c : List ℤ) (l : ℤ) → Stands c l → x ≢ l → IsTrue (list_any (λ m. not (int_eq x m)) c)
differs_somewhere x [] l s n = absurd (omega (arith, s.within))
differs_somewhere x (m ∷ c) l s n = elim (stands_either m c l s) [
  | inl e ↦ or_left (not (int_eq x m)) (list_any (λ m. not (int_eq x m)) c) (not_from_false (int_eq x m) (not_equal x m (λ z. n (z ∙ e))))
  | inr r ↦ or_right (not (int_eq x m)) (list_any (λ m. not (int_eq x m)) c) (differs_somewhere x c l r n)
]

two_differ : (c : List ℤ) (a b : ℤ) → Stands c a → Stands c b → a ≢ b → IsTrue (has_two c)
two_differ [] a b s r n = absurd (omega (arith, s.within))
two_differ (x ∷ c) a b s r n = by_both (stands_either x c a s) (stands_either x c b r) (int_tells x a)
  where
    by_both : (x ≡ a) ⊎ Stands c a → (x ≡ b) ⊎ Stands c b → (x ≡ a) ⊎ (x ≢ a) → IsTrue (has_two (x ∷ c))
    by_both (inl e) (inl f) q = absurd (n (sym e ∙ f))
    by_both (inl e) (inr f) q = differs_somewhere x c b f (λ z. n (sym e ∙ z))
    by_both (inr e) f (inr d) = differs_somewhere x c a e d
    by_both (inr e) (inr f) (inl d) = differs_somewhere x c b f (λ z. n (sym d ∙ z))
    by_both (inr e) (inl f) (inl d) = absurd (n (sym d ∙ f))

stands_filtered : (p : ℤ → Bool) (c : List ℤ) (l : ℤ) → Stands c l → IsTrue (p l) → Stands (filter p c) l
stands_filtered p [] l s h = absurd (omega (arith, s.within))
stands_filtered p (x ∷ c) l s h = by_test (p x) refl (stands_either x c l s) (λ r. stands_filtered p c l r h)
  where
    by_test : (b : Bool) → p x ≡ b → (x ≡ l) ⊎ Stands c l → (Stands c l → Stands (filter p c) l) → Stands (filter p (x ∷ c)) l
    by_test true e (inl z) ih = rw e (record { place = 0; within = omega arith; there = z })
    by_test true e (inr r) ih = rw e (stands_later x (filter p c) l (ih r))
    by_test false e (inl z) ih = absurd (let q : IsTrue false = subst (λ (b : Bool). IsTrue b) (ap p (sym z) ∙ e) h in cc)
    by_test false e (inr r) ih = rw e (ih r)

-- a clause with a true literal or two different open ones is quiet
pub quiet_clause : (t c : List ℤ) → IsQuiet t c → IsTrue (is_quiet t c)
quiet_clause t c q = elim q.why [
  | inl h ↦ or_left (list_any (is_true_in t) c) (has_two (filter (is_open_in t) c)) (true_somewhere c h.lit h.has (true_from_yes t h.lit h.holds))
  | inr h ↦ or_right (list_any (is_true_in t) c) (has_two (filter (is_open_in t) c)) (two_differ (filter (is_open_in t) c) h.one h.two (stands_filtered (is_open_in t) c h.one h.has_one (open_from_unset t h.one h.one_open)) (stands_filtered (is_open_in t) c h.two h.has_two (open_from_unset t h.two h.two_open)) h.differ)
]
  where
    true_somewhere : (d : List ℤ) (l : ℤ) → Stands d l → IsTrue (is_true_in t l) → IsTrue (list_any (is_true_in t) d)
    true_somewhere [] l s h = absurd (omega (arith, s.within))
    true_somewhere (x ∷ d) l s h = elim (stands_either x d l s) [
      | inl e ↦ or_left (is_true_in t x) (list_any (is_true_in t) d) (subst (λ (m : ℤ). IsTrue (is_true_in t m)) (sym e) h)
      | inr r ↦ or_right (is_true_in t x) (list_any (is_true_in t) d) (true_somewhere d l r h)
    ]
