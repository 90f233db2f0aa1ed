-- Lists of literals: what stands in them, and what is open, true or false.
use Rattle.std.proofs.Common.{◌≡◌, ◌≢◌, ℕ, ◌+◌, ◌-◌, ◌<◌, ◌≤◌, Bool, false, not, List, [], ◌∷◌, ◌++◌, take, drop, length, filter, refl, sym, ap, subst, ◌∙◌, inl, inr, ◌⊎◌, ℤ, pos, neg_ℤ, arith}
use Rattle.std.specs.Prelude.{IsTrue}
use Rattle.std.specs.Ordering.{int_eq}
use Rattle.std.specs.List.{list_any, list_all}
use Rattle.std.proofs.Math.IntN.{neg_ℤ-neg_ℤ}
use Rattle.std.proofs.lemmas.Bool.{and_parts, and_from, or_cases, or_left, or_right, not-true, not_from_false, cases_Bool, both_ways, false_from_ne_true}
use Rattle.std.proofs.lemmas.Bool.Decides.{Decides-int_eq}
use Rattle.std.proofs.lemmas.List.{take-append-drop, get_or-take, get_or-drop, length-take, length-drop}
use Rattle.std.proofs.lemmas.List.Folds.{list_any_at}
use Rattle.mono_learn.proofs.ChainEnds.{filter_keeps}
use Rattle.mono_learn.proofs.PlacesOfLits.{has_stands}
use Rattle.mono_base.specs.Literal.{var_of, has_lit, within, without, lit_at}
use Rattle.mono_base.specs.Partial.{is_true_in, is_false_in, is_open_in, has_two, is_quiet, is_partial, is_false_clause, others_false}
use Rattle.mono_base.proofs.Truth.{same_lit, lit_itself, at_each, from_each}
use Rattle.mono_base.proofs.Partials.{has_var_of, later_is_new, new_is_open}
use Rattle.mono_steps.proofs.Sets.{has-append, has-without}
use Rattle.mono_steps.proofs.LeftOpen.{has_at}

-- ---- places

pub has-take : (t : List ℤ) (k : ℕ) (l : ℤ) → IsTrue (has_lit (take k t) l) → IsTrue (has_lit t l)
has-take t k l h = subst (λ (u : List ℤ). IsTrue (has_lit u l)) (take-append-drop k t) (has-append (take k t) (drop k t) l ∙ or_left (has_lit (take k t) l) (has_lit (drop k t) l) h)

-- what stands before a place
pub has_before : (t : List ℤ) (j k : ℕ) → j < k → j < length t → IsTrue (has_lit (take k t) (lit_at t j))
has_before t j k lt len =
    let e : lit_at (take k t) j ≡ lit_at t j = get_or-take k t j (pos 0) lt in
    let inside : j < length (take k t) = rw length-take (omega arith) in
    subst (λ (l : ℤ). IsTrue (has_lit (take k t) l)) e (has_at (take k t) j inside)

-- a longer list has what a shorter one has
pub has-shorter : (t : List ℤ) (j k : ℕ) (l : ℤ) → j ≤ k → IsTrue (has_lit (take j t) l) → IsTrue (has_lit (take k t) l)
has-shorter t j k l le h =
    let i = has_stands (take j t) l h in
    let low : i.place < j = omega (arith, i.within, length-take j t) in
    let len : i.place < length t = omega (arith, i.within, length-take j t) in
    let e : lit_at t i.place ≡ l = sym (get_or-take j t i.place (pos 0) low) ∙ i.there in
    subst (λ (m : ℤ). IsTrue (has_lit (take k t) m)) e (has_before t i.place k (omega arith) len)

-- ---- tests of a clause

pub false_in_clause : (t c : List ℤ) (l : ℤ) → IsTrue (is_false_clause t c) → IsTrue (has_lit c l) → IsTrue (is_false_in t l)
false_in_clause t c l a h = at_each (is_false_in t) c a l h

-- whether two literals are one
pub same_or_not : (l m : ℤ) → (l ≡ m) ⊎ (l ≢ m)
same_or_not l m = elim (cases_Bool (int_eq l m)) [
  | inl e ↦ inl (same_lit l m e)
  | inr n ↦ inr (λ e. both_ways (int_eq l m) n ((Decides-int_eq l m).1 e))
]

pub has_other : (c : List ℤ) (x l : ℤ) → IsTrue (has_lit c l) → l ≢ x → IsTrue (has_lit (without c x) l)
has_other c x l h n = has-without c x l ∙ and_from (not (int_eq x l)) (has_lit c l) (not_from_false (int_eq x l) (false_from_ne_true (int_eq x l) (λ e. n (sym (same_lit x l e))))) h

pub false_other : (t c : List ℤ) (x l : ℤ) → IsTrue (others_false t c x) → IsTrue (has_lit c l) → l ≢ x → IsTrue (is_false_in t l)
false_other t c x l a h n = at_each (is_false_in t) (without c x) a l (has_other c x l h n)

pub others_false_by : (t c : List ℤ) (x : ℤ) → ((l : ℤ) → IsTrue (has_lit c l) → l ≢ x → IsTrue (is_false_in t l)) → IsTrue (others_false t c x)
others_false_by t c x f = from_each (is_false_in t) (without c x) (λ l h.
    let parts = and_parts (not (int_eq x l)) (has_lit c l) (sym (has-without c x l) ∙ h) in
    f l parts.1 (λ e. both_ways (int_eq x l) (not-true (int_eq x l) parts.0) ((Decides-int_eq x l).1 (sym e))))

pub others_false-wider : (t u c : List ℤ) (x : ℤ) → ((l : ℤ) → IsTrue (has_lit t l) → IsTrue (has_lit u l)) → IsTrue (others_false t c x) → IsTrue (others_false u c x)
others_false-wider t u c x w h = others_false_by u c x (λ l k n. w (neg_ℤ l) (false_other t c x l h k n))

-- where a literal is false and the others of its clause are, the clause is
pub false_whole : (t c : List ℤ) (x : ℤ) → IsTrue (others_false t c x) → IsTrue (is_false_in t x) → IsTrue (is_false_clause t c)
false_whole t c x others here = from_each (is_false_in t) c (λ l h. elim (same_or_not l x) [
  | inl e ↦ subst (λ (m : ℤ). IsTrue (is_false_in t m)) (sym e) here
  | inr n ↦ false_other t c x l others h n
])

pub within_by : (c d : List ℤ) → ((l : ℤ) → IsTrue (has_lit c l) → IsTrue (has_lit d l)) → IsTrue (within c d)
within_by c d f = from_each (has_lit d) c f

-- a literal that fails a test which not all literals pass
pub record Fails (p : ℤ → Bool) (c : List ℤ) : Type 0 where
  pub lit : ℤ
  pub has : IsTrue (has_lit c lit)
  pub fails : p lit ≡ false

pub all_or_one : (p : ℤ → Bool) (c : List ℤ) → IsTrue (list_all p c) ⊎ Fails p c
all_or_one p [] = inl refl
all_or_one p (x ∷ c) = elim (cases_Bool (p x)) [
  | inr off ↦ inr (record { lit = x; has = or_left (int_eq x x) (has_lit c x) (lit_itself x); fails = off })
  | inl on ↦ elim (all_or_one p c) [
    | inl rest ↦ inl (and_from (p x) (list_all p c) on rest)
    | inr f ↦ inr (record { lit = f.lit; has = or_right (int_eq f.lit x) (has_lit c f.lit) f.has; fails = f.fails })
  ]
]

-- ---- open literals

pub open_parts : (t : List ℤ) (l : ℤ) → IsTrue (is_open_in t l) → (is_true_in t l ≡ false) × (is_false_in t l ≡ false)
open_parts t l h = let p = and_parts (not (is_true_in t l)) (not (is_false_in t l)) h in (not-true (is_true_in t l) p.0, not-true (is_false_in t l) p.1)

pub open_from : (t : List ℤ) (l : ℤ) → is_true_in t l ≡ false → is_false_in t l ≡ false → IsTrue (is_open_in t l)
open_from t l a b = and_from (not (is_true_in t l)) (not (is_false_in t l)) (not_from_false (is_true_in t l) a) (not_from_false (is_false_in t l) b)

-- the opposite literal is open too
pub open-neg : (t : List ℤ) (l : ℤ) → IsTrue (is_open_in t l) → IsTrue (is_open_in t (neg_ℤ l))
open-neg t l h = let p = open_parts t l h in open_from t (neg_ℤ l) p.1 (ap (has_lit t) (neg_ℤ-neg_ℤ l) ∙ p.0)

pub open-neg_back : (t : List ℤ) (l : ℤ) → IsTrue (is_open_in t (neg_ℤ l)) → IsTrue (is_open_in t l)
open-neg_back t l h = subst (λ (m : ℤ). IsTrue (is_open_in t m)) (neg_ℤ-neg_ℤ l) (open-neg t (neg_ℤ l) h)

-- what is open in a list is open in a part of it
pub open-fewer : (t u : List ℤ) (l : ℤ) → ((m : ℤ) → IsTrue (has_lit u m) → IsTrue (has_lit t m)) → IsTrue (is_open_in t l) → IsTrue (is_open_in u l)
open-fewer t u l w h =
    let p = open_parts t l h in
    open_from u l (false_from_ne_true (has_lit u l) (λ e. both_ways (has_lit t l) p.0 (w l e))) (false_from_ne_true (has_lit u (neg_ℤ l)) (λ e. both_ways (has_lit t (neg_ℤ l)) p.1 (w (neg_ℤ l) e)))

-- what stands at a place is open by the literals before it
pub open_before : (t : List ℤ) (k j : ℕ) → IsTrue (is_partial t) → k ≤ j → j < length t → IsTrue (is_open_in (take k t) (lit_at t j))
open_before t k j p le lt =
    let l = lit_at t j in
    let split : take k t ++ drop k t ≡ t = take-append-drop k t in
    let at : lit_at (drop k t) (j - k) ≡ l = get_or-drop k t (j - k) (pos 0) ∙ ap (λ (i : ℕ). lit_at t i) (let e : k + (j - k) ≡ j = omega arith in e) in
    let later : IsTrue (has_lit (drop k t) l) = subst (λ (m : ℤ). IsTrue (has_lit (drop k t) m)) at (has_at (drop k t) (j - k) (rw length-drop (omega arith))) in
    new_is_open (take k t) l (later_is_new (take k t) (drop k t) (var_of l) (subst (λ (u : List ℤ). IsTrue (is_partial u)) (sym split) p) (has_var_of (drop k t) l (var_of l) later refl))

-- ---- quiet clauses

pub has_two_from : (c : List ℤ) (a b : ℤ) → IsTrue (has_lit c a) → IsTrue (has_lit c b) → a ≢ b → IsTrue (has_two c)
has_two_from [] a b h k n = absurd cc
has_two_from (x ∷ c) a b h k n =
    elim (same_or_not a x) [
      | inl at ↦ elim (or_cases (int_eq b x) (has_lit c b) k) [
        | inl same ↦ absurd (n (at ∙ sym (same_lit b x same)))
        | inr r ↦ other x c b r (λ e. n (at ∙ e))
      ]
      | inr off ↦ elim (or_cases (int_eq a x) (has_lit c a) h) [
        | inl same ↦ absurd (off (same_lit a x same))
        | inr r ↦ other x c a r (λ e. off (sym e))
      ]
    ]
  where
    other : (x : ℤ) (c : List ℤ) (m : ℤ) → IsTrue (has_lit c m) → x ≢ m → IsTrue (list_any (λ l. not (int_eq x l)) c)
    other x c m h n = let i = has_stands c m h in list_any_at (λ l. not (int_eq x l)) c i.place (pos 0) i.within (not_from_false (int_eq x (lit_at c i.place)) (false_from_ne_true (int_eq x (lit_at c i.place)) (λ e. n (same_lit x (lit_at c i.place) e ∙ i.there))))

pub quiet_by_two : (t c : List ℤ) (a b : ℤ) → IsTrue (has_lit c a) → IsTrue (has_lit c b) → a ≢ b → IsTrue (is_open_in t a) → IsTrue (is_open_in t b) → IsTrue (is_quiet t c)
quiet_by_two t c a b h k n o q = or_right (list_any (is_true_in t) c) (has_two (filter (is_open_in t) c)) (has_two_from (filter (is_open_in t) c) a b (filter_keeps (is_open_in t) c a h o) (filter_keeps (is_open_in t) c b k q) n)
