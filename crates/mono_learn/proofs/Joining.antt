-- What one literal does to the marks.
use Rattle.std.proofs.Common.{◌≡◌, ℕ, ◌+◌, ◌^◌, ◌<◌, ◌≤◌, Bool, true, false, not, cond, take, List, [], ◌∷◌, ◌++◌, length, get_or, set, refl, sym, ap, subst, ◌∙◌, ℤ, arith, append_assoc}
use Rattle.std.specs.Prelude.{IsTrue}
use Rattle.std.specs.Ordering.{int_eq}
use Rattle.std.proofs.lemmas.Bool.{or_left}
use Rattle.std.proofs.lemmas.List.{append-nil, length-set, take_more, take_all}
use Rattle.std.proofs.lemmas.List.Elements.{filter-append}
use Rattle.mono_base.specs.Literal.{var_of, has_lit, without}
use Rattle.mono_base.specs.Partial.{is_partial}
use Rattle.mono_learn.proofs.LitSets.{lits_differ, has-append_left, has-append_right}
use Rattle.mono_base.proofs.Truth.{lit_itself}
use Rattle.mono_learn.specs.declared.resolvent.Resolvent.{Resolvent}
use Rattle.mono_trail.specs.Seen.{is_marked}
use Rattle.mono_learn.specs.Resolvents.{marked_from, FalseBy, IsFalseAt}
use Rattle.mono_learn.specs.Joins.{Joins, StandsFor}
use Rattle.mono_learn.proofs.Marking.{marks_low, marks_high, marks_again, mark_below, mark_more, marked_le}
use Rattle.mono_learn.proofs.PlacesOfLits.{one_place}

-- a false literal's place is below any that it is known to be below
low_at : (t : List ℤ) (n p : ℕ) (l : ℤ) → IsTrue (is_partial t) → IsFalseAt t p l → FalseBy t n l → p < n
low_at t n p l d a f = omega (arith, f.below, one_place t f.place p d f.within a.within (ap var_of (f.there ∙ sym a.there)))

the_one : (l : ℤ) → IsTrue (has_lit (l ∷ []) l)
the_one l = or_left (int_eq l l) (has_lit [] l) (lit_itself l)

pub joins_again : (t : List ℤ) (start : ℕ) (old : Resolvent) (p : ℕ) (l : ℤ) → IsTrue (is_partial t) → IsFalseAt t p l → old.count ≡ marked_from start old.seen.items → is_marked old.seen.items p ≡ true → Joins t start old old (l ∷ [])
joins_again t start old p l d e n on = record {
  grows = omega arith;
  counted = n;
  slots = refl;
  resolvent = λ top c h f. marks_again t start top old.seen.items old.kept.items old.count c p l f on e.there;
}

pub joins_low : (t : List ℤ) (start : ℕ) (old new : Resolvent) (p : ℕ) (l : ℤ) → IsTrue (is_partial t) → IsFalseAt t p l → old.count ≡ marked_from start old.seen.items → p < start
    → new.seen.items ≡ set old.seen.items p true → new.kept.items ≡ old.kept.items ++ p ∷ [] → new.count ≡ old.count → Joins t start old new (l ∷ [])
joins_low t start old new p l d e n low es ek ec = record {
  grows = omega (arith, ec);
  counted = rw es (ec ∙ n ∙ sym (mark_below start p old.seen.items true low));
  slots = rw es (length-set old.seen.items p true);
  resolvent = λ top c h f. rw (es, ek, ec) (marks_low t start top old.seen.items old.kept.items old.count c p l f (low_at t top p l d e (h l (the_one l))) low e.there);
}

pub joins_high : (t : List ℤ) (start : ℕ) (old new : Resolvent) (p : ℕ) (l : ℤ) → IsTrue (is_partial t) → IsFalseAt t p l → old.count ≡ marked_from start old.seen.items → start ≤ p → p < length old.seen.items → is_marked old.seen.items p ≡ false
    → new.seen.items ≡ set old.seen.items p true → new.kept.items ≡ old.kept.items → new.count ≡ old.count + 1 → Joins t start old new (l ∷ [])
joins_high t start old new p l d e n high lt off es ek ec = record {
  grows = omega (arith, ec);
  counted = rw es (omega (arith, ec, n, mark_more start p old.seen.items high lt off));
  slots = rw es (length-set old.seen.items p true);
  resolvent = λ top c h f. rw (es, ek, ec) (marks_high t start top old.seen.items old.kept.items old.count c p l f (low_at t top p l d e (h l (the_one l))) high off e.there);
}

-- one more mark fits
pub room_for : (start p : ℕ) (seen : List Bool) (count n : ℕ) → count ≡ marked_from start seen → length seen ≡ n → n < 2 ^ 63 → count + 1 < 2 ^ 64
room_for start p seen count n e l lt = omega (arith, e, l, lt, marked_le start seen)

-- no literals
pub joins_none : (t : List ℤ) (start : ℕ) (old : Resolvent) → old.count ≡ marked_from start old.seen.items → Joins t start old old []
joins_none t start old n = record { grows = omega arith; counted = n; slots = refl; resolvent = λ top e h f. subst (λ (c : List ℤ). StandsFor t start top old c) (sym (append-nil e)) f }

-- some literals, and then others
pub joins_then : (t : List ℤ) (start : ℕ) (old mid new : Resolvent) (c d : List ℤ) → Joins t start old mid c → Joins t start mid new d → Joins t start old new (c ++ d)
joins_then t start old mid new c d a b = record {
  grows = omega (arith, a.grows, b.grows);
  counted = b.counted;
  slots = b.slots ∙ a.slots;
  resolvent = λ top e h f. subst (λ (x : List ℤ). StandsFor t start top new x) (append_assoc e c d)
      (b.resolvent top (e ++ c) (λ l k. h l (has-append_right c d l k)) (a.resolvent top e (λ l k. h l (has-append_left c d l k)) f));
}

-- what a longer part has
without_step : (c : List ℤ) (k : ℕ) (x l : ℤ) → k < length c → l ≡ get_or c k l → without (take (k + 1) c) x ≡ without (take k c) x ++ cond (not (int_eq x l)) (l ∷ []) []
without_step c k x l lt e =
    ap (λ (d : List ℤ). without d x) (take_more c k l lt ∙ ap (λ (m : ℤ). take k c ++ m ∷ []) (sym e)) ∙ filter-append (λ m. not (int_eq x m)) (take k c) (l ∷ [])

pub without_more : (c : List ℤ) (k : ℕ) (x l : ℤ) → k < length c → l ≡ get_or c k l → (l ≡ x → ⊥) → without (take (k + 1) c) x ≡ without (take k c) x ++ l ∷ []
without_more c k x l lt e n =
    let off : int_eq x l ≡ false = lits_differ x l (λ s. n (sym s)) in
    without_step c k x l lt e ∙ ap (λ (b : Bool). without (take k c) x ++ cond (not b) (l ∷ []) []) off

pub without_same : (c : List ℤ) (k : ℕ) (x l : ℤ) → k < length c → l ≡ get_or c k l → l ≡ x → without (take (k + 1) c) x ≡ without (take k c) x
without_same c k x l lt e s =
    let on : int_eq x l ≡ true = rw s (lit_itself x) in
    without_step c k x l lt e ∙ ap (λ (b : Bool). without (take k c) x ++ cond (not b) (l ∷ []) []) on ∙ append-nil (without (take k c) x)

pub without_all : (c : List ℤ) (n : ℕ) (x : ℤ) → length c ≤ n → without (take n c) x ≡ without c x
without_all c n x le = ap (λ (d : List ℤ). without d x) (take_all n c le)

pub joins_step_other : (t : List ℤ) (start : ℕ) (old mid new now : Resolvent) (c : List ℤ) (k : ℕ) (x l : ℤ) → now ≡ new → k < length c → l ≡ get_or c k l → (l ≡ x → ⊥) → Joins t start old mid (without (take k c) x) → Joins t start mid new (l ∷ []) → Joins t start old now (without (take (k + 1) c) x)
joins_step_other t start old mid new now c k x l s lt e n a b =
    subst (λ (m : Resolvent). Joins t start old m (without (take (k + 1) c) x)) (sym s) (subst (λ (d : List ℤ). Joins t start old new d) (sym (without_more c k x l lt e n)) (joins_then t start old mid new (without (take k c) x) (l ∷ []) a b))

pub joins_step_same : (t : List ℤ) (start : ℕ) (old mid now : Resolvent) (c : List ℤ) (k : ℕ) (x l : ℤ) → now ≡ mid → k < length c → l ≡ get_or c k l → l ≡ x → Joins t start old mid (without (take k c) x) → Joins t start old now (without (take (k + 1) c) x)
joins_step_same t start old mid now c k x l s lt e at a =
    subst (λ (m : Resolvent). Joins t start old m (without (take (k + 1) c) x)) (sym s) (subst (λ (d : List ℤ). Joins t start old mid d) (sym (without_same c k x l lt e at)) a)
