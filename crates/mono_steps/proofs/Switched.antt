-- Parts that change at the edges of a list of literals.
use Rattle.std.proofs.Common.{◌≡◌, ℕ, zero, suc, ◌+◌, ◌<◌, Bool, true, false, ◌&&◌, ◌||◌, ◌==◌, cond, List, [], ◌∷◌, length, take, get_or, Some, None, refl, sym, ap, subst, ◌∙◌, ℤ, pos, negsuc, nat_abs, arith}
use Rattle.std.specs.Prelude.{IsTrue, int_lt}
use Rattle.std.specs.Ordering.{int_eq}
use Rattle.std.specs.List.{list_any}
use Rattle.std.proofs.Math.Bool.{beq, or-false}
use Rattle.std.proofs.lemmas.Bool.{eq-eqb, eqb-true, ne_eqb, le-leb, or_left, or_right, false_from_ne_true}
use Rattle.mono_base.specs.Literal.{has_lit}
use Rattle.mono_base.proofs.Truth.{same_lit, lit_itself}
use Rattle.mono_graph.proofs.Membership.{same_truth}
use Rattle.mono_problem.specs.declared.uses.Use.{Use}
use Rattle.mono_problem.specs.declared.uses.Use.TheVariants as use_of
use Rattle.mono_problem.specs.Uses.{is_edge_use, has_edge_use}
use Rattle.mono_steps.specs.Switching.{place_in, literal_of}
use Rattle.mono_steps.proofs.Sets.{has-take_more}

-- ---- uses

any_item : {X : Type 0} (p : X → Bool) (xs : List X) (i : ℕ) (d : X) → i < length xs → IsTrue (p (get_or xs i d)) → IsTrue (list_any p xs)
any_item p [] i d low h = absurd (omega arith)
any_item p (x ∷ xs) zero d low h = or_left (p x) (list_any p xs) h
any_item p (x ∷ xs) (suc i) d low h = or_right (p x) (list_any p xs) (any_item p xs i d (omega arith) h)

edge_of_place : (k j : ℕ) (u : Use) → place_in k u ≡ Some j → IsTrue (is_edge_use k j u)
edge_of_place k j (use_of.Edge g e) h = by_graph (g == k) h
  where
    by_graph : (b : Bool) → cond b (Some e) None ≡ Some j → IsTrue (b && (e == j))
    by_graph true same = eq-eqb e j cc
    by_graph false same = absurd cc
edge_of_place k j (use_of.Atom n) h = absurd cc

-- the place of an item of the list is one of its edges
pub place_of_use : (k j : ℕ) (us : List Use) (i : ℕ) (d : Use) → i < length us → place_in k (get_or us i d) ≡ Some j → IsTrue (has_edge_use k j us)
place_of_use k j us i d low h = any_item (is_edge_use k j) us i d low (edge_of_place k j (get_or us i d) h)

-- ---- literals

above_0 : (n : ℕ) → int_lt (pos 0) (pos (suc n)) ≡ true
above_0 n = le-leb 1 (suc n) (omega arith)

-- which literals are the one of a sign
pub literal_same : (sign : Bool) (x : ℕ) (l : ℤ) → 0 < nat_abs l → int_eq (literal_of sign x) l ≡ (beq (int_lt (pos 0) l) sign && (x == nat_abs l))
literal_same sign x (pos zero) some = absurd (omega arith)
literal_same true x (pos (suc n)) some =
    same_truth (int_eq (pos x) (pos (suc n))) (x == suc n)
    (λ h. let e = same_lit (pos x) (pos (suc n)) h in eq-eqb x (suc n) cc)
    (λ h. subst (λ (y : ℕ). IsTrue (int_eq (pos x) (pos y))) (eqb-true x (suc n) h) (lit_itself (pos x)))
    ∙ sym (ap (λ (b : Bool). beq b true && (x == suc n)) (above_0 n))
literal_same false x (pos (suc n)) some = false_from_ne_true (int_eq (literal_of false x) (pos (suc n))) (λ h. apart x (same_lit (literal_of false x) (pos (suc n)) h)) ∙ sym (ap (λ (b : Bool). beq b false && (x == suc n)) (above_0 n))
  where
    apart : (y : ℕ) → literal_of false y ≡ pos (suc n) → ⊥
    apart zero e = cc
    apart (suc y) e = cc
literal_same true x (negsuc n) some = refl
literal_same false zero (negsuc n) some = sym (ne_eqb 0 (suc n) (λ e. omega arith))
literal_same false (suc x) (negsuc n) some =
    same_truth (int_eq (negsuc x) (negsuc n)) (suc x == suc n)
    (λ h. let e = same_lit (negsuc x) (negsuc n) h in eq-eqb (suc x) (suc n) cc)
    (λ h. let e : x ≡ n = omega (arith, eqb-true (suc x) (suc n) h) in subst (λ (y : ℕ). IsTrue (int_eq (negsuc x) (negsuc y))) e (lit_itself (negsuc x)))

-- ---- one literal more

-- a literal of the sign changes the edges that have its variable
pub switched_more : (c : List ℤ) (i : ℕ) (l : ℤ) (sign on old now new : Bool) (x : ℕ) (used : Bool) → i < length c → get_or c i l ≡ l → 0 < nat_abs l
    → beq (int_lt (pos 0) l) sign ≡ true → used ≡ (x == nat_abs l) → now ≡ cond (has_lit (take i c) (literal_of sign x)) on old → new ≡ cond used on now
    → new ≡ cond (has_lit (take (i + 1) c) (literal_of sign x)) on old
switched_more c i l sign on old now new x used low at some here is before after =
    after ∙ ap (λ (b : Bool). cond b on now) is ∙ ap (λ (b : Bool). cond (x == nat_abs l) on b) before
    ∙ nested (x == nat_abs l) (has_lit (take i c) (literal_of sign x))
    ∙ ap (λ (b : Bool). cond (has_lit (take i c) (literal_of sign x) || (b || false)) on old) (sym (literal_same sign x l some ∙ ap (λ (b : Bool). b && (x == nat_abs l)) here))
    ∙ ap (λ (b : Bool). cond b on old) (sym (has-take_more c i l (literal_of sign x) low at))
  where
    nested : (u h : Bool) → cond u on (cond h on old) ≡ cond (h || (u || false)) on old
    nested true true = refl
    nested true false = refl
    nested false true = refl
    nested false false = refl

-- another one changes nothing
pub switched_same : (c : List ℤ) (i : ℕ) (l : ℤ) (sign on old now : Bool) (x : ℕ) → i < length c → get_or c i l ≡ l → 0 < nat_abs l
    → beq (int_lt (pos 0) l) sign ≡ false → now ≡ cond (has_lit (take i c) (literal_of sign x)) on old
    → now ≡ cond (has_lit (take (i + 1) c) (literal_of sign x)) on old
switched_same c i l sign on old now x low at some apart before =
    before ∙ ap (λ (b : Bool). cond b on old) (sym (has-take_more c i l (literal_of sign x) low at
    ∙ ap (λ (b : Bool). has_lit (take i c) (literal_of sign x) || (b || false)) (literal_same sign x l some ∙ ap (λ (b : Bool). b && (x == nat_abs l)) apart)
    ∙ or-false (has_lit (take i c) (literal_of sign x))))
