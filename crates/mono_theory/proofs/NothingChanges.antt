-- Literals that change no edge of a side.
use Rattle.std.proofs.Common.{◌≡◌, ℕ, zero, suc, Bool, true, false, not, List, [], ◌∷◌, ◌++◌, map, refl, ap, ◌∙◌, ℤ, pos, negsuc, neg_ℤ, int_lt}
use Rattle.std.specs.Prelude.{IsTrue}
use Rattle.std.specs.Ordering.{int_eq}
use Rattle.std.proofs.lemmas.Bool.{or_left, both_ways}
use Rattle.std.proofs.lemmas.List.Folds.{list_any-append}
use Rattle.mono_base.specs.Literal.{has_lit, is_lit}
use Rattle.mono_base.specs.Partial.{is_true_in, is_false_in}
use Rattle.mono_graph.specs.declared.edge.Edge.{Edge}
use Rattle.mono_graph.specs.Digraph.{Digraph}
use Rattle.mono_problem.specs.Quiet.{under, over}
use Rattle.mono_bounds.proofs.BoundsStay.{has_lit-push_other, is_above, neg_not_pos, pos_not_neg}

-- ---- which edges change

map_as : (f h : Edge → Bool) (es : List Edge) → ((e : Edge) → f e ≡ h e) → map f es ≡ map h es
map_as f h [] s = refl
map_as f h (e ∷ es) s = ap (λ b. b ∷ map f es) (s e) ∙ ap (λ bs. h e ∷ bs) (map_as f h es s)

not_this : (l : ℤ) (x : ℕ) → IsTrue (is_lit l) → int_lt (pos 0) l ≡ false → pos x ≡ l → ⊥
not_this (pos zero) x p below e = absurd cc
not_this (pos (suc n)) x p below e = both_ways (int_lt (pos 0) (pos (suc n))) below (is_above n)
not_this (negsuc n) x p below e = pos_not_neg x n e

not_that : (l : ℤ) (x : ℕ) → IsTrue (is_lit l) → int_lt (pos 0) l ≡ true → neg_ℤ (pos x) ≡ l → ⊥
not_that (pos zero) x p above e = absurd cc
not_that (pos (suc n)) x p above e = neg_not_pos x n e
not_that (negsuc n) x p above e = absurd cc

-- a negative literal changes no surely present edge, and a positive one no possibly present edge
pub under_by_negative : (g : Digraph) (t : List ℤ) (l : ℤ) → IsTrue (is_lit l) → int_lt (pos 0) l ≡ false → under g (t ++ l ∷ []) ≡ under g t
under_by_negative g t l p below = map_as (λ e. is_true_in (t ++ l ∷ []) (pos e.var)) (λ e. is_true_in t (pos e.var)) g.edges (λ e. has_lit-push_other t l (pos e.var) (not_this l e.var p below))

pub over_by_positive : (g : Digraph) (t : List ℤ) (l : ℤ) → IsTrue (is_lit l) → int_lt (pos 0) l ≡ true → over g (t ++ l ∷ []) ≡ over g t
over_by_positive g t l p above = map_as (λ e. not (is_false_in (t ++ l ∷ []) (pos e.var))) (λ e. not (is_false_in t (pos e.var))) g.edges (λ e. ap not (has_lit-push_other t l (neg_ℤ (pos e.var)) (not_that l e.var p above)))

-- ---- what stays true

pub still_has : (t : List ℤ) (l m : ℤ) → IsTrue (has_lit t m) → IsTrue (has_lit (t ++ l ∷ []) m)
still_has t l m h = list_any-append (int_eq m) t (l ∷ []) ∙ or_left (has_lit t m) (has_lit (l ∷ []) m) h
