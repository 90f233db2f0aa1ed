-- The surely and the possibly present edges, and the edges that an assignment enables which extends the list.
use Rattle.std.proofs.Common.{◌≡◌, ℕ, suc, ◌<◌, Bool, true, false, not, ◌&&◌, List, [], ◌∷◌, map, length, refl, sym, ap, ◌∙◌, inl, inr, arith, ℤ, pos, neg_ℤ, All}
use Rattle.std.specs.Prelude.{IsTrue}
use Rattle.std.proofs.lemmas.Bool.{cases_Bool, both_ways, not-true, not_from_false, false_from_ne_true}
use Rattle.std.proofs.lemmas.List.Elements.{All-from_get_or}
use Rattle.mono_base.specs.Partial.{Extends, is_true_in, is_false_in, is_open_in}
use Rattle.mono_base.specs.Literal.{lit_true}
use Rattle.mono_base.proofs.Truth.{at_each, pos_true, neg_true}
use Rattle.mono_graph.specs.declared.edge.Edge.{Edge}
use Rattle.mono_graph.specs.Digraph.{Digraph, IsGraph, IsSubpart, enabled, part_by, present, edge_at, no_edge}
use Rattle.mono_graph.proofs.Parts.{in_part_by, part_by-has, length-part_by}
use Rattle.mono_graph.proofs.Places.{present_below}
use Rattle.mono_problem.specs.Quiet.{under, over}

-- ---- one variable

-- a variable that is true in the list, and one that is false there
pub true_by_list : (a : ℕ → Bool) (t : List ℤ) (x : ℕ) → Extends a t → 0 < x → IsTrue (is_true_in t (pos x)) → IsTrue (a x)
true_by_list a t x e p h = sym (pos_true a x p) ∙ at_each (lit_true a) t e (pos x) h

pub false_by_list : (a : ℕ → Bool) (t : List ℤ) (x : ℕ) → Extends a t → 0 < x → IsTrue (is_false_in t (pos x)) → a x ≡ false
false_by_list a t x e p h = not-true (a x) (sym (neg_true a x p) ∙ at_each (lit_true a) t e (neg_ℤ (pos x)) h)

-- a variable with a value in the list is true or false there
pub decided : (t : List ℤ) (l : ℤ) → is_open_in t l ≡ false → is_true_in t l ≡ false → IsTrue (is_false_in t l)
decided t l o = by (is_true_in t l) (is_false_in t l) o
  where
    by : (b c : Bool) → (not b && not c) ≡ false → b ≡ false → IsTrue c
    by b true o f = refl
    by true false o f = absurd cc
    by false false o f = absurd cc

pub same_as_true_in : (a : ℕ → Bool) (t : List ℤ) (x : ℕ) → Extends a t → 0 < x → is_open_in t (pos x) ≡ false → is_true_in t (pos x) ≡ a x
same_as_true_in a t x e p o = elim (cases_Bool (is_true_in t (pos x))) [
  | inl on ↦ on ∙ sym (true_by_list a t x e p on)
  | inr off ↦ off ∙ sym (false_by_list a t x e p (decided t (pos x) o off))
]

pub same_as_not_false_in : (a : ℕ → Bool) (t : List ℤ) (x : ℕ) → Extends a t → 0 < x → is_open_in t (pos x) ≡ false → not (is_false_in t (pos x)) ≡ a x
same_as_not_false_in a t x e p o = elim (cases_Bool (is_false_in t (pos x))) [
  | inl off ↦ ap not off ∙ sym (false_by_list a t x e p off)
  | inr on ↦ ap not on ∙ sym (elim (cases_Bool (is_true_in t (pos x))) [
    | inl here ↦ true_by_list a t x e p here
    | inr absent ↦ absurd (both_ways (is_false_in t (pos x)) on (decided t (pos x) o absent))
  ])
]

-- ---- the edges of a graph

pub map_same : (f h : Edge → Bool) (es : List Edge) → All (λ e. f e ≡ h e) es → map f es ≡ map h es
map_same f h [] s = refl
map_same f h (e ∷ es) s = ap (λ b. b ∷ map f es) (s 0 e (omega arith)) ∙ ap (λ bs. h e ∷ bs) (map_same f h es (λ k d lt. s (suc k) d (omega arith)))

-- an edge's variable is at least 1
pub edge_var : (g : Digraph) → IsGraph g → (k : ℕ) → k < length g.edges → 0 < (edge_at g k).var
edge_var g ok k lt = let v = ok.vars k no_edge lt in omega (arith, v.0)

-- a present edge is one of the graph's
held : (test : Edge → Bool) (g : Digraph) (k : ℕ) → IsTrue (present (part_by test g) k) → k < length g.edges
held test g k here = let lt = present_below (part_by test g) k here in omega (arith, length-part_by test g, lt)

pub under-enabled : (g : Digraph) (t : List ℤ) (a : ℕ → Bool) → IsGraph g → Extends a t → IsSubpart (under g t) (enabled a g)
under-enabled g t a ok e = record {
  keeps = λ k here.
      let lt : k < length g.edges = held (λ d. is_true_in t (pos d.var)) g k here in
      part_by-has (λ d. a d.var) g k lt (true_by_list a t (edge_at g k).var e (edge_var g ok k lt) (in_part_by (λ d. is_true_in t (pos d.var)) g k here));
}

pub enabled-over : (g : Digraph) (t : List ℤ) (a : ℕ → Bool) → IsGraph g → Extends a t → IsSubpart (enabled a g) (over g t)
enabled-over g t a ok e = record {
  keeps = λ k here.
      let lt : k < length g.edges = held (λ d. a d.var) g k here in
      let on : IsTrue (a (edge_at g k).var) = in_part_by (λ d. a d.var) g k here in
      part_by-has (λ d. not (is_false_in t (pos d.var))) g k lt
      (not_from_false (is_false_in t (pos (edge_at g k).var))
      (false_from_ne_true (is_false_in t (pos (edge_at g k).var)) (λ off. both_ways (a (edge_at g k).var) (false_by_list a t (edge_at g k).var e (edge_var g ok k lt) off) on)));
}

pub under-decided : (g : Digraph) (t : List ℤ) (a : ℕ → Bool) → IsGraph g → Extends a t → All (λ e. is_open_in t (pos e.var) ≡ false) g.edges → under g t ≡ enabled a g
under-decided g t a ok e none = map_same (λ d. is_true_in t (pos d.var)) (λ d. a d.var) g.edges
    (All-from_get_or (λ d. is_true_in t (pos d.var) ≡ a d.var) g.edges no_edge (λ k lt. same_as_true_in a t (edge_at g k).var e (edge_var g ok k lt) (none k no_edge lt)))

pub over-decided : (g : Digraph) (t : List ℤ) (a : ℕ → Bool) → IsGraph g → Extends a t → All (λ e. is_open_in t (pos e.var) ≡ false) g.edges → over g t ≡ enabled a g
over-decided g t a ok e none = map_same (λ d. not (is_false_in t (pos d.var))) (λ d. a d.var) g.edges
    (All-from_get_or (λ d. not (is_false_in t (pos d.var)) ≡ a d.var) g.edges no_edge (λ k lt. same_as_not_false_in a t (edge_at g k).var e (edge_var g ok k lt) (none k no_edge lt)))
