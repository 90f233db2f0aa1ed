-- The part of a side, as literals come and go.
use Rattle.std.proofs.Common.{◌≡◌, ◌≢◌, ℕ, zero, suc, ◌<◌, Bool, true, false, not, cond, List, [], ◌∷◌, ◌++◌, length, take, sym, ap, ◌∙◌, inl, inr, ℤ, pos, neg_ℤ, int_lt}
use Rattle.std.specs.Prelude.{IsTrue}
use Rattle.std.specs.Ordering.{int_eq}
use Rattle.std.proofs.lemmas.Bool.{both_ways, false_from_ne_true, true_from_ne_false, not-true, or_cases, or_left, or_right}
use Rattle.std.proofs.lemmas.List.{get_or-map}
use Rattle.mono_base.specs.Literal.{has_lit, var_of, is_lit}
use Rattle.mono_base.specs.Partial.{is_true_in, is_false_in}
use Rattle.mono_base.proofs.Partials.{var-neg}
use Rattle.mono_graph.specs.declared.edge.Edge.{Edge}
use Rattle.mono_graph.specs.Digraph.{Digraph, present, edge_at, no_edge, part_by}
use Rattle.mono_graph.proofs.Parts.{in_part_by, part_by-has, length-part_by}
use Rattle.mono_problem.specs.Quiet.{under, over}
use Rattle.mono_problem.specs.declared.atom.Predicate.{Predicate}
use Rattle.mono_theory.specs.Evidences.{shown_by, side}
use Rattle.mono_theory.specs.Supports.{part_of}
use Rattle.mono_bounds.proofs.BoundsStay.{has_lit-push_other}
use Rattle.mono_theory.proofs.NothingChanges.{over_by_positive, under_by_negative}

pub part_len : (g : Digraph) (t : List ℤ) (b : Bool) → length (part_of g t b) ≡ length g.edges
part_len g t true = length-part_by (λ e. not (is_false_in t (pos e.var))) g
part_len g t false = length-part_by (λ e. is_true_in t (pos e.var)) g

pub has_lit-take : (n : ℕ) (t : List ℤ) (l : ℤ) → IsTrue (has_lit (take n t) l) → IsTrue (has_lit t l)
has_lit-take zero t l h = absurd cc
has_lit-take (suc n) [] l h = h
has_lit-take (suc n) (m ∷ t) l h = elim (or_cases (int_eq l m) (has_lit (take n t) l) h) [
  | inl e ↦ or_left (int_eq l m) (has_lit t l) e
  | inr e ↦ or_right (int_eq l m) (has_lit t l) (has_lit-take n t l e)
]

-- an edge that has the value of its side has it under fewer literals
pub fewer : (g : Digraph) (t : List ℤ) (n k : ℕ) (b : Bool) → k < length g.edges → present (part_of g t b) k ≡ b → present (part_of g (take n t) b) k ≡ b
fewer g t n k true lt h =
    let free = not-true (is_false_in t (pos (edge_at g k).var)) (in_part_by (λ e. not (is_false_in t (pos e.var))) g k h) in
    part_by-has (λ e. not (is_false_in (take n t) (pos e.var))) g k lt (ap not (false_from_ne_true (is_false_in (take n t) (pos (edge_at g k).var)) (λ e. both_ways (is_false_in t (pos (edge_at g k).var)) free (has_lit-take n t (neg_ℤ (pos (edge_at g k).var)) e))))
fewer g t n k false lt h =
    false_from_ne_true (present (under g (take n t)) k) (λ on. both_ways (present (under g t) k) h (part_by-has (λ e. is_true_in t (pos e.var)) g k lt (has_lit-take n t (pos (edge_at g k).var) (in_part_by (λ e. is_true_in (take n t) (pos e.var)) g k on))))

-- and one that has the other value has it under more literals
pub more : (g : Digraph) (t : List ℤ) (n k : ℕ) (b : Bool) → k < length g.edges → present (part_of g (take n t) b) k ≡ not b → present (part_of g t b) k ≡ not b
more g t n k true lt h = false_from_ne_true (present (over g t) k) (λ on. both_ways (present (over g (take n t)) k) h (fewer g t n k true lt on))
more g t n k false lt h = true_from_ne_false (present (under g t) k) (λ off. both_ways (present (under g (take n t)) k) (fewer g t n k false lt off) h)

at_edge : (test : Edge → Bool) (g : Digraph) (k : ℕ) → k < length g.edges → present (part_by test g) k ≡ test (edge_at g k)
at_edge test g k lt = get_or-map test g.edges k no_edge false lt

-- a literal of another variable leaves an edge as it is
pub unswitched_at : (g : Digraph) (t : List ℤ) (l : ℤ) (k : ℕ) (b : Bool) → k < length g.edges → (edge_at g k).var ≢ var_of l → present (part_of g (t ++ l ∷ []) b) k ≡ present (part_of g t b) k
unswitched_at g t l k true lt ne =
    at_edge (λ e. not (is_false_in (t ++ l ∷ []) (pos e.var))) g k lt
    ∙ ap not (has_lit-push_other t l (neg_ℤ (pos (edge_at g k).var)) (λ s. ne (sym (var-neg (pos (edge_at g k).var)) ∙ ap var_of s)))
    ∙ sym (at_edge (λ e. not (is_false_in t (pos e.var))) g k lt)
unswitched_at g t l k false lt ne =
    at_edge (λ e. is_true_in (t ++ l ∷ []) (pos e.var)) g k lt
    ∙ has_lit-push_other t l (pos (edge_at g k).var) (λ s. ne (ap var_of s))
    ∙ sym (at_edge (λ e. is_true_in t (pos e.var)) g k lt)

-- a literal of the other sign leaves the part as it is
pub other_sign : (g : Digraph) (t : List ℤ) (l : ℤ) (b : Bool) → IsTrue (is_lit l) → int_lt (pos 0) l ≡ b → part_of g (t ++ l ∷ []) b ≡ part_of g t b
other_sign g t l true p s = over_by_positive g t l p s
other_sign g t l false p s = under_by_negative g t l p s

-- the part by which a literal is forced is that of the side which its sign names
pub side_by : (g : Digraph) (t : List ℤ) (q : Predicate) (l : ℤ) (b : Bool) → shown_by q (int_lt (pos 0) l) ≡ not b → part_of g t b ≡ side g q t l
side_by g t q l true is = ap (λ (c : Bool). cond c (under g t) (over g t)) (sym is)
side_by g t q l false is = ap (λ (c : Bool). cond c (under g t) (over g t)) (sym is)
