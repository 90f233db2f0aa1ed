-- Evidence decides its predicate, and the lemma that it makes is shown by the graph and the atom alone.
use Rattle.std.proofs.Common.{◌≡◌, ℕ, zero, suc, ◌<◌, ◌≤◌, Bool, true, false, not, ◌&&◌, cond, List, [], ◌∷◌, length, map, get_or, get_or-set_other, set, eqb, eq-eqb, refl, sym, ap, subst, ◌∙◌, inl, inr, arith, ℤ, pos, neg_ℤ, nat_abs, int_lt, All}
use Rattle.std.specs.Prelude.{IsTrue, Option, Some, MatchOption}
use Rattle.std.specs.List.{list_any}
use Rattle.std.specs.Ordering.{int_eq}
use Rattle.std.proofs.lemmas.Int.{ints}
use Rattle.std.proofs.lemmas.Bool.{cases_eq, or_cases, or_left, or_right, and_from, and_parts, both_ways, not-true, false_from_ne_true, cases_Bool}
use Rattle.std.proofs.lemmas.List.Folds.{list_any_at}
use Rattle.std.proofs.lemmas.List.FromFn.{get_or-map-range_with_len, length-map-range_with_len}
use Rattle.mono_base.specs.Literal.{has_lit, var_of, without}
use Rattle.mono_base.specs.Partial.{is_true_in, is_false_in, is_open_in, others_false}
use Rattle.mono_base.proofs.Partials.{neg-neg, var-neg}
use Rattle.mono_base.proofs.Truth.{same_lit, lit_itself, from_each}
use Rattle.mono_graph.specs.declared.edge.Edge.{Edge}
use Rattle.mono_graph.specs.Digraph.{Digraph, IsGraph, IsSubpart, edge_at, no_edge, present, places, has}
use Rattle.mono_graph.proofs.Membership.{has_cons}
use Rattle.mono_graph.proofs.Places.{present_below}
use Rattle.mono_graph.proofs.Parts.{length-part_by, in_part_by, part_by-has}
use Rattle.mono_problem.specs.declared.atom.Atom.{Atom}
use Rattle.mono_problem.specs.declared.atom.Predicate.{Predicate}
use Rattle.mono_problem.specs.Holds.{Holds, falls}
use Rattle.mono_problem.specs.WellFormed.{IsOver}
use Rattle.mono_problem.specs.Quiet.{under, over, part_to_hold, part_to_fail, Forces}
use Rattle.mono_problem.specs.declared.atom.Predicate.TheVariants as kind
use Rattle.mono_steps.specs.declared.lemma.Witness.{Witness}
use Rattle.mono_steps.specs.declared.lemma.Witness.TheVariants as by
use Rattle.mono_steps.specs.Witnesses.{serves, names_known, is_small, is_positive, rests_on_present, passes, part_not, part_free, is_shown}
use Rattle.mono_steps.proofs.Sets.{has-without}
use Rattle.mono_steps.specs.Switching.{literal_of}
use Rattle.mono_steps.proofs.Witnessed.{positive_holds, negative_excludes, passing_serves, passes-larger, passes-smaller}
use Rattle.mono_theory.specs.declared.evidence.Evidence.{Evidence}
use Rattle.mono_theory.specs.Theories.{concerns_of, atom_of, IsLemmaOf, IsUnitLemma}
use Rattle.mono_theory.specs.Evidences.{Decides, shown_by, only, all_but, IsEvidence, lemma_by, side}
use Rattle.mono_theory.specs.Frames.{IsVar}
use Rattle.mono_graph.proofs.Pigeons.{all_has}

-- ---- lists of places

map_has : (f : ℕ → ℤ) (ks : List ℕ) (k : ℕ) → IsTrue (has ks k) → IsTrue (has_lit (map f ks) (f k))
map_has f [] k h = absurd cc
map_has f (j ∷ ks) k h = elim (has_cons j k ks h) [
  | inl e ↦ or_left (int_eq (f k) (f j)) (has_lit (map f ks) (f k)) (subst (λ (i : ℕ). IsTrue (int_eq (f k) (f i))) (sym e) (lit_itself (f k)))
  | inr t ↦ or_right (int_eq (f k) (f j)) (has_lit (map f ks) (f k)) (map_has f ks k t)
]

record From (f : ℕ → ℤ) (ks : List ℕ) (l : ℤ) : Type 0 where
  pub place : ℕ
  pub has : IsTrue (has ks place)
  pub is : l ≡ f place

from_map : (f : ℕ → ℤ) (ks : List ℕ) (l : ℤ) → IsTrue (has_lit (map f ks) l) → From f ks l
from_map f [] l h = absurd cc
from_map f (j ∷ ks) l h = elim (or_cases (int_eq l (f j)) (has_lit (map f ks) l) h) [
  | inl e ↦ record { place = j; has = or_left (eqb j j) (has ks j) (eq-eqb j j refl); is = same_lit l (f j) e }
  | inr t ↦ (let r = from_map f ks l t in record { place = r.place; has = or_right (eqb j r.place) (has ks r.place) r.has; is = r.is })
]

-- ---- the part of some places alone, and that of all others

at_place : (f : ℕ → Bool) (g : Digraph) (k : ℕ) → k < length g.edges → present (map f (places g)) k ≡ f k
at_place f g k lt = get_or-map-range_with_len f 0 (length g.edges) k k false lt (omega arith)

below : (f : ℕ → Bool) (g : Digraph) (k : ℕ) → IsTrue (present (map f (places g)) k) → k < length g.edges
below f g k h = let lt = present_below (map f (places g)) k h in omega (arith, lt, length-map-range_with_len f 0 (length g.edges))

-- a place of the list is in the part of these alone, and not in that of all others
pub in_only : (g : Digraph) (ks : List ℕ) (k : ℕ) → k < length g.edges → IsTrue (has ks k) → IsTrue (present (only g ks) k)
in_only g ks k lt h = at_place (has ks) g k lt ∙ h

pub not_in_all_but : (g : Digraph) (ks : List ℕ) (k : ℕ) → k < length g.edges → IsTrue (has ks k) → present (all_but g ks) k ≡ false
not_in_all_but g ks k lt h = at_place (λ j. not (has ks j)) g k lt ∙ ap not h

pub in_all_but : (g : Digraph) (ks : List ℕ) (k : ℕ) → k < length g.edges → has ks k ≡ false → present (all_but g ks) k ≡ true
in_all_but g ks k lt h = at_place (λ j. not (has ks j)) g k lt ∙ ap not h

pub only-within : (g : Digraph) (ks : List ℕ) (P : List Bool) → ((k : ℕ) → IsTrue (has ks k) → IsTrue (present P k)) → IsSubpart (only g ks) P
only-within g ks P h = record { keeps = λ k here. h k (sym (at_place (has ks) g k (below (has ks) g k here)) ∙ here) }

pub within-all_but : (g : Digraph) (ks : List ℕ) (P : List Bool) → length P ≡ length g.edges → ((k : ℕ) → IsTrue (has ks k) → present P k ≡ false) → IsSubpart P (all_but g ks)
within-all_but g ks P len h = record {
  keeps = λ k here.
      let lt = present_below P k here in
      at_place (λ j. not (has ks j)) g k (omega (arith, lt, len)) ∙ ap not (false_from_ne_true (has ks k) (λ t. both_ways (present P k) (h k t) here));
}

-- ---- by the edges on which the witness rests

-- what evidence says, where its edges have the value b
pub record IsSided (g : Digraph) (P : List Bool) (q : Predicate) (e : Evidence) (b : Bool) : Type 0 where
  pub rests : rests_on_present e.witness ≡ b
  pub known : IsTrue (names_known g e.witness)
  pub small : IsTrue (is_small e.witness)
  pub sided : (k : ℕ) → IsTrue (has e.edges k) → (k < length g.edges) × (present P k ≡ b)
  pub passes : IsTrue (passes g (cond b (only g e.edges) (all_but g e.edges)) q e.witness)

pub by_value : {g : Digraph} {P : List Bool} {q : Predicate} {e : Evidence} {b : Bool} → rests_on_present e.witness ≡ b → IsEvidence g P q e → IsSided g P q e b
by_value {g = g} {P = P} {q = q} {e = e} {b = b} s h = record {
  rests = s;
  known = h.known;
  small = h.small;
  sided = λ k t. let a = all_has (λ j. (j < length g.edges) × (present P j ≡ rests_on_present e.witness)) e.edges k h.sided t in (a.0, a.1 ∙ s);
  passes = subst (λ (c : Bool). IsTrue (passes g (cond c (only g e.edges) (all_but g e.edges)) q e.witness)) s h.passes;
}

-- the witness passes over the whole part
sided_passes : {g : Digraph} {P : List Bool} {q : Predicate} {e : Evidence} (b : Bool) → length P ≡ length g.edges → IsSided g P q e b → IsTrue (passes g P q e.witness)
sided_passes {g = g} {P = P} {q = q} {e = e} true len h = passes-larger g (only g e.edges) P q e.witness (only-within g e.edges P (λ k t. (h.sided k t).1)) h.rests h.passes
sided_passes {g = g} {P = P} {q = q} {e = e} false len h = passes-smaller g P (all_but g e.edges) q e.witness (within-all_but g e.edges P len (λ k t. (h.sided k t).1)) h.rests h.passes

pub evidence_passes : (g : Digraph) (P : List Bool) (q : Predicate) (e : Evidence) → length P ≡ length g.edges → IsEvidence g P q e → IsTrue (passes g P q e.witness)
evidence_passes g P q e len h = sided_passes (rests_on_present e.witness) len (by_value refl h)

-- the sign of a witness that passes
pub sign_of : (g : Digraph) (P : List Bool) (q : Predicate) (w : Witness) → IsTrue (passes g P q w) → is_positive w ≡ shown_by q (rests_on_present w)
sign_of g P (kind.Reach u v) (by.Path es) h = refl
sign_of g P (kind.Steps u v most) (by.Path es) h = refl
sign_of g P (kind.Distance u v most) (by.Path es) h = refl
sign_of g P (kind.Reach u v) (by.Cut us) h = refl
sign_of g P (kind.Steps u v most) (by.Label ls) h = refl
sign_of g P (kind.Distance u v most) (by.Label ls) h = refl
sign_of g P (kind.Flow s t least) (by.Flow ms) h = refl
sign_of g P (kind.Flow s t least) (by.FlowCut us) h = refl
sign_of g P (kind.Tree most) (by.Tree es) h = refl
sign_of g P (kind.Tree most) (by.Split us) h = refl
sign_of g P (kind.Tree most) (by.Least es) h = refl
sign_of g P kind.Acyclic (by.Cycle es) h = refl
sign_of g P kind.Acyclic (by.Order us) h = refl
sign_of g P q w h = absurd cc

-- evidence decides its predicate
pub decides : (g : Digraph) (P : List Bool) (q : Predicate) (e : Evidence) → IsGraph g → IsOver g q → length P ≡ length g.edges → IsEvidence g P q e → Decides g P q (is_positive e.witness)
decides g P q e ok over len h = elim (cases_Bool (is_positive e.witness)) [
  | inl s ↦ subst (Decides g P q) (sym s) (positive_holds g P q e.witness s (evidence_passes g P q e len h))
  | inr s ↦ subst (Decides g P q) (sym s) (negative_excludes g P q e.witness ok over len s (evidence_passes g P q e len h))
]

-- ---- the lemma is shown

-- by the sign s of the head and the value b of the edges
clause_at : Digraph → Atom → List ℕ → Bool → Bool → List ℤ
clause_at g x ks s b = literal_of s x.var ∷ map (λ k. literal_of (not b) (edge_at g k).var) ks

in_clause : (g : Digraph) (x : Atom) (ks : List ℕ) (s b : Bool) (k : ℕ) → IsTrue (has ks k) → IsTrue (has_lit (clause_at g x ks s b) (literal_of (not b) (edge_at g k).var))
unfolding clause_at
in_clause g x ks s b k t = or_right (int_eq (literal_of (not b) (edge_at g k).var) (literal_of s x.var)) (has_lit (map (λ j. literal_of (not b) (edge_at g j).var) ks) (literal_of (not b) (edge_at g k).var)) (map_has (λ j. literal_of (not b) (edge_at g j).var) ks k t)

head_in : (g : Digraph) (x : Atom) (ks : List ℕ) (s b : Bool) → IsTrue (has_lit (clause_at g x ks s b) (literal_of s x.var))
unfolding clause_at
head_in g x ks s b = or_left (int_eq (literal_of s x.var) (literal_of s x.var)) _ (lit_itself (literal_of s x.var))

up_passes : {g : Digraph} {P : List Bool} {q : Predicate} {e : Evidence} (x : Atom) (s : Bool) → IsSided g P q e true → IsTrue (passes g (part_not (clause_at g x e.edges s true) g) q e.witness)
up_passes {g = g} {P = P} {q = q} {e = e} x s h =
    let c : List ℤ = clause_at g x e.edges s true in
    passes-larger g (only g e.edges) (part_not c g) q e.witness
    (only-within g e.edges (part_not c g) (λ k t. part_by-has (λ d. has_lit c (neg_ℤ (pos d.var))) g k (h.sided k t).0 (in_clause g x e.edges s true k t))) h.rests h.passes

down_passes : {g : Digraph} {P : List Bool} {q : Predicate} {e : Evidence} (x : Atom) (s : Bool) → IsSided g P q e false → IsTrue (passes g (part_free (clause_at g x e.edges s false) g) q e.witness)
down_passes {g = g} {P = P} {q = q} {e = e} x s h =
    let c : List ℤ = clause_at g x e.edges s false in
    passes-smaller g (part_free c g) (all_but g e.edges) q e.witness
    (within-all_but g e.edges (part_free c g) (length-part_by _ g) (λ k t.
    false_from_ne_true (present (part_free c g) k) (λ on. both_ways (has_lit c (pos (edge_at g k).var)) (not-true _ (in_part_by (λ d. not (has_lit c (pos d.var))) g k on)) (in_clause g x e.edges s false k t)))) h.rests h.passes

-- a lemma with a clause and a witness is shown where the witness passes over the clause's part
shown_of : Digraph → Atom → List ℤ → Witness → Bool → Bool → Bool
shown_of g x c w s b = serves w x.predicate && names_known g w && is_small w && (has_lit c (cond s (pos x.var) (neg_ℤ (pos x.var))) && passes g (cond b (part_not c g) (part_free c g)) x.predicate w)

passes_for : Digraph → List ℤ → Predicate → Witness → Bool → Bool
passes_for g c q w b = passes g (cond b (part_not c g) (part_free c g)) q w

shown_from : {g : Digraph} {P : List Bool} {e : Evidence} {s b : Bool} (x : Atom) → is_positive e.witness ≡ s → IsSided g P x.predicate e b → IsTrue (passes_for g (clause_at g x e.edges s b) x.predicate e.witness b) → IsTrue (is_shown g x (lemma_by g x e))
unfolding shown_of passes_for clause_at
shown_from {g = g} {e = e} {s = s} {b = b} x sign h p =
    let w : Witness = e.witness in
    let c : List ℤ = clause_at g x e.edges s b in
    let whole : IsTrue (shown_of g x c w s b) =
    and_from _ _ (and_from _ (is_small w) (and_from (serves w x.predicate) (names_known g w) (passing_serves g _ x.predicate w p) h.known) h.small)
    (and_from (has_lit c (literal_of s x.var)) _ (head_in g x e.edges s b) p) in
    subst (λ (r : Bool). IsTrue (shown_of g x (clause_at g x e.edges r (rests_on_present w)) w r (rests_on_present w))) (sym sign)
    (subst (λ (a : Bool). IsTrue (shown_of g x (clause_at g x e.edges s a) w s a)) (sym h.rests) whole)

pub sided_shown : {g : Digraph} {P : List Bool} {e : Evidence} (x : Atom) (s b : Bool) → is_positive e.witness ≡ s → IsSided g P x.predicate e b → IsTrue (is_shown g x (lemma_by g x e))
unfolding passes_for
sided_shown x s true sign h = shown_from x sign h (up_passes x s h)
sided_shown x s false sign h = shown_from x sign h (down_passes x s h)

-- ---- its other literals are false

-- the part of one side under a list
sided_part : Digraph → List ℤ → Bool → List Bool
sided_part g t b = cond b (under g t) (over g t)

edge_false : (g : Digraph) (t : List ℤ) (b : Bool) (k : ℕ) → k < length g.edges → present (sided_part g t b) k ≡ b → IsTrue (is_false_in t (literal_of (not b) (edge_at g k).var))
unfolding sided_part
edge_false g t true k lt h = subst (λ (l : ℤ). IsTrue (has_lit t l)) (sym (neg-neg (pos (edge_at g k).var))) (in_part_by (λ d. is_true_in t (pos d.var)) g k h)
edge_false g t false k lt h = by (is_false_in t (pos (edge_at g k).var)) refl
  where
    by : (a : Bool) → is_false_in t (pos (edge_at g k).var) ≡ a → a ≡ true
    by true e = refl
    by false e = absurd (both_ways (present (over g t) k) h (part_by-has (λ d. not (is_false_in t (pos d.var))) g k lt (ap not e)))

edges_false : (g : Digraph) (t : List ℤ) (x : Atom) (ks : List ℕ) (s b : Bool) → ((k : ℕ) → IsTrue (has ks k) → (k < length g.edges) × (present (sided_part g t b) k ≡ b)) → IsTrue (others_false t (clause_at g x ks s b) (literal_of s x.var))
unfolding clause_at
edges_false g t x ks s b sided =
    let head : ℤ = literal_of s x.var in
    let f : ℕ → ℤ = λ k. literal_of (not b) (edge_at g k).var in
    from_each (is_false_in t) (without (clause_at g x ks s b) head) (λ l h.
    let a = and_parts (not (int_eq head l)) (has_lit (clause_at g x ks s b) l) (sym (has-without (clause_at g x ks s b) head l) ∙ h) in
    elim (or_cases (int_eq l head) (has_lit (map f ks) l) a.1) [
      | inl e ↦ absurd (both_ways (int_eq head l) (not-true (int_eq head l) a.0) (subst (λ (m : ℤ). IsTrue (int_eq head m)) (sym (same_lit l head e)) (lit_itself head)))
      | inr e ↦ (let r = from_map f ks l e in let here = sided r.place r.has in subst (λ (m : ℤ). IsTrue (is_false_in t m)) (sym r.is) (edge_false g t b r.place here.0 here.1))
    ])

-- ---- its variables concern the theory

pub literal_var : (b : Bool) (v : ℕ) → nat_abs (literal_of b v) ≡ v
literal_var true v = refl
literal_var false v = var-neg (pos v)

all_from_lits : (P : ℤ → Type 0) (c : List ℤ) → ((l : ℤ) → IsTrue (has_lit c l) → P l) → All P c
all_from_lits P c h = λ k d lt. h (get_or c k d) (list_any_at (int_eq (get_or c k d)) c k d lt (lit_itself (get_or c k d)))

clause_concerned : (g : Digraph) (atoms : List Atom) (x : Atom) (ks : List ℕ) (s b : Bool) → IsTrue (list_any (λ (y : Atom). eqb y.var x.var) atoms) → ((k : ℕ) → IsTrue (has ks k) → k < length g.edges)
    → All (λ l. IsTrue (concerns_of g atoms (var_of l))) (clause_at g x ks s b)
unfolding clause_at
clause_concerned g atoms x ks s b own lt =
    let f : ℕ → ℤ = λ k. literal_of (not b) (edge_at g k).var in
    all_from_lits (λ l. IsTrue (concerns_of g atoms (var_of l))) (clause_at g x ks s b) (λ l h. elim (or_cases (int_eq l (literal_of s x.var)) (has_lit (map f ks) l) h) [
      | inl e ↦ subst (λ (v : ℕ). IsTrue (concerns_of g atoms v)) (sym (ap nat_abs (same_lit l _ e) ∙ literal_var s x.var)) (or_right (list_any (λ (d : Edge). eqb d.var x.var) g.edges) (list_any (λ (y : Atom). eqb y.var x.var) atoms) own)
      | inr e ↦ (
          let r = from_map f ks l e in
          let v : ℕ = (edge_at g r.place).var in
          subst (λ (w : ℕ). IsTrue (concerns_of g atoms w)) (sym (ap nat_abs r.is ∙ literal_var (not b) v))
          (or_left (list_any (λ (d : Edge). eqb d.var v) g.edges) (list_any (λ (y : Atom). eqb y.var v) atoms) (list_any_at (λ (d : Edge). eqb d.var v) g.edges r.place no_edge (lt r.place r.has) (eq-eqb v v refl))))
    ])

-- ---- all of it

pub sided_lemma : {g : Digraph} {e : Evidence} (x : Atom) (atoms : List Atom) (t : List ℤ) (n : ℕ) (s b : Bool) → atom_of atoms n ≡ Some x → x.number ≡ n → IsTrue (list_any (λ (y : Atom). eqb y.var x.var) atoms)
    → is_positive e.witness ≡ s → IsSided g (cond b (under g t) (over g t)) x.predicate e b → IsLemmaOf g atoms t n (literal_of s x.var) (lemma_by g x e)
unfolding sided_part clause_at
sided_lemma {g = g} {e = e} x atoms t n s b found number own sign h = record {
  number = number;
  shown = subst (λ (o : Option Atom). MatchOption o ⊥ (λ y. IsTrue (is_shown g y (lemma_by g x e)))) (sym found) (sided_shown x s b sign h);
  concerned = both (λ c. All (λ l. IsTrue (concerns_of g atoms (var_of l))) c) (clause_concerned g atoms x e.edges s b own (λ k u. (h.sided k u).0));
  has = both (λ c. IsTrue (has_lit c (literal_of s x.var))) (head_in g x e.edges s b);
  others = both (λ c. IsTrue (others_false t c (literal_of s x.var))) (edges_false g t x e.edges s b h.sided);
}
  where
    both : (C : List ℤ → Type 0) → C (clause_at g x e.edges s b) → C (clause_at g x e.edges (is_positive e.witness) (rests_on_present e.witness))
    both C c = subst (λ (r : Bool). C (clause_at g x e.edges r (rests_on_present e.witness))) (sym sign) (subst (λ (a : Bool). C (clause_at g x e.edges s a)) (sym h.rests) c)

-- ---- a clause of which one literal is open

open_literal : (t : List ℤ) (b : Bool) (v : ℕ) → IsTrue (is_open_in t (pos v)) → IsTrue (is_open_in t (literal_of b v))
open_literal t true v h = h
open_literal t false v h =
    let a = and_parts (not (is_true_in t (pos v))) (not (is_false_in t (pos v))) h in
    and_from (not (is_true_in t (neg_ℤ (pos v)))) (not (is_false_in t (neg_ℤ (pos v)))) a.1 (subst (λ (l : ℤ). IsTrue (not (has_lit t l))) (sym (neg-neg (pos v))) a.0)

-- the edges but the one at the place k are as they are under the list
others_but : (g : Digraph) (t : List ℤ) (x : Atom) (ks : List ℕ) (s b : Bool) (k : ℕ) → IsTrue (is_false_in t (literal_of s x.var)) → ((j : ℕ) → IsTrue (has ks j) → (j < length g.edges) × (present (set (sided_part g t b) k b) j ≡ b))
    → IsTrue (others_false t (clause_at g x ks s b) (literal_of (not b) (edge_at g k).var))
unfolding clause_at
others_but g t x ks s b k denied sided =
    let f : ℕ → ℤ = λ j. literal_of (not b) (edge_at g j).var in
    from_each (is_false_in t) (without (clause_at g x ks s b) (f k)) (λ l h.
    let a = and_parts (not (int_eq (f k) l)) (has_lit (clause_at g x ks s b) l) (sym (has-without (clause_at g x ks s b) (f k) l) ∙ h) in
    elim (or_cases (int_eq l (literal_of s x.var)) (has_lit (map f ks) l) a.1) [
      | inl e ↦ subst (λ (m : ℤ). IsTrue (is_false_in t m)) (sym (same_lit l (literal_of s x.var) e)) denied
      | inr e ↦ (
          let r = from_map f ks l e in
          let here = sided r.place r.has in
          elim (cases_eq r.place k) [
            | inl same ↦ absurd (both_ways (int_eq (f k) l) (not-true (int_eq (f k) l) a.0) (subst (λ (m : ℤ). IsTrue (int_eq (f k) m)) (sym (r.is ∙ ap f same)) (lit_itself (f k))))
            | inr other ↦ subst (λ (m : ℤ). IsTrue (is_false_in t m)) (sym r.is) (edge_false g t b r.place here.0 (sym (get_or-set_other (sided_part g t b) k r.place b false other) ∙ here.1))
          ])
    ])

-- the lemma of evidence that one more edge makes right is unit where the edge is open and the atom's variable says otherwise
pub sided_unit : {g : Digraph} {e : Evidence} (x : Atom) (atoms : List Atom) (t : List ℤ) (k : ℕ) (s b : Bool) → atom_of atoms x.number ≡ Some x → IsTrue (list_any (λ (y : Atom). eqb y.var x.var) atoms) → is_positive e.witness ≡ s
    → IsSided g (set (cond b (under g t) (over g t)) k b) x.predicate e b → IsTrue (has e.edges k) → IsTrue (is_open_in t (pos (edge_at g k).var)) → IsTrue (is_false_in t (literal_of s x.var))
    → IsUnitLemma g atoms t (literal_of (not b) (edge_at g k).var) (lemma_by g x e)
unfolding sided_part clause_at
sided_unit {g = g} {e = e} x atoms t k s b found own sign h used open_now denied = record {
  shown = subst (λ (o : Option Atom). MatchOption o ⊥ (λ y. IsTrue (is_shown g y (lemma_by g x e)))) (sym found) (sided_shown x s b sign h);
  concerned = both (λ c. All (λ l. IsTrue (concerns_of g atoms (var_of l))) c) (clause_concerned g atoms x e.edges s b own (λ j u. (h.sided j u).0));
  has = both (λ c. IsTrue (has_lit c (literal_of (not b) (edge_at g k).var))) (in_clause g x e.edges s b k used);
  is_open = open_literal t (not b) (edge_at g k).var open_now;
  others = both (λ c. IsTrue (others_false t c (literal_of (not b) (edge_at g k).var))) (others_but g t x e.edges s b k denied h.sided);
}
  where
    both : (C : List ℤ → Type 0) → C (clause_at g x e.edges s b) → C (clause_at g x e.edges (is_positive e.witness) (rests_on_present e.witness))
    both C c = subst (λ (r : Bool). C (clause_at g x e.edges r (rests_on_present e.witness))) (sym sign) (subst (λ (a : Bool). C (clause_at g x e.edges s a)) (sym h.rests) c)

-- ---- the side of a forced literal

not_above : (x : ℕ) → int_lt (pos 0) (neg_ℤ (pos x)) ≡ false
not_above zero = refl
not_above (suc n) = refl

above : (x : ℕ) → 1 ≤ x → int_lt (pos 0) (pos x) ≡ true
above x h = grind (arith, ints)

-- the values on which evidence of a sign rests
back : (q : Predicate) (s r : Bool) → s ≡ shown_by q r → r ≡ shown_by q s
back q s r e = by (falls q) s r e
  where
    by : (f a c : Bool) → a ≡ cond f (not c) c → c ≡ cond f (not a) a
    by true true true e = absurd cc
    by true true false e = refl
    by true false true e = refl
    by true false false e = absurd cc
    by false a c e = sym e

-- evidence on the side of a literal, where its sign is that of the literal, makes the lemma
beside_lemma : (g : Digraph) (atoms : List Atom) (t : List ℤ) (n : ℕ) (x : Atom) (e : Evidence) (s : Bool) → atom_of atoms n ≡ Some x → x.number ≡ n → IsTrue (list_any (λ (y : Atom). eqb y.var x.var) atoms) → is_positive e.witness ≡ s
    → IsEvidence g (cond (shown_by x.predicate s) (under g t) (over g t)) x.predicate e → length (cond (shown_by x.predicate s) (under g t) (over g t)) ≡ length g.edges → IsLemmaOf g atoms t n (literal_of s x.var) (lemma_by g x e)
beside_lemma g atoms t n x e s found number own sign ev len =
    let rests : rests_on_present e.witness ≡ shown_by x.predicate s = back x.predicate s (rests_on_present e.witness) (sym sign ∙ sign_of g _ x.predicate e.witness (evidence_passes g _ x.predicate e len ev)) in
    sided_lemma x atoms t n s (shown_by x.predicate s) found number own sign (by_value rests ev)

side_len : (g : Digraph) (t : List ℤ) (b : Bool) → length (cond b (under g t) (over g t)) ≡ length g.edges
side_len g t true = length-part_by _ g
side_len g t false = length-part_by _ g

to_hold : (g : Digraph) (t : List ℤ) (q : Predicate) → part_to_hold q g t ≡ cond (shown_by q true) (under g t) (over g t)
to_hold g t q = by (falls q)
  where
    by : (f : Bool) → cond f (over g t) (under g t) ≡ cond (cond f (not true) true) (under g t) (over g t)
    by true = refl
    by false = refl

to_fail : (g : Digraph) (t : List ℤ) (q : Predicate) → part_to_fail q g t ≡ cond (shown_by q false) (under g t) (over g t)
to_fail g t q = by (falls q)
  where
    by : (f : Bool) → cond f (under g t) (over g t) ≡ cond (cond f (not false) false) (under g t) (over g t)
    by true = refl
    by false = refl

pub explains : (g : Digraph) (atoms : List Atom) (t : List ℤ) (n : ℕ) (x : Atom) (l : ℤ) (e : Evidence) → IsGraph g → IsVar x.var → IsOver g x.predicate
    → atom_of atoms n ≡ Some x → x.number ≡ n → IsTrue (list_any (λ (y : Atom). eqb y.var x.var) atoms)
    → Forces g x t l → IsEvidence g (side g x.predicate t l) x.predicate e → IsLemmaOf g atoms t n l (lemma_by g x e)
explains g atoms t n x l e ok var fits found number own (inl (is, holds)) h =
    let P : List Bool = cond (shown_by x.predicate true) (under g t) (over g t) in
    let at : side g x.predicate t l ≡ P = ap (λ b. cond (shown_by x.predicate b) (under g t) (over g t)) (ap (int_lt (pos 0)) is ∙ above x.var var.0) in
    let ev : IsEvidence g P x.predicate e = subst (λ (P : List Bool). IsEvidence g P x.predicate e) at h in
    let len : length P ≡ length g.edges = side_len g t (shown_by x.predicate true) in
    elim (cases_Bool (is_positive e.witness)) [
      | inl s ↦ subst (λ (m : ℤ). IsLemmaOf g atoms t n m (lemma_by g x e)) (sym is) (beside_lemma g atoms t n x e true found number own s ev len)
      | inr s ↦ absurd (subst (Decides g P x.predicate) s (decides g P x.predicate e ok fits len ev) (subst (λ (Q : List Bool). Holds g Q x.predicate) (to_hold g t x.predicate) holds))
    ]
explains g atoms t n x l e ok var fits found number own (inr (is, fails)) h =
    let P : List Bool = cond (shown_by x.predicate false) (under g t) (over g t) in
    let at : side g x.predicate t l ≡ P = ap (λ b. cond (shown_by x.predicate b) (under g t) (over g t)) (ap (int_lt (pos 0)) is ∙ not_above x.var) in
    let ev : IsEvidence g P x.predicate e = subst (λ (P : List Bool). IsEvidence g P x.predicate e) at h in
    let len : length P ≡ length g.edges = side_len g t (shown_by x.predicate false) in
    elim (cases_Bool (is_positive e.witness)) [
      | inl s ↦ absurd (fails (subst (λ (Q : List Bool). Holds g Q x.predicate) (sym (to_fail g t x.predicate)) (subst (Decides g P x.predicate) s (decides g P x.predicate e ok fits len ev))))
      | inr s ↦ subst (λ (m : ℤ). IsLemmaOf g atoms t n m (lemma_by g x e)) (sym is) (beside_lemma g atoms t n x e false found number own s ev len)
    ]
