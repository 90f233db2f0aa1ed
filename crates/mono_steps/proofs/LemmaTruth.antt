-- Justified lemmas are true wherever the predicates agree with their graphs.
use Rattle.std.proofs.Common.{◌≡◌, ℕ, zero, suc, ◌<◌, ◌≤◌, Bool, true, false, not, ◌&&◌, List, [], ◌∷◌, length, get_or, slice_get, Option, Some, None, refl, sym, subst, ◌∙◌, inl, inr, arith, ℤ, pos, neg_ℤ, ◌↔◌}
use Rattle.std.specs.Prelude.{IsTrue, if◌then◌else◌, nat_le}
use Rattle.std.proofs.lemmas.Bool.{and_parts, or_cases, leb-true, both_ways, not_from_false, true_from_ne_false, false_from_ne_true}
use Rattle.mono_base.specs.Literal.{lit_true, clause_true, has_lit, var_of}
use Rattle.mono_base.proofs.Partials.{var-neg}
use Rattle.mono_base.proofs.Truth.{true_by, same_lit, pos_true, neg_true}
use Rattle.mono_graph.specs.Digraph.{Digraph, IsGraph, IsSubpart, enabled}
use Rattle.mono_graph.proofs.Parts.{part_by-larger, length-part_by}
use Rattle.mono_problem.specs.declared.atom.Atom.{Atom}
use Rattle.mono_problem.specs.Instance.{Instance, graph_at, no_graph, numbered}
use Rattle.mono_problem.specs.WellFormed.{IsInstance, IsOver}
use Rattle.mono_problem.specs.Holds.{HoldsAtom, Agrees}
use Rattle.mono_steps.specs.declared.lemma.Lemma.{Lemma}
use Rattle.mono_steps.specs.ChainSteps.{names_vars}
use Rattle.mono_steps.specs.Witnesses.{serves, is_shown, is_positive, rests_on_present, is_small, names_known, passes, part_not, part_free, part_for, predicate_literal, shows_clause, justifies_by, justifies}
use Rattle.mono_steps.proofs.Witnessed.{positive_holds, negative_excludes, passes-larger, passes-smaller}

-- ---- items of a number

record StandsAt {A : Type 0} (xs : List A) (k : ℕ) (x : A) : Type 0 where
  low : k < length xs
  is : get_or xs k x ≡ x

stands_at : {A : Type 0} (xs : List A) (k : ℕ) (x : A) → slice_get xs k ≡ Some x → StandsAt xs k x
stands_at [] k x e = absurd cc
stands_at (y ∷ ys) zero x e = record { low = omega arith; is = cc }
stands_at (y ∷ ys) (suc k) x e = let r = stands_at ys k x e in record { low = omega (arith, r.low); is = r.is }

-- what holds at every place holds of the item of a number
of_numbered : {A : Type 0} (P : A → Type 0) (xs : List A) (n : ℕ) (x : A) → ((k : ℕ) (d : A) → k < length xs → P (get_or xs k d)) → numbered xs n ≡ Some x → P x
of_numbered P xs zero x h e = absurd cc
of_numbered P xs (suc k) x h e = let r = stands_at xs k x e in subst P r.is (h k x r.low)

-- ---- a false clause

-- a literal of a false clause is false
false_lit : (a : ℕ → Bool) (c : List ℤ) (l : ℤ) → clause_true a c ≡ false → IsTrue (has_lit c l) → lit_true a l ≡ false
false_lit a c l f h = false_from_ne_true (lit_true a l) (λ t. both_ways (clause_true a c) f (true_by a l c h t))

-- the variable of a literal of the clause is one of the problem's
var_low : (p : Instance) (c : List ℤ) (l : ℤ) → IsTrue (names_vars p c) → IsTrue (has_lit c l) → 0 < var_of l
var_low p [] l n h = absurd cc
var_low p (m ∷ ms) l n h =
    let a = and_parts (nat_le 1 (var_of m) && nat_le (var_of m) p.vars) (names_vars p ms) n in
    elim (or_cases _ (has_lit ms l) h) [
      | inl e ↦ let ge : 1 ≤ var_of m = leb-true 1 (var_of m) (and_parts (nat_le 1 (var_of m)) (nat_le (var_of m) p.vars) a.0).0 in
          subst (λ (k : ℤ). 0 < var_of k) (sym (same_lit l m e)) (omega arith)
      | inr e ↦ var_low p ms l a.1 e
    ]

-- a false clause with the literal says what its variable is
off_by : (p : Instance) (a : ℕ → Bool) (c : List ℤ) (x : ℕ) → IsTrue (names_vars p c) → clause_true a c ≡ false → IsTrue (has_lit c (pos x)) → a x ≡ false
off_by p a c x names f h = sym (pos_true a x (var_low p c (pos x) names h)) ∙ false_lit a c (pos x) f h

on_by : (p : Instance) (a : ℕ → Bool) (c : List ℤ) (x : ℕ) → IsTrue (names_vars p c) → clause_true a c ≡ false → IsTrue (has_lit c (neg_ℤ (pos x))) → IsTrue (a x)
on_by p a c x names f h =
    let positive : 0 < x = subst (λ (n : ℕ). 0 < n) (var-neg (pos x)) (var_low p c (neg_ℤ (pos x)) names h) in
    let off : not (a x) ≡ false = sym (neg_true a x positive) ∙ false_lit a c (neg_ℤ (pos x)) f h in
    true_from_ne_false (a x) (λ e. both_ways (not (a x)) off (not_from_false (a x) e))

-- where a clause is false, the edges whose negated variable it has are enabled, and the enabled ones are among those whose
-- variable it lacks
part_not-enabled : (p : Instance) (a : ℕ → Bool) (c : List ℤ) (g : Digraph) → IsTrue (names_vars p c) → clause_true a c ≡ false → IsSubpart (part_not c g) (enabled a g)
part_not-enabled p a c g names f = part_by-larger (λ e. has_lit c (neg_ℤ (pos e.var))) (λ e. a e.var) g (λ e h. on_by p a c e.var names f h)

enabled-part_free : (p : Instance) (a : ℕ → Bool) (c : List ℤ) (g : Digraph) → IsTrue (names_vars p c) → clause_true a c ≡ false → IsSubpart (enabled a g) (part_free c g)
enabled-part_free p a c g names f = part_by-larger (λ e. a e.var) (λ e. not (has_lit c (pos e.var))) g
    (λ e h. not_from_false (has_lit c (pos e.var)) (false_from_ne_true (has_lit c (pos e.var)) (λ has. both_ways (a e.var) (off_by p a c e.var names f has) h)))

-- ---- lemmas

record Parts (p : Instance) (x : Atom) (l : Lemma) : Type 0 where
  names : IsTrue (names_vars p l.clause)
  has : IsTrue (has_lit l.clause (predicate_literal x l.witness))
  passed : IsTrue (passes (graph_at p x.graph) (part_for l.clause (graph_at p x.graph) l.witness) x.predicate l.witness)

parts_of : (p : Instance) (x : Atom) (l : Lemma) → IsTrue (justifies_by p x l) → Parts p x l
parts_of p x l h =
    let g : Digraph = graph_at p x.graph in
    let a = and_parts (names_vars p l.clause) (is_shown g x l) h in
    let b = and_parts (serves l.witness x.predicate && names_known g l.witness && is_small l.witness) (shows_clause g x l.clause l.witness) a.1 in
    let c = and_parts (has_lit l.clause (predicate_literal x l.witness)) (passes g (part_for l.clause g l.witness) x.predicate l.witness) b.1 in
    record { names = a.0; has = c.0; passed = c.1 }

lemma_true_by : (p : Instance) (a : ℕ → Bool) (x : Atom) (l : Lemma) → IsGraph (graph_at p x.graph) → IsOver (graph_at p x.graph) x.predicate
    → (IsTrue (a x.var) ↔ HoldsAtom p a x) → IsTrue (justifies_by p x l) → IsTrue (clause_true a l.clause)
lemma_true_by p a x l ok over agrees h = true_from_ne_false (clause_true a l.clause) (λ f. never (parts_of p x l h) f (is_positive l.witness) refl)
  where
    g : Digraph
    g = graph_at p x.graph

    c : List ℤ
    c = l.clause

    low : IsTrue (names_vars p c) → clause_true a c ≡ false → (r : Bool) → rests_on_present l.witness ≡ r → IsTrue (passes g (if r then part_not c g else part_free c g) x.predicate l.witness) → IsTrue (passes g (enabled a g) x.predicate l.witness)
    low names f true e t = passes-larger g (part_not c g) (enabled a g) x.predicate l.witness (part_not-enabled p a c g names f) e t
    low names f false e t = passes-smaller g (enabled a g) (part_free c g) x.predicate l.witness (enabled-part_free p a c g names f) e t

    never : Parts p x l → clause_true a c ≡ false → (b : Bool) → is_positive l.witness ≡ b → ⊥
    never k f b e = by_sign b e (subst (λ (b : Bool). IsTrue (has_lit c (if b then pos x.var else neg_ℤ (pos x.var)))) e k.has)
      where
        passed : IsTrue (passes g (enabled a g) x.predicate l.witness)
        passed = low k.names f (rests_on_present l.witness) refl k.passed

        by_sign : (b : Bool) → is_positive l.witness ≡ b → IsTrue (has_lit c (if b then pos x.var else neg_ℤ (pos x.var))) → ⊥
        by_sign true e has = both_ways (a x.var) (off_by p a c x.var k.names f has) (agrees.1 (positive_holds g (enabled a g) x.predicate l.witness e passed))
        by_sign false e has = negative_excludes g (enabled a g) x.predicate l.witness ok over (length-part_by (λ d. a d.var) g) e passed (agrees.0 (on_by p a c x.var k.names f has))

pub lemma_true : (p : Instance) (a : ℕ → Bool) (l : Lemma) → IsInstance p → Agrees p a → IsTrue (justifies p l) → IsTrue (clause_true a l.clause)
lemma_true p a l ok agrees h = by_atom (numbered p.atoms l.atom) refl h
  where
    by_atom : (o : Option Atom) → numbered p.atoms l.atom ≡ o → IsTrue (elim o [ None ↦ false | Some x ↦ justifies_by p x l ]) → IsTrue (clause_true a l.clause)
    by_atom None e h = absurd cc
    by_atom (Some x) e h =
        let held : (x.graph < length p.graphs) × IsOver (graph_at p x.graph) x.predicate =
        of_numbered (λ (y : Atom). (y.graph < length p.graphs) × IsOver (graph_at p y.graph) y.predicate) p.atoms l.atom x (λ k d lt. let i = ok.atoms k d lt in (i.graph, i.over)) e in
        let graph = ok.graphs x.graph no_graph held.0 in
        lemma_true_by p a x l graph.graph held.1 (of_numbered (λ y. IsTrue (a y.var) ↔ HoldsAtom p a y) p.atoms l.atom x agrees e) h
