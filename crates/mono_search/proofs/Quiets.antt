-- Quiet atoms: over the literals that concern a theory and over all, and what they say of lemmas.
use Rattle.std.proofs.Common.{zero, suc, ◌≡◌, ℕ, ◌<◌, ◌≤◌, eqb, eq-eqb, Bool, true, false, not, ◌&&◌, List, length, take, arith, refl, sym, ◌∙◌, ap, cond, get_or, subst, inl, inr, ℤ, pos, neg_ℤ, nat_abs, All}
use Rattle.std.specs.Prelude.{Option, Some, None, MatchOption, IsTrue, slice_get}
use Rattle.std.specs.List.{list_any}
use Rattle.std.specs.Ordering.{int_eq}
use Rattle.std.proofs.Math.IntN.{neg_ℤ-neg_ℤ}
use Rattle.std.proofs.lemmas.List.{length-take}
use Rattle.std.proofs.lemmas.List.Folds.{list_any_at}
use Rattle.std.proofs.lemmas.Bool.{or_left, or_right, and_parts, both_ways, not-true, not_from_false, false_from_ne_true}
use Rattle.std.proofs.lemmas.Map.Views.{any-filter_same}
use Rattle.std.proofs.lemmas.Option.{get_or_from_slice_get, slice_get-get_or}
use Rattle.mono_base.specs.Literal.{var_of, has_lit, IsLitWithin}
use Rattle.mono_base.specs.Partial.{is_true_in, is_false_in, is_partial, is_false_clause}
use Rattle.mono_base.specs.declared.limits.TheConstants.{MAX_VARS}
use Rattle.mono_base.proofs.Truth.{same_lit}
use Rattle.mono_graph.specs.Digraph.{Digraph, IsGraph, IsSubpart}
use Rattle.mono_graph.specs.declared.edge.Edge.{Edge}
use Rattle.mono_graph.proofs.Parts.{part_by-larger, length-part_by}
use Rattle.mono_problem.specs.declared.atom.Atom.{Atom}
use Rattle.mono_problem.specs.Instance.{Instance, graph_at, numbered, no_graph}
use Rattle.mono_problem.specs.WellFormed.{IsInstance, IsOver, IsAtomAt}
use Rattle.mono_problem.specs.declared.atom.Predicate.{Predicate}
use Rattle.mono_problem.specs.Holds.{Holds, falls}
use Rattle.mono_problem.specs.Quiet.{under, over, part_to_hold, part_to_fail, Forces, IsQuietAtom}
use Rattle.mono_problem.proofs.Bounds.{map_same}
use Rattle.mono_steps.specs.declared.lemma.Lemma.{Lemma}
use Rattle.mono_steps.specs.ChainSteps.{names_vars}
use Rattle.mono_steps.specs.Witnesses.{serves, is_shown, is_positive, rests_on_present, is_small, names_known, passes, part_not, part_free, part_for, predicate_literal, shows_clause, justifies_by, justifies}
use Rattle.mono_steps.proofs.Witnessed.{positive_holds, negative_excludes, passes-larger, passes-smaller}
use Rattle.mono_theory.specs.Evidences.{shown_by}
use Rattle.mono_theory.proofs.EvidenceDecides.{sign_of}
use Rattle.mono_search.specs.declared.theories.Forced.{Forced}
use Rattle.mono_theory.specs.Theories.{Facts, concerns_of, owns_of, atom_of}
use Rattle.mono_search.specs.TheoryLists.{concerning, seen_of, IsCurrent, IsQuietTheory, IsShort, ForcesIt, AnyForces}
use Rattle.mono_learn.specs.Explain.{AtomForces}
use Rattle.mono_theory.specs.Owners.{OwnsEach}
use Rattle.mono_search.specs.Theories.{TheoriesView, HaveSeen, AtomsQuiet}
use Rattle.mono_base.proofs.Partials.{one_sign, var-neg}
use Rattle.mono_search.proofs.Lists.{false_in_clause}
use Rattle.mono_search.proofs.Owners.{owns_atom, numbered_in, some_atom, one_owner, is_count, atom_owned}
use Rattle.mono_search.proofs.HandedOn.{atom_bounds}
use Rattle.mono_search.proofs.ConcernTables.{count-le}

-- ---- the literals that concern a theory

pub concerned-same : (f : Facts) (t : List ℤ) (l : ℤ) → IsTrue (concerns_of f.graph f.atoms (var_of l)) → has_lit (concerning f t) l ≡ has_lit t l
concerned-same f t l c = any-filter_same (int_eq l) (λ m. concerns_of f.graph f.atoms (var_of m)) true (λ k e. subst (λ (m : ℤ). concerns_of f.graph f.atoms (var_of m) ≡ true) (same_lit l k e) c) t

edge_concerns : (f : Facts) (k : ℕ) (d : Edge) → k < length f.graph.edges → IsTrue (concerns_of f.graph f.atoms (get_or f.graph.edges k d).var)
edge_concerns f k d lt = or_left (list_any (λ (e : Edge). eqb e.var (get_or f.graph.edges k d).var) f.graph.edges) (list_any (λ (x : Atom). eqb x.var (get_or f.graph.edges k d).var) f.atoms)
    (list_any_at (λ (e : Edge). eqb e.var (get_or f.graph.edges k d).var) f.graph.edges k d lt (eq-eqb (get_or f.graph.edges k d).var (get_or f.graph.edges k d).var refl))

pub atom_concerns : (f : Facts) (k : ℕ) (x : Atom) → k < length f.atoms → get_or f.atoms k x ≡ x → IsTrue (concerns_of f.graph f.atoms x.var)
atom_concerns f k x lt is = or_right (list_any (λ (e : Edge). eqb e.var x.var) f.graph.edges) (list_any (λ (y : Atom). eqb y.var x.var) f.atoms)
    (list_any_at (λ (y : Atom). eqb y.var x.var) f.atoms k x lt (eq-eqb (get_or f.atoms k x).var x.var (ap (λ (y : Atom). y.var) is)))

pub under-same : (f : Facts) (t : List ℤ) → under f.graph (concerning f t) ≡ under f.graph t
under-same f t = map_same (λ e. is_true_in (concerning f t) (pos e.var)) (λ e. is_true_in t (pos e.var)) f.graph.edges (λ k d lt. concerned-same f t (pos (get_or f.graph.edges k d).var) (edge_concerns f k d lt))

false-same : (f : Facts) (t : List ℤ) (v : ℕ) → IsTrue (concerns_of f.graph f.atoms v) → is_false_in (concerning f t) (pos v) ≡ is_false_in t (pos v)
false-same f t v c = concerned-same f t (neg_ℤ (pos v)) (subst (λ (w : ℕ). IsTrue (concerns_of f.graph f.atoms w)) (sym (var-neg (pos v))) c)

pub over-same : (f : Facts) (t : List ℤ) → over f.graph (concerning f t) ≡ over f.graph t
over-same f t = map_same (λ e. not (is_false_in (concerning f t) (pos e.var))) (λ e. not (is_false_in t (pos e.var))) f.graph.edges (λ k d lt. ap not (false-same f t (get_or f.graph.edges k d).var (edge_concerns f k d lt)))

hold-same : (f : Facts) (t : List ℤ) (q : Predicate) → part_to_hold q f.graph (concerning f t) ≡ part_to_hold q f.graph t
hold-same f t q = by (falls q)
  where
    by : (b : Bool) → cond b (over f.graph (concerning f t)) (under f.graph (concerning f t)) ≡ cond b (over f.graph t) (under f.graph t)
    by true = over-same f t
    by false = under-same f t

fail-same : (f : Facts) (t : List ℤ) (q : Predicate) → part_to_fail q f.graph (concerning f t) ≡ part_to_fail q f.graph t
fail-same f t q = by (falls q)
  where
    by : (b : Bool) → cond b (under f.graph (concerning f t)) (over f.graph (concerning f t)) ≡ cond b (under f.graph t) (over f.graph t)
    by true = under-same f t
    by false = over-same f t

quiet-same : (f : Facts) (t : List ℤ) (x : Atom) → IsTrue (concerns_of f.graph f.atoms x.var) → IsQuietAtom f.graph (concerning f t) x → IsQuietAtom f.graph t x
quiet-same f t x c q = (
  λ h. sym (concerned-same f t (pos x.var) c) ∙ q.0 (subst (λ (P : List Bool). Holds f.graph P x.predicate) (sym (hold-same f t x.predicate)) h),
  λ off. subst (λ (P : List Bool). Holds f.graph P x.predicate) (fail-same f t x.predicate) (q.1 (false-same f t x.var c ∙ off)),
)

-- where all theories are quiet, so is each atom over the whole list
pub quiet_atoms : (p : Instance) (fs : List Facts) (t : List ℤ) → OwnsEach p fs → All (IsCurrent t) fs → All IsQuietTheory fs → AtomsQuiet p t
quiet_atoms p fs t own current quiet = record {
  at = λ k d lt.
      let w = owns_atom p fs (suc k) own (omega arith) (omega (arith, lt)) in
      let o = w.owner in
      let y = w.its.atom in
      let here : slice_get p.atoms k ≡ Some (get_or p.atoms k d) = slice_get-get_or p.atoms k d lt in
      let same : Some (get_or p.atoms k d) ≡ Some y = sym here ∙ w.held in
      let is : get_or p.atoms k d ≡ y = cc in
      let now : o.fact.seen ≡ concerning o.fact t = subst (IsCurrent t) o.is (current o.at o.fact o.lt) in
      let all : IsQuietTheory o.fact = subst IsQuietTheory o.is (quiet o.at o.fact o.lt) in
      let one : IsQuietAtom o.fact.graph o.fact.seen y = subst (IsQuietAtom o.fact.graph o.fact.seen) w.its.is (all w.its.at y w.its.lt) in
      let over_all : IsQuietAtom o.fact.graph t y = quiet-same o.fact t y (atom_concerns o.fact w.its.at y w.its.lt w.its.is) (subst (λ (s : List ℤ). IsQuietAtom o.fact.graph s y) now one) in
      subst (λ (x : Atom). IsQuietAtom (graph_at p x.graph) t x) (sym is) (subst (λ (g : Digraph). IsQuietAtom g t y) w.graph over_all);
}

-- ---- what an atom forces

forces_var : (g : Digraph) (x : Atom) (t : List ℤ) (l : ℤ) → Forces g x t l → var_of l ≡ x.var
forces_var g x t l (inl (is, h)) = ap nat_abs is
forces_var g x t l (inr (is, h)) = ap nat_abs is ∙ var-neg (pos x.var)

pub record IsForcedBy (p : Instance) (fs : List Facts) (t : List ℤ) (r : Forced) : Type 0 where
  pub kept : r.kept ≡ length (seen_of fs r.atom)
  pub forces : AtomForces p (seen_of fs r.atom) r.atom r.lit
  pub not_yet : is_true_in t r.lit ≡ false
  pub within : IsLitWithin p.vars r.lit

pub forced_is : (p : Instance) (fs : List Facts) (t : List ℤ) (r : Forced) → IsInstance p → OwnsEach p fs → All (IsCurrent t) fs → AnyForces fs r → IsForcedBy p fs t r
forced_is p fs t r ok own current any = by (atom_of f.atoms r.atom) refl its.forced.forces
  where
    f : Facts
    f = any.1

    its : ForcesIt r f
    its = any.4

    by : (o : Option Atom) → atom_of f.atoms r.atom ≡ o → MatchOption o ⊥ (λ x. Forces f.graph x f.seen r.lit) → IsForcedBy p fs t r
    by None e h = absurd h
    by (Some x) e h =
        let own_n : owns_of f.atoms r.atom ≡ true = atom_owned f.atoms r.atom x e in
        let a = some_atom f.atoms r.atom own_n in
        let same : Some x ≡ Some a.atom = sym e ∙ a.first in
        let is : x ≡ a.atom = cc in
        let exact : All (λ (y : Atom). numbered p.atoms y.number ≡ Some y) f.atoms = subst (λ (w : Facts). All (λ (y : Atom). numbered p.atoms y.number ≡ Some y) w.atoms) any.3 (own.exact any.0 f any.2) in
        let graphs : All (λ (y : Atom). f.graph ≡ graph_at p y.graph) f.atoms = subst (λ (w : Facts). All (λ (y : Atom). w.graph ≡ graph_at p y.graph) w.atoms) any.3 (own.graphs any.0 f any.2) in
        let held0 : numbered p.atoms a.atom.number ≡ Some a.atom = subst (λ (y : Atom). numbered p.atoms y.number ≡ Some y) a.is (exact a.at a.atom a.lt) in
        let held : numbered p.atoms r.atom ≡ Some a.atom = subst (λ (m : ℕ). numbered p.atoms m ≡ Some a.atom) a.number held0 in
        let graph : f.graph ≡ graph_at p a.atom.graph = subst (λ (y : Atom). f.graph ≡ graph_at p y.graph) a.is (graphs a.at a.atom a.lt) in
        let within = numbered_in p.atoms r.atom a.atom held in
        let own_at : owns_of (get_or fs any.0 f).atoms r.atom ≡ true = subst (λ (w : Facts). owns_of w.atoms r.atom ≡ true) (sym any.3) own_n in
        let one = one_owner r.atom fs any.0 f any.2 own_at (is_count r.atom fs ∙ own.once r.atom within.0 within.1) in
        let shows : seen_of fs r.atom ≡ f.seen = one.0 ∙ ap (λ (w : Facts). w.seen) any.3 in
        let now : f.seen ≡ concerning f t = subst (IsCurrent t) any.3 (current any.0 f any.2) in
        let forced : Forces f.graph a.atom f.seen r.lit = subst (λ (y : Atom). Forces f.graph y f.seen r.lit) is h in
        let var : var_of r.lit ≡ a.atom.var = forces_var f.graph a.atom f.seen r.lit forced in
        let concerned : IsTrue (concerns_of f.graph f.atoms (var_of r.lit)) = subst (λ (v : ℕ). IsTrue (concerns_of f.graph f.atoms v)) (sym var) (atom_concerns f a.at a.atom a.lt a.is) in
        let bounds = atom_bounds p r.atom a.atom ok held in
        let at_problem : Forces (graph_at p a.atom.graph) a.atom (seen_of fs r.atom) r.lit = subst (λ (s : List ℤ). Forces (graph_at p a.atom.graph) a.atom s r.lit) (sym shows) (subst (λ (g : Digraph). Forces g a.atom f.seen r.lit) graph forced) in
        record {
          kept = its.kept ∙ ap length (sym shows);
          forces = subst (λ (o : Option Atom). MatchOption o ⊥ (λ y. Forces (graph_at p y.graph) y (seen_of fs r.atom) r.lit)) (sym held) at_problem;
          not_yet = sym (concerned-same f t r.lit concerned) ∙ ap (λ (s : List ℤ). is_true_in s r.lit) (sym now) ∙ its.forced.not_yet;
          within = (omega (arith, var, bounds.0), omega (arith, var, bounds.1));
        }

-- ---- a theory's literals are few

pub all_short : (b : TheoriesView) (t : List ℤ) → HaveSeen b t → length t ≤ MAX_VARS → All IsShort b.facts
all_short b t s few = λ k d lt.
    let now = s.current k d lt in
    omega (arith, ap length now, count-le (take b.handed t) (get_or b.facts k d), length-take b.handed t, few)

-- ---- the part in which a witness of a sign decides its predicate

part_held : (q : Predicate) (g : Digraph) (t : List ℤ) (b : Bool) → true ≡ shown_by q b → cond b (under g t) (over g t) ≡ part_to_hold q g t
part_held q g t b e = by (falls q) b e
  where
    by : (f c : Bool) → true ≡ cond f (not c) c → cond c (under g t) (over g t) ≡ cond f (over g t) (under g t)
    by true true e = absurd cc
    by true false e = refl
    by false true e = refl
    by false false e = absurd cc

part_failed : (q : Predicate) (g : Digraph) (t : List ℤ) (b : Bool) → false ≡ shown_by q b → cond b (under g t) (over g t) ≡ part_to_fail q g t
part_failed q g t b e = by (falls q) b e
  where
    by : (f c : Bool) → false ≡ cond f (not c) c → cond c (under g t) (over g t) ≡ cond f (under g t) (over g t)
    by true true e = refl
    by true false e = absurd cc
    by false true e = absurd cc
    by false false e = refl

part_len : (g : Digraph) (t : List ℤ) (b : Bool) → length (cond b (under g t) (over g t)) ≡ length g.edges
part_len g t true = length-part_by (λ e. is_true_in t (pos e.var)) g
part_len g t false = length-part_by (λ e. not (is_false_in t (pos e.var))) g

-- ---- a lemma isn't false where the atoms are quiet

module _ (p : Instance) (t : List ℤ) (ok : IsInstance p) (quiet : AtomsQuiet p t) (different : IsTrue (is_partial t)) where
  module _ (x : Atom) (m : Lemma) (var : 0 < x.var) (graph : IsGraph (graph_at p x.graph)) (over_it : IsOver (graph_at p x.graph) x.predicate) (calm : IsQuietAtom (graph_at p x.graph) t x) (false_now : IsTrue (is_false_clause t m.clause)) where
    -- a witness that passes over what its false clause leaves passes over the bound
    passes_bound : (b : Bool) → rests_on_present m.witness ≡ b → IsTrue (passes (graph_at p x.graph) (cond b (part_not m.clause (graph_at p x.graph)) (part_free m.clause (graph_at p x.graph))) x.predicate m.witness)
        → IsTrue (passes (graph_at p x.graph) (cond b (under (graph_at p x.graph) t) (over (graph_at p x.graph) t)) x.predicate m.witness)
    passes_bound true r pass =
        let g = graph_at p x.graph in
        let wider : IsSubpart (part_not m.clause g) (under g t) = part_by-larger (λ e. has_lit m.clause (neg_ℤ (pos e.var))) (λ e. is_true_in t (pos e.var)) g
        (λ e k. subst (λ (l : ℤ). IsTrue (has_lit t l)) (neg_ℤ-neg_ℤ (pos e.var)) (false_in_clause t m.clause (neg_ℤ (pos e.var)) false_now k)) in
        passes-larger g (part_not m.clause g) (under g t) x.predicate m.witness wider r pass
    passes_bound false r pass =
        let g = graph_at p x.graph in
        let wider : IsSubpart (over g t) (part_free m.clause g) = part_by-larger (λ e. not (is_false_in t (pos e.var))) (λ e. not (has_lit m.clause (pos e.var))) g
        (λ e k. not_from_false (has_lit m.clause (pos e.var)) (false_from_ne_true (has_lit m.clause (pos e.var)) (λ in_it. both_ways (is_false_in t (pos e.var)) (not-true (is_false_in t (pos e.var)) k) (false_in_clause t m.clause (pos e.var) false_now in_it)))) in
        passes-smaller g (over g t) (part_free m.clause g) x.predicate m.witness wider r pass

    -- so the atom forces its literal, which the clause has, and which isn't true
    either : (s b : Bool) → is_positive m.witness ≡ s → rests_on_present m.witness ≡ b → IsTrue (has_lit m.clause (cond s (pos x.var) (neg_ℤ (pos x.var))))
        → IsTrue (passes (graph_at p x.graph) (cond b (under (graph_at p x.graph) t) (over (graph_at p x.graph) t)) x.predicate m.witness) → ⊥
    either true b i r h pass =
        let g = graph_at p x.graph in
        let P : List Bool = cond b (under g t) (over g t) in
        let sign : true ≡ shown_by x.predicate b = sym i ∙ sign_of g P x.predicate m.witness pass ∙ ap (shown_by x.predicate) r in
        let holds : Holds g (part_to_hold x.predicate g t) x.predicate = subst (λ (Q : List Bool). Holds g Q x.predicate) (part_held x.predicate g t b sign) (positive_holds g P x.predicate m.witness i pass) in
        one_sign t (pos x.var) different (calm.0 holds) (false_in_clause t m.clause (pos x.var) false_now h)
    either false b i r h pass =
        let g = graph_at p x.graph in
        let P : List Bool = cond b (under g t) (over g t) in
        let sign : false ≡ shown_by x.predicate b = sym i ∙ sign_of g P x.predicate m.witness pass ∙ ap (shown_by x.predicate) r in
        let on : IsTrue (has_lit t (pos x.var)) = subst (λ (l : ℤ). IsTrue (has_lit t l)) (neg_ℤ-neg_ℤ (pos x.var)) (false_in_clause t m.clause (neg_ℤ (pos x.var)) false_now h) in
        let off : is_false_in t (pos x.var) ≡ false = false_from_ne_true (is_false_in t (pos x.var)) (λ e. one_sign t (pos x.var) different on e) in
        negative_excludes g P x.predicate m.witness graph over_it (part_len g t b) i pass (subst (λ (Q : List Bool). Holds g Q x.predicate) (sym (part_failed x.predicate g t b sign)) (calm.1 off))

    pub shown_not_false : IsTrue (justifies_by p x m) → ⊥
    shown_not_false j =
        let g = graph_at p x.graph in
        let a = and_parts (names_vars p m.clause) (is_shown g x m) j in
        let b = and_parts (serves m.witness x.predicate && names_known g m.witness && is_small m.witness) (shows_clause g x m.clause m.witness) a.1 in
        let c = and_parts (has_lit m.clause (predicate_literal x m.witness)) (passes g (part_for m.clause g m.witness) x.predicate m.witness) b.1 in
        either (is_positive m.witness) (rests_on_present m.witness) refl refl c.0 (passes_bound (rests_on_present m.witness) refl c.1)

  pub lemma_not_false : (m : Lemma) → IsTrue (justifies p m) → IsTrue (is_false_clause t m.clause) → ⊥
  lemma_not_false m j false_now = by (numbered p.atoms m.atom) refl j
    where
      by : (o : Option Atom) → numbered p.atoms m.atom ≡ o → IsTrue (elim o [ None ↦ false | Some x ↦ justifies_by p x m ]) → ⊥
      by None e h = cc
      by (Some x) e h = at m.atom e
        where
          at : (n : ℕ) → numbered p.atoms n ≡ Some x → ⊥
          at zero e = cc
          at (suc k) e =
              let within = numbered_in p.atoms (suc k) x e in
              let lt : k < length p.atoms = omega (arith, within.1) in
              let is : get_or p.atoms k x ≡ x = get_or_from_slice_get p.atoms k x x e in
              let a = subst (IsAtomAt p k) is (ok.atoms k x lt) in
              let calm = subst (λ (y : Atom). IsQuietAtom (graph_at p y.graph) t y) is (quiet.at k x lt) in
              shown_not_false x m a.low (ok.graphs x.graph no_graph a.graph).graph a.over calm false_now h
