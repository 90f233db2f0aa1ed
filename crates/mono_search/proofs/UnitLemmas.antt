-- Lemmas that are unit under what a theory has seen, and under the trail.
use Rattle.std.proofs.Common.{◌≡◌, ◌∙◌, ◌&&◌, ℕ, Bool, true, false, not, List, refl, sym, subst, ℤ, pos, neg_ℤ, All}
use Rattle.std.specs.Prelude.{IsTrue, Option, Some, None, MatchOption}
use Rattle.std.proofs.lemmas.Bool.{and_from}
use Rattle.mono_base.specs.Literal.{has_lit, var_of, IsLitWithin}
use Rattle.mono_base.specs.Partial.{is_false_in, is_open_in, is_true_in, others_false}
use Rattle.mono_base.proofs.Partials.{var-neg}
use Rattle.mono_graph.specs.Digraph.{Digraph}
use Rattle.mono_problem.specs.declared.atom.Atom.{Atom}
use Rattle.mono_problem.specs.Instance.{Instance, graph_at, numbered}
use Rattle.mono_problem.specs.WellFormed.{IsInstance}
use Rattle.mono_learn.proofs.PlacesOfLits.{has_stands}
use Rattle.mono_steps.specs.declared.lemma.Lemma.{Lemma}
use Rattle.mono_steps.specs.ChainSteps.{names_vars}
use Rattle.mono_steps.specs.Witnesses.{is_shown, justifies, justifies_by}
use Rattle.mono_steps.proofs.StepVars.{vars_within}
use Rattle.mono_theory.specs.declared.theory.UnitLemma.{UnitLemma}
use Rattle.mono_theory.specs.Owners.{OwnsEach}
use Rattle.mono_theory.specs.Theories.{Facts, IsUnitLemma, atom_of, concerns_of, owns_of}
use Rattle.mono_search.specs.TheoryLists.{AnyGives, IsCurrent, concerning}
use Rattle.mono_search.proofs.HandedOn.{atom_bounds, names_concerned}
use Rattle.mono_search.proofs.Lists.{others_false-wider}
use Rattle.mono_search.proofs.Owners.{atom_owned, some_atom}
use Rattle.mono_search.proofs.Quiets.{concerned-same}
use Rattle.mono_search.proofs.Reasons.{concerned-in}

-- the lemma is justified, and unit under the list
pub record IsUnitBy (p : Instance) (t : List ℤ) (u : UnitLemma) : Type 0 where
  pub justified : IsTrue (justifies p u.lemma)
  pub within : All (IsLitWithin p.vars) u.lemma.clause
  pub has : IsTrue (has_lit u.lemma.clause u.lit)
  pub is_open : IsTrue (is_open_in t u.lit)
  pub others : IsTrue (others_false t u.lemma.clause u.lit)

-- a literal that concerns a theory is open in what that has seen of a list where it is open in the list
open_seen : (f : Facts) (t : List ℤ) (l : ℤ) → IsTrue (concerns_of f.graph f.atoms (var_of l)) → IsTrue (is_open_in (concerning f t) l) → IsTrue (is_open_in t l)
open_seen f t l c o =
    let on : has_lit (concerning f t) l ≡ has_lit t l = concerned-same f t l c in
    let off : has_lit (concerning f t) (neg_ℤ l) ≡ has_lit t (neg_ℤ l) = concerned-same f t (neg_ℤ l) (subst (λ (v : ℕ). IsTrue (concerns_of f.graph f.atoms v)) (sym (var-neg l)) c) in
    subst (λ (a : Bool). IsTrue (not a && not (is_false_in t l))) on (subst (λ (b : Bool). IsTrue (not (is_true_in (concerning f t) l) && not b)) off o)

pub unit_by : (p : Instance) (fs : List Facts) (t : List ℤ) (u : UnitLemma) → IsInstance p → OwnsEach p fs → All (IsCurrent t) fs → AnyGives fs u → IsUnitBy p t u
unit_by p fs t u ok own current any = by (atom_of f.atoms m.atom) refl its.shown
  where
    f : Facts
    f = any.1

    m : Lemma
    m = u.lemma

    its : IsUnitLemma f.graph f.atoms f.seen u.lit u.lemma
    its = any.4

    by : (o : Option Atom) → atom_of f.atoms m.atom ≡ o → MatchOption o ⊥ (λ x. IsTrue (is_shown f.graph x m)) → IsUnitBy p t u
    by None e h = absurd h
    by (Some x) e h =
        let own_n : owns_of f.atoms m.atom ≡ true = atom_owned f.atoms m.atom x e in
        let a = some_atom f.atoms m.atom own_n in
        let same : Some x ≡ Some a.atom = sym e ∙ a.first in
        let is : x ≡ a.atom = cc in
        let exact : All (λ (y : Atom). numbered p.atoms y.number ≡ Some y) f.atoms = subst (λ (w : Facts). All (λ (y : Atom). numbered p.atoms y.number ≡ Some y) w.atoms) any.3 (own.exact any.0 f any.2) in
        let graphs : All (λ (y : Atom). f.graph ≡ graph_at p y.graph) f.atoms = subst (λ (w : Facts). All (λ (y : Atom). w.graph ≡ graph_at p y.graph) w.atoms) any.3 (own.graphs any.0 f any.2) in
        let held0 : numbered p.atoms a.atom.number ≡ Some a.atom = subst (λ (y : Atom). numbered p.atoms y.number ≡ Some y) a.is (exact a.at a.atom a.lt) in
        let held : numbered p.atoms m.atom ≡ Some a.atom = subst (λ (n : ℕ). numbered p.atoms n ≡ Some a.atom) a.number held0 in
        let graph : f.graph ≡ graph_at p a.atom.graph = subst (λ (y : Atom). f.graph ≡ graph_at p y.graph) a.is (graphs a.at a.atom a.lt) in
        let bounds = atom_bounds p m.atom a.atom ok held in
        let named = names_concerned p f a.atom.graph m.clause ok bounds.2 graph exact its.concerned in
        let shown : IsTrue (is_shown (graph_at p a.atom.graph) a.atom m) = subst (λ (g : Digraph). IsTrue (is_shown g a.atom m)) graph (subst (λ (y : Atom). IsTrue (is_shown f.graph y m)) is h) in
        let just : IsTrue (justifies_by p a.atom m) = and_from (names_vars p m.clause) (is_shown (graph_at p a.atom.graph) a.atom m) named shown in
        let now : f.seen ≡ concerning f t = subst (IsCurrent t) any.3 (current any.0 f any.2) in
        let i = has_stands m.clause u.lit its.has in
        let concerned : IsTrue (concerns_of f.graph f.atoms (var_of u.lit)) = subst (λ (l : ℤ). IsTrue (concerns_of f.graph f.atoms (var_of l))) i.there (its.concerned i.place (pos 0) i.within) in
        record {
          justified = subst (λ (o : Option Atom). IsTrue (elim o [ None ↦ false | Some y ↦ justifies_by p y m ])) (sym held) just;
          within = vars_within p m.clause named;
          has = its.has;
          is_open = open_seen f t u.lit concerned (subst (λ (s : List ℤ). IsTrue (is_open_in s u.lit)) now its.is_open);
          others = others_false-wider (concerning f t) t m.clause u.lit (λ l here. concerned-in f t l here) (subst (λ (s : List ℤ). IsTrue (others_false s m.clause u.lit)) now its.others);
        }
