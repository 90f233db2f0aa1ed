-- How the theories follow the trail, and that their lemmas are justified.
use Rattle.mono_search.proofs.ConcernTables.{table_kept}
use Rattle.std.proofs.Common.{Bool, zero, suc, ◌≡◌, ℕ, ◌+◌, ◌<◌, ◌≤◌, eqb, eqb-true, false, ◌&&◌, List, [], ◌∷◌, ◌++◌, length, take, map, replicate, arith, refl, sym, ◌∙◌, ap, get_or, subst, inl, inr, ℤ, pos, All}
use Rattle.std.specs.Prelude.{Option, Some, None, MatchOption, IsTrue, Result, Ok, Err, IfOk, nat_le}
use Rattle.std.specs.List.{list_any}
use Rattle.std.proofs.lemmas.List.{take-take, take_more, length-map, get_or-map}
use Rattle.std.proofs.lemmas.List.Elements.{All-map}
use Rattle.std.proofs.lemmas.List.Folds.{Any-from_list_any}
use Rattle.std.proofs.lemmas.Bool.{or_cases, and_from, le-leb}
use Rattle.std.proofs.lemmas.Option.{get_or_from_slice_get}
use Rattle.mono_base.specs.Literal.{var_of}
use Rattle.mono_base.proofs.Truth.{from_each}
use Rattle.mono_graph.specs.Digraph.{Digraph}
use Rattle.mono_graph.specs.declared.edge.Edge.{Edge}
use Rattle.mono_problem.specs.declared.atom.Atom.{Atom}
use Rattle.mono_problem.specs.Instance.{Instance, graph_at, numbered, no_graph, edges_total}
use Rattle.mono_problem.specs.WellFormed.{IsInstance, IsAtomAt}
use Rattle.mono_problem.specs.Quiet.{Forces}
use Rattle.mono_steps.specs.declared.lemma.Lemma.{Lemma}
use Rattle.mono_steps.specs.ChainSteps.{names_vars}
use Rattle.mono_steps.specs.Witnesses.{justifies_by, is_shown}
use Rattle.mono_theory.specs.Theories.{Facts, concerns_of, owns_of, IsLemmaOf}
use Rattle.mono_search.specs.TheoryLists.{seen_of, IsCurrent, OthersAreQuiet, AreOwners, IsOwnedAt, with_seen, handed_on, IsLemmaBy}
use Rattle.mono_learn.specs.Explain.{AtomForces, IsExplanation}
use Rattle.mono_learn.proofs.PlacesOfLits.{has_stands}
use Rattle.mono_theory.specs.Owners.{OwnsEach}
use Rattle.mono_search.specs.Theories.{TheoriesView, HaveSeen, having_seen, AreTheoryTables}
use Rattle.mono_search.proofs.Owners.{owns_kept, current-at, handed-at, at_current, owns_atom, numbered_in}

pub record IsHandedOn (b0 now : TheoriesView) (lits : List ℤ) (new : List Facts) : Type 0 where
  pub shown : HaveSeen (record { problem = now.problem; facts = new; handed = now.handed + 1; given = now.given }) lits
  pub from : record { problem = now.problem; facts = new; handed = now.handed + 1; given = now.given } ≡ having_seen b0 lits (now.handed + 1)

pub handed_step : (b0 now : TheoriesView) (lits : List ℤ) (l : ℤ) (new : List Facts) → now ≡ having_seen b0 lits now.handed → now.handed < length lits → l ≡ get_or lits now.handed l
    → new ≡ map (handed_on l) now.facts → IsHandedOn b0 now lits new
handed_step b0 now lits l new from lt at e =
    let facts : now.facts ≡ map (with_seen (take now.handed lits)) b0.facts = ap (λ (b : TheoriesView). b.facts) from in
    let problem : now.problem ≡ b0.problem = ap (λ (b : TheoriesView). b.problem) from in
    let given : now.given ≡ b0.given = ap (λ (b : TheoriesView). b.given) from in
    let next : take now.handed lits ++ l ∷ [] ≡ take (now.handed + 1) lits = ap (λ (m : ℤ). take now.handed lits ++ m ∷ []) at ∙ sym (take_more lits now.handed l lt) in
    let is : new ≡ map (with_seen (take (now.handed + 1) lits)) b0.facts = e ∙ ap (map (handed_on l)) facts ∙ handed-at b0.facts (take now.handed lits) l ∙ ap (λ (t : List ℤ). map (with_seen t) b0.facts) next in
    record {
      shown = record { within = omega (arith, lt); current = subst (All (IsCurrent (take (now.handed + 1) lits))) (sym is) (current-at b0.facts (take (now.handed + 1) lits)) };
      from = ap (λ (fs : List Facts). record { problem = now.problem; facts = fs; handed = now.handed + 1; given = now.given }) is
          ∙ ap (λ (p : Instance). record { problem = p; facts = map (with_seen (take (now.handed + 1) lits)) b0.facts; handed = now.handed + 1; given = now.given }) problem
          ∙ ap (λ (g : ℕ). record { problem = b0.problem; facts = map (with_seen (take (now.handed + 1) lits)) b0.facts; handed = now.handed + 1; given = g }) given;
    }

-- ---- what is kept beside the theories

-- what keeps atoms keeps who is known to own one
owned_kept : (h : Facts → Facts) (fs : List Facts) (n k : ℕ) → ((f : Facts) → (h f).atoms ≡ f.atoms) → IsOwnedAt fs n k → IsOwnedAt (map h fs) n k
owned_kept h fs n k ha o = record {
  within = omega (arith, o.within, length-map fs h);
  owns = λ f. ap (λ (own : List Atom). owns_of own n) (ap (λ (x : Facts). x.atoms) (get_or-map h fs k f f o.within) ∙ ha (get_or fs k f)) ∙ o.owns f;
}

owners_kept : (h : Facts → Facts) (fs : List Facts) (owners : List (Option ℕ)) → ((f : Facts) → (h f).atoms ≡ f.atoms) → AreOwners fs owners → AreOwners (map h fs) owners
owners_kept h fs owners ha o = record {
  fits = All-map (λ f. (n : ℕ) → IsTrue (owns_of f.atoms n) → n < length owners) h fs (λ j f lt n own. o.fits j f lt n (ap (λ (atoms : List Atom). owns_of atoms n) (sym (ha (get_or fs j f))) ∙ own));
  named = λ n k is. owned_kept h fs n k ha (o.named n k is);
}

-- what keeps graphs and atoms keeps all of it
pub all_kept : (h : Facts → Facts) (p : Instance) (fs new : List Facts) (table : List (List ℕ)) (owners : List (Option ℕ)) (counts now_counts : List ℕ) (listed now : List Bool) → ((f : Facts) → (h f).graph ≡ f.graph) → ((f : Facts) → (h f).atoms ≡ f.atoms) → new ≡ map h fs
    → now_counts ≡ replicate (length fs) 0 → OthersAreQuiet new now → AreTheoryTables p fs table owners counts listed → AreTheoryTables p new table owners now_counts now
all_kept h p fs new table owners counts now_counts listed now hg ha e none others k = subst (λ (gs : List Facts). AreTheoryTables p gs table owners now_counts now) (sym e) (record {
  owns = owns_kept h p fs hg ha k.owns;
  concerned = table_kept h p.vars fs table hg ha k.concerned;
  known = owners_kept h fs owners ha k.known;
  zero = none ∙ ap (λ (n : ℕ). replicate n 0) (sym (length-map fs h));
  others = subst (λ (gs : List Facts). OthersAreQuiet gs now) e others;
})

-- where the theories have seen the same, another list may be right too, and more owners may be known
pub asked_kept : {p : Instance} {fs new : List Facts} {table : List (List ℕ)} {owners more : List (Option ℕ)} {counts : List ℕ} {listed now : List Bool} → new ≡ fs → OthersAreQuiet fs now → AreOwners fs more → AreTheoryTables p fs table owners counts listed → AreTheoryTables p new table more counts now
asked_kept {p = p} {table = table} {more = more} {counts = counts} {now = now} e others known k = subst (λ (gs : List Facts). AreTheoryTables p gs table more counts now) (sym e) (record { owns = k.owns; concerned = k.concerned; known = known; zero = k.zero; others = others })

-- where as much is handed on as was
pub handed_already : (b : TheoriesView) (lits : List ℤ) → HaveSeen b lits → b ≡ having_seen b lits b.handed
handed_already b lits s = ap (λ (fs : List Facts). record { problem = b.problem; facts = fs; handed = b.handed; given = b.given }) (sym (at_current b.facts (take b.handed lits) s.current))

pub current_front : (b : TheoriesView) (lits : List ℤ) (n : ℕ) → n ≡ b.handed → HaveSeen b lits → All (IsCurrent (take n lits)) b.facts
current_front b lits n e s = subst (λ (m : ℕ). All (IsCurrent (take m lits)) b.facts) (sym e) s.current

-- ---- lemmas

pub if_ok : {T E : Type 0} (r : Result T E) (P Q : T → Type 0) → IfOk r P → ((x : T) → P x → Q x) → IfOk r Q
if_ok (Ok x) P Q h f = f x h
if_ok (Err e) P Q h f = h

-- what concerns a theory of the problem is one of the problem's variables
edge_var : (p : Instance) (k v : ℕ) → IsInstance p → k < length p.graphs → IsTrue (list_any (λ e. eqb e.var v) (graph_at p k).edges) → (1 ≤ v) × (v ≤ p.vars)
edge_var p k v ok lt h =
    let d = ok.graphs k no_graph lt in
    let a = Any-from_list_any (λ (e : Edge). eqb e.var v) (graph_at p k).edges h in
    let same : a.1.var ≡ v = eqb-true a.1.var v a.4 in
    let low = subst (λ (e : Edge). (1 ≤ e.var) × (e.var ≤ 1000000)) a.3 (d.graph.vars a.0 a.1 a.2) in
    let high = subst (λ (e : Edge). (e.var ≤ p.vars) × (e.number ≤ edges_total p)) a.3 (d.within a.0 a.1 a.2) in
    (omega (arith, same, low.0), omega (arith, same, high.0))

pub atom_bounds : (p : Instance) (n : ℕ) (x : Atom) → IsInstance p → numbered p.atoms n ≡ Some x → (1 ≤ x.var) × (x.var ≤ p.vars) × (x.graph < length p.graphs)
atom_bounds p zero x ok e = absurd cc
atom_bounds p (suc k) x ok e =
    let within = numbered_in p.atoms (suc k) x e in
    let at : get_or p.atoms k x ≡ x = get_or_from_slice_get p.atoms k x x e in
    let a = subst (IsAtomAt p k) at (ok.atoms k x (omega (arith, within.1))) in
    (omega (arith, a.low), a.high, a.graph)

atom_var : (p : Instance) (own : List Atom) (v : ℕ) → IsInstance p → All (λ x. numbered p.atoms x.number ≡ Some x) own → IsTrue (list_any (λ x. eqb x.var v) own) → (1 ≤ v) × (v ≤ p.vars)
atom_var p own v ok exact h =
    let a = Any-from_list_any (λ (x : Atom). eqb x.var v) own h in
    let same : a.1.var ≡ v = eqb-true a.1.var v a.4 in
    let held = subst (λ (x : Atom). numbered p.atoms x.number ≡ Some x) a.3 (exact a.0 a.1 a.2) in
    let b = atom_bounds p a.1.number a.1 ok held in
    (omega (arith, same, b.0), omega (arith, same, b.1))

pub names_concerned : (p : Instance) (f : Facts) (k : ℕ) (c : List ℤ) → IsInstance p → k < length p.graphs → f.graph ≡ graph_at p k → All (λ x. numbered p.atoms x.number ≡ Some x) f.atoms → All (λ l. IsTrue (concerns_of f.graph f.atoms (var_of l))) c → IsTrue (names_vars p c)
names_concerned p f k c ok lt g exact concerned = from_each (λ l. nat_le 1 (var_of l) && nat_le (var_of l) p.vars) c (λ l h.
    let i = has_stands c l h in
    let here : IsTrue (concerns_of f.graph f.atoms (var_of l)) = subst (λ (m : ℤ). IsTrue (concerns_of f.graph f.atoms (var_of m))) i.there (concerned i.place (pos 0) i.within) in
    let both : (1 ≤ var_of l) × (var_of l ≤ p.vars) = elim (or_cases (list_any (λ (e : Edge). eqb e.var (var_of l)) f.graph.edges) (list_any (λ (x : Atom). eqb x.var (var_of l)) f.atoms) here) [
      | inl e ↦ edge_var p k (var_of l) ok lt (subst (λ (d : Digraph). IsTrue (list_any (λ (e : Edge). eqb e.var (var_of l)) d.edges)) g e)
      | inr x ↦ atom_var p f.atoms (var_of l) ok exact x
    ] in
    and_from (nat_le 1 (var_of l)) (nat_le (var_of l) p.vars) (le-leb 1 (var_of l) both.0) (le-leb (var_of l) p.vars both.1))

pub explained : (p : Instance) (fs : List Facts) (n kept : ℕ) (l : ℤ) (m : Lemma) → IsInstance p → OwnsEach p fs → AtomForces p (take kept (seen_of fs n)) n l → IsLemmaBy fs n l kept m → IsExplanation p (take kept (seen_of fs n)) n l m
explained p fs n kept l m ok own forces lemma = by (numbered p.atoms n) refl forces
  where
    by : (o : Option Atom) → numbered p.atoms n ≡ o → MatchOption o ⊥ (λ x. Forces (graph_at p x.graph) x (take kept (seen_of fs n)) l) → IsExplanation p (take kept (seen_of fs n)) n l m
    by None e f = absurd f
    by (Some x) e f =
        let within = numbered_in p.atoms n x e in
        let w = owns_atom p fs n own within.0 within.1 in
        let o = w.owner in
        let its : IsLemmaOf o.fact.graph o.fact.atoms (take kept o.fact.seen) n l m = rw o.first at lemma in
        let bounds = atom_bounds p n w.its.atom ok w.held in
        let exact : All (λ (y : Atom). numbered p.atoms y.number ≡ Some y) o.fact.atoms = subst (λ (f : Facts). All (λ (y : Atom). numbered p.atoms y.number ≡ Some y) f.atoms) o.is (own.exact o.at o.fact o.lt) in
        let named = names_concerned p o.fact w.its.atom.graph m.clause ok bounds.2 w.graph exact its.concerned in
        let shown : IsTrue (is_shown o.fact.graph w.its.atom m) = rw w.its.first at its.shown in
        let just : IsTrue (justifies_by p w.its.atom m) = and_from (names_vars p m.clause) (is_shown (graph_at p w.its.atom.graph) w.its.atom m) named (subst (λ (g : Digraph). IsTrue (is_shown g w.its.atom m)) w.graph shown) in
        let held : numbered p.atoms m.atom ≡ Some w.its.atom = ap (numbered p.atoms) its.number ∙ w.held in
        record {
          number = its.number;
          justified = subst (λ (o : Option Atom). IsTrue (elim o [ None ↦ false | Some y ↦ justifies_by p y m ])) (sym held) just;
          has = its.has;
          others = rw o.shows its.others;
        }

pub explained_ok : {E : Type 0} (r : Result Lemma E) (p : Instance) (fs : List Facts) (n kept : ℕ) (l : ℤ) → IsInstance p → OwnsEach p fs → AtomForces p (take kept (seen_of fs n)) n l → IfOk r (IsLemmaBy fs n l kept) → IfOk r (IsExplanation p (take kept (seen_of fs n)) n l)
explained_ok r p fs n kept l ok own forces h = if_ok r (IsLemmaBy fs n l kept) (IsExplanation p (take kept (seen_of fs n)) n l) h (λ m. explained p fs n kept l m ok own forces)

pub taken_back : (b : TheoriesView) (fs : List Facts) (lits : List ℤ) (kept : ℕ) → kept ≤ b.handed → fs ≡ map (with_seen (take kept (take b.handed lits))) b.facts → record { problem = b.problem; facts = fs; handed = kept; given = b.given } ≡ having_seen b lits kept
taken_back b fs lits kept le e = ap (λ (xs : List Facts). record { problem = b.problem; facts = xs; handed = kept; given = b.given }) (e ∙ ap (λ (t : List ℤ). map (with_seen t) b.facts) (take-take kept b.handed lits le))
