-- Lemmas that a graph and its atoms show are justified in the problem that these are of.
use Rattle.std.proofs.Common.{◌≡◌, ℕ, zero, suc, ◌-◌, ◌<◌, ◌≤◌, Bool, ◌&&◌, List, [], ◌∷◌, length, map, get_or, le-leb, eqb, refl, sym, ap, subst, ◌∙◌, inl, inr, arith, ℤ, All}
use Rattle.std.specs.Prelude.{IsTrue, Option, Some, None, MatchOption, Contains, nat_le}
use Rattle.std.specs.List.{list_any}
use Rattle.std.proofs.lemmas.Bool.{or_cases, and_from, eqb-true}
use Rattle.std.proofs.lemmas.Option.{slice_get-get_or}
use Rattle.std.proofs.lemmas.List.Elements.{All-map}
use Rattle.mono_base.specs.Literal.{var_of}
use Rattle.mono_graph.specs.declared.edge.Edge.{Edge}
use Rattle.mono_graph.specs.Digraph.{Digraph}
use Rattle.mono_problem.specs.declared.atom.Atom.{Atom}
use Rattle.mono_problem.specs.declared.atom.Predicate.{Predicate}
use Rattle.mono_problem.specs.Instance.{Instance, graph_at, numbered, no_graph}
use Rattle.mono_problem.specs.Read.{atom_numbered, no_atom}
use Rattle.mono_problem.specs.WellFormed.{IsInstance}
use Rattle.mono_steps.specs.declared.lemma.Lemma.{Lemma}
use Rattle.mono_steps.specs.ChainSteps.{names_vars}
use Rattle.mono_steps.specs.Witnesses.{is_shown, justifies}
use Rattle.mono_steps.proofs.LemmaFaults.{shown_justified}
use Rattle.mono_theory.specs.Theories.{atom_of, concerns_of, IsLemmaOf, IsLemmaFor}
use Rattle.mono_theory.specs.Frames.{AreNumbersOf}
use Rattle.mono_theory.proofs.ForcedAndExplained.{found_at}
use Rattle.mono_theory.proofs.AtomsByNumber.{own_number}

-- the variable is one of the problem's
IsVarOf : Instance → ℕ → Type 0
IsVarOf p v = (1 ≤ v) × (v ≤ p.vars)

any_is_var : {X : Type 0} (p : Instance) (f : X → ℕ) (xs : List X) (v : ℕ) → All (λ x. IsVarOf p (f x)) xs → IsTrue (list_any (λ x. eqb (f x) v) xs) → IsVarOf p v
any_is_var p f [] v h e = absurd cc
any_is_var p f (x ∷ xs) v h e = elim (or_cases (eqb (f x) v) (list_any (λ y. eqb (f y) v) xs) e) [
  | inl s ↦ subst (IsVarOf p) (eqb-true (f x) v s) (h 0 x (omega arith))
  | inr r ↦ any_is_var p f xs v (λ k d lt. h (suc k) d (omega arith)) r
]

concerned_var : (covers : Predicate → Bool) (p : Instance) (k : ℕ) (ns : List ℕ) (v : ℕ) → IsInstance p → k < length p.graphs → AreNumbersOf covers p k ns → IsTrue (concerns_of (graph_at p k) (map (atom_numbered p) ns) v) → IsVarOf p v
unfolding IsVarOf
concerned_var covers p k ns v ok place h c =
    let g : Digraph = graph_at p k in
    let atoms : List Atom = map (atom_numbered p) ns in
    elim (or_cases (list_any (λ (e : Edge). eqb e.var v) g.edges) (list_any (λ (x : Atom). eqb x.var v) atoms) c) [
      | inl e ↦ (
          let d = ok.graphs k no_graph place in
          any_is_var p (λ (e : Edge). e.var) g.edges v (λ i b lt. let low = (d.graph.vars i b lt).0 in let high = (d.within i b lt).0 in (low, high)) e)
      | inr e ↦ any_is_var p (λ (x : Atom). x.var) atoms v (All-map (λ (x : Atom). IsVarOf p x.var) (atom_numbered p) ns (λ i b lt.
          let n : ℕ = get_or ns i b in
          let held = h.held i b lt in
          let x = ok.atoms (n - 1) no_atom (let low = held.0 in let high = held.1 in omega (arith, low, high)) in
          ((let low = x.low in omega (arith, low)), x.high))) e
    ]

all_named : (p : Instance) (c : List ℤ) → All (λ l. IsVarOf p (var_of l)) c → IsTrue (names_vars p c)
unfolding IsVarOf
all_named p [] h = refl
all_named p (l ∷ c) h =
    let v = h 0 l (omega arith) in
    and_from (nat_le 1 (var_of l) && nat_le (var_of l) p.vars) (names_vars p c) (and_from (nat_le 1 (var_of l)) (nat_le (var_of l) p.vars) (le-leb 1 (var_of l) v.0) (le-leb (var_of l) p.vars v.1)) (all_named p c (λ i d lt. h (suc i) d (omega arith)))

pub numbered_is : (p : Instance) (n : ℕ) → 0 < n → n ≤ length p.atoms → numbered p.atoms n ≡ Some (atom_numbered p n)
numbered_is p zero low high = absurd (omega arith)
numbered_is p (suc k) low high = let same : k ≡ suc k - 1 = omega arith in slice_get-get_or p.atoms k no_atom (omega arith) ∙ ap (λ j. Some (get_or p.atoms j no_atom)) same

-- an atom of the theory is the problem's of its number, over the graph at the place
of_numbers : (covers : Predicate → Bool) (p : Instance) (k : ℕ) (ns : List ℕ) (x : Atom) → IsInstance p → AreNumbersOf covers p k ns → Contains (map (atom_numbered p) ns) x → (numbered p.atoms x.number ≡ Some x) × (x.graph ≡ k)
of_numbers covers p k ns x ok h (i, lt, at) =
    subst (λ (y : Atom). (numbered p.atoms y.number ≡ Some y) × (y.graph ≡ k)) at
    (All-map (λ (y : Atom). (numbered p.atoms y.number ≡ Some y) × (y.graph ≡ k)) (atom_numbered p) ns (λ j d below.
    let n : ℕ = get_or ns j d in
    let held = h.held j d below in
    (ap (numbered p.atoms) (own_number p n ok held) ∙ numbered_is p n held.0 held.1, h.graph j d below)) i x lt)

pub shown_in_problem : (covers : Predicate → Bool) (p : Instance) (k : ℕ) (ns : List ℕ) (m : Lemma) → IsInstance p → k < length p.graphs → AreNumbersOf covers p k ns
    → MatchOption (atom_of (map (atom_numbered p) ns) m.atom) ⊥ (λ x. IsTrue (is_shown (graph_at p k) x m)) → All (λ l. IsTrue (concerns_of (graph_at p k) (map (atom_numbered p) ns) (var_of l))) m.clause → IsTrue (justifies p m)
shown_in_problem covers p k ns m ok place h shown concerned = by (atom_of (map (atom_numbered p) ns) m.atom) refl shown
  where
    named : IsTrue (names_vars p m.clause)
    named = all_named p m.clause (λ i d lt. concerned_var covers p k ns (var_of (get_or m.clause i d)) ok place h (concerned i d lt))

    by : (o : Option Atom) → atom_of (map (atom_numbered p) ns) m.atom ≡ o → MatchOption o ⊥ (λ x. IsTrue (is_shown (graph_at p k) x m)) → IsTrue (justifies p m)
    by None e s = absurd s
    by (Some x) e s =
        let (c, number) = found_at (map (atom_numbered p) ns) m.atom x e in
        let its = of_numbers covers p k ns x ok h c in
        shown_justified p x m (ap (numbered p.atoms) (sym number) ∙ its.0) named (subst (λ (j : ℕ). IsTrue (is_shown (graph_at p j) x m)) (sym its.1) s)

pub found_justified : (covers : Predicate → Bool) (p : Instance) (k : ℕ) (ns : List ℕ) (t : List ℤ) (m : Lemma) → IsInstance p → k < length p.graphs → AreNumbersOf covers p k ns
    → IsLemmaFor (graph_at p k) (map (atom_numbered p) ns) t m → IsTrue (justifies p m)
found_justified covers p k ns t m ok place h l = shown_in_problem covers p k ns m ok place h l.shown l.concerned

pub explained_justified : (covers : Predicate → Bool) (p : Instance) (k : ℕ) (ns : List ℕ) (t : List ℤ) (n : ℕ) (lit : ℤ) (m : Lemma) → IsInstance p → k < length p.graphs → AreNumbersOf covers p k ns
    → IsLemmaOf (graph_at p k) (map (atom_numbered p) ns) t n lit m → IsTrue (justifies p m)
explained_justified covers p k ns t n lit m ok place h l =
    shown_in_problem covers p k ns m ok place h (subst (λ (j : ℕ). MatchOption (atom_of (map (atom_numbered p) ns) j) ⊥ (λ x. IsTrue (is_shown (graph_at p k) x m))) (sym l.number) l.shown) l.concerned
