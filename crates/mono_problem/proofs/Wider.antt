-- A problem with more variables is one still; so is one with another clause or predicate.
use Rattle.std.proofs.Common.{◌≡◌, ℕ, ◌+◌, ◌<◌, ◌≤◌, List, [], ◌∷◌, ◌++◌, length, get_or, All, arith, subst, sym, length-append, inl, inr}
use Rattle.std.specs.Prelude.{ℤ}
use Rattle.std.proofs.Math.ListN.{get_or-append}
use Rattle.std.proofs.lemmas.List.{get_or_push}
use Rattle.std.proofs.lemmas.List.Sums.{sum_by_push}
use Rattle.std.proofs.lemmas.List.Elements.{All-weaker, All-push}
use Rattle.std.proofs.lemmas.Bool.{cases_lt as less_or_not}
use Rattle.mono_base.specs.declared.limits.TheConstants.{MAX_ATOMS, MAX_CLAUSES, MAX_LITERALS, MAX_VARS}
use Rattle.mono_graph.specs.Digraph.{Digraph}
use Rattle.mono_graph.specs.declared.edge.Edge.{Edge}
use Rattle.mono_problem.specs.declared.atom.Atom.{Atom}
use Rattle.mono_problem.specs.Instance.{Instance, literals_total}
use Rattle.mono_base.specs.Literal.{IsLitWithin}
use Rattle.mono_problem.specs.WellFormed.{IsInstance, IsDeclared, IsAtomAt}

pub IsLitWithin-wider : (v w : ℕ) → v ≤ w → (l : ℤ) → IsLitWithin v l → IsLitWithin w l
IsLitWithin-wider v w up l h = (h.0, omega (arith, h.1))

pub AreWithin-wider : (v w : ℕ) → v ≤ w → (c : List ℤ) → All (IsLitWithin v) c → All (IsLitWithin w) c
AreWithin-wider v w up c h = All-weaker (IsLitWithin v) (IsLitWithin w) (IsLitWithin-wider v w up) c h

pub IsDeclared-wider : (v w m n : ℕ) → v ≤ w → m ≤ n → (g : ℕ × Digraph) → IsDeclared v m g → IsDeclared w n g
IsDeclared-wider v w m n up more g h = record {
  identity = h.identity;
  graph = h.graph;
  within = All-weaker (λ (e : Edge). (e.var ≤ v) × (e.number ≤ m)) (λ (e : Edge). (e.var ≤ w) × (e.number ≤ n)) (λ e k. (omega (arith, k.0), omega (arith, k.1))) g.1.edges h.within;
}

-- more variables
pub IsInstance-wider : (p : Instance) (w : ℕ) → p.vars ≤ w → w ≤ MAX_VARS → IsInstance p → IsInstance (record p { vars = w })
IsInstance-wider p w up high h = record {
  vars = high;
  few_graphs = h.few_graphs;
  few_nodes = h.few_nodes;
  few_edges = h.few_edges;
  few_atoms = h.few_atoms;
  few_clauses = h.few_clauses;
  few_literals = h.few_literals;
  identities = h.identities;
  graphs = All-weaker (IsDeclared p.vars _) (IsDeclared w _) (IsDeclared-wider p.vars w _ _ up (omega arith)) p.graphs h.graphs;
  numbers = h.numbers;
  atoms = λ k d low. let x = h.atoms k d low in record { number = x.number; graph = x.graph; over = x.over; low = x.low; high = omega (arith, x.high) };
  clauses = All-weaker (All (IsLitWithin p.vars)) (All (IsLitWithin w)) (AreWithin-wider p.vars w up) p.clauses h.clauses;
}

-- one more clause
pub IsInstance-clause : (p : Instance) (c : List ℤ) → IsInstance p → length p.clauses < MAX_CLAUSES → literals_total p + length c ≤ MAX_LITERALS → All (IsLitWithin p.vars) c → IsInstance (record p { clauses = p.clauses ++ c ∷ [] })
IsInstance-clause p c h room lits within = record {
  vars = h.vars;
  few_graphs = h.few_graphs;
  few_nodes = h.few_nodes;
  few_edges = h.few_edges;
  few_atoms = h.few_atoms;
  few_clauses = omega (arith, length-append p.clauses (c ∷ []));
  few_literals = omega (arith, sum_by_push (λ (d : List ℤ). length d) p.clauses c);
  identities = h.identities;
  graphs = h.graphs;
  numbers = h.numbers;
  atoms = λ k d low. let x = h.atoms k d low in record { number = x.number; graph = x.graph; over = x.over; low = x.low; high = x.high };
  clauses = All-push (All (IsLitWithin p.vars)) p.clauses c h.clauses within;
}

-- one more predicate
atom_kept : (p : Instance) (x : Atom) → IsInstance p → IsAtomAt p (length p.atoms) x → (k : ℕ) (d : Atom) → k < length (p.atoms ++ x ∷ []) → IsAtomAt p k (get_or (p.atoms ++ x ∷ []) k d)
atom_kept p x h here k d low =
    let P : Atom → Type 0 = IsAtomAt p k in
    elim (less_or_not k (length p.atoms)) [
      | inl before ↦ subst P (sym (get_or-append p.atoms (x ∷ []) d k before)) (h.atoms k d before)
      | inr after ↦
          let at : length p.atoms ≡ k = omega (arith, length-append p.atoms (x ∷ [])) in
          subst P (sym (get_or_push p.atoms x d k at)) (let Q : ℕ → Type 0 = λ j. IsAtomAt p j x in subst Q at here)
    ]

pub IsInstance-atom : (p : Instance) (x : Atom) → IsInstance p → length p.atoms < MAX_ATOMS → IsAtomAt p (length p.atoms) x → IsInstance (record p { atoms = p.atoms ++ x ∷ [] })
IsInstance-atom p x h room here = record {
  vars = h.vars;
  few_graphs = h.few_graphs;
  few_nodes = h.few_nodes;
  few_edges = h.few_edges;
  few_atoms = omega (arith, length-append p.atoms (x ∷ []));
  few_clauses = h.few_clauses;
  few_literals = h.few_literals;
  identities = h.identities;
  graphs = h.graphs;
  numbers = h.numbers;
  atoms = λ k d low. let y = atom_kept p x h here k d low in record { number = y.number; graph = y.graph; over = y.over; low = y.low; high = y.high };
  clauses = h.clauses;
}
