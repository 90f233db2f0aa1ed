-- Two assignments that give the variables of a problem the same values satisfy the same.
use Rattle.std.proofs.Common.{◌≡◌, ℕ, zero, suc, ◌≤◌, Bool, not, List, [], ◌∷◌, map, get_or, All, refl, ap, subst, arith, ◌↔◌, ℤ, pos, negsuc}
use Rattle.std.specs.Prelude.{IsTrue, nat_abs}
use Rattle.mono_base.specs.Literal.{lit_true, clause_true, all_true}
use Rattle.mono_graph.specs.Digraph.{enabled}
use Rattle.mono_graph.specs.declared.edge.Edge.{Edge}
use Rattle.mono_problem.specs.Holds.{Holds, Agrees, Satisfies}
use Rattle.mono_problem.specs.Instance.{Instance, graph_at, no_graph}
use Rattle.mono_problem.specs.WellFormed.{IsInstance}

head_of : {A : Type 0} (P : A → Type 0) (x : A) (xs : List A) → All P (x ∷ xs) → P x
head_of P x xs h = h 0 x (omega arith)

tail_of : {A : Type 0} (P : A → Type 0) (x : A) (xs : List A) → All P (x ∷ xs) → All P xs
tail_of P x xs h = λ k d lt. h (suc k) d (omega (arith, lt))

abbrev pub IsLow : ℕ → ℤ → Type 0
IsLow n l = nat_abs l ≤ n

module _ (a b : ℕ → Bool) (n : ℕ) (same : (v : ℕ) → v ≤ n → a v ≡ b v) where
  lit_same : (l : ℤ) → IsLow n l → lit_true a l ≡ lit_true b l
  lit_same (pos zero) h = refl
  lit_same (pos (suc k)) h = same (suc k) h
  lit_same (negsuc k) h = ap not (same (suc k) h)

  clause_same : (c : List ℤ) → All (IsLow n) c → clause_true a c ≡ clause_true b c
  clause_same [] h = refl
  clause_same (l ∷ c) h = rw (lit_same l (head_of (IsLow n) l c h), clause_same c (tail_of (IsLow n) l c h)) refl

  pub all_same : (cs : List (List ℤ)) → All (All (IsLow n)) cs → all_true a cs ≡ all_true b cs
  all_same [] h = refl
  all_same (c ∷ cs) h = rw (clause_same c (head_of (All (IsLow n)) c cs h), all_same cs (tail_of (All (IsLow n)) c cs h)) refl

  edges_same : (es : List Edge) → All (λ (e : Edge). e.var ≤ n) es → map (λ (e : Edge). a e.var) es ≡ map (λ (e : Edge). b e.var) es
  edges_same [] h = refl
  edges_same (e ∷ es) h = rw (same e.var (head_of (λ (e : Edge). e.var ≤ n) e es h), edges_same es (tail_of (λ (e : Edge). e.var ≤ n) e es h)) refl

  pub agrees_same : (p : Instance) → IsInstance p → p.vars ≤ n → Agrees p a → Agrees p b
  agrees_same p ok few h = λ k d lt.
      let x = get_or p.atoms k d in
      let at = ok.atoms k d lt in
      let g = graph_at p x.graph in
      let own : a x.var ≡ b x.var = same x.var (omega (arith, at.high, few)) in
      let edges : All (λ (e : Edge). e.var ≤ n) g.edges = λ j e low. omega (arith, ((ok.graphs x.graph no_graph at.graph).within j e low).0, few) in
      let part : enabled a g ≡ enabled b g = edges_same g.edges edges in
      let one : IsTrue (a x.var) ↔ Holds g (enabled a g) x.predicate = h k d lt in
      subst (λ (P : List Bool). IsTrue (b x.var) ↔ Holds g P x.predicate) part (subst (λ (v : Bool). IsTrue v ↔ Holds g (enabled a g) x.predicate) own one)

pub satisfies_same : (p : Instance) (a b : ℕ → Bool) → IsInstance p → ((v : ℕ) → v ≤ p.vars → a v ≡ b v) → Satisfies p a → Satisfies p b
satisfies_same p a b ok same h =
    let low : All (All (IsLow p.vars)) p.clauses = λ k d lt i e within. (ok.clauses k d lt i e within).1 in
    (subst (λ (v : Bool). IsTrue v) (all_same a b p.vars same p.clauses low) h.0, agrees_same a b p.vars same p ok (omega arith) h.1)
