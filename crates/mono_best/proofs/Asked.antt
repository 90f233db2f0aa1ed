-- What satisfies a problem that asks for a bound.
use Rattle.std.proofs.Common.{◌≡◌, ℕ, ◌+◌, ◌-◌, ◌≤◌, ◌||◌, Bool, true, false, List, [], ◌∷◌, ◌++◌, length, refl, sym, subst, ◌∙◌, arith, ◌↔◌, ℤ, pos, length-append, inl, inr, max, ap, None, Some}
use Rattle.std.specs.Prelude.{IsTrue, Option, ◌⊎◌}
use Rattle.std.proofs.lemmas.Bool.{and_parts}
use Rattle.std.proofs.lemmas.List.{get_or_append_left, get_or_push}
use Rattle.std.proofs.lemmas.List.Folds.{list_all-append}
use Rattle.std.proofs.lemmas.List.Elements.{All-push, All-cons, All-nil}
use Rattle.mono_base.specs.declared.limits.TheConstants.{MAX_BOUND}
use Rattle.mono_base.specs.Literal.{lit_true, clause_true, all_true, value_in, IsLitWithin}
use Rattle.mono_base.proofs.Truth.{pos_true}
use Rattle.mono_graph.specs.Digraph.{Digraph, enabled}
use Rattle.mono_problem.specs.declared.atom.Atom.{Atom}
use Rattle.mono_problem.specs.Instance.{Instance, graph_at}
use Rattle.mono_problem.specs.Read.{atom_numbered, no_atom}
use Rattle.mono_problem.specs.Growth.{with_atom, with_clause}
use Rattle.mono_problem.specs.WellFormed.{IsInstance, IsAtomAt}
use Rattle.mono_problem.specs.Holds.{Holds, HoldsAtom, Agrees, Satisfies}
use Rattle.mono_problem.proofs.Wider.{IsInstance-wider, IsInstance-atom, IsInstance-clause}
use Rattle.mono_steps.specs.declared.step.Step.{Step}
use Rattle.mono_search.specs.Outcomes.{HasModel}
use Rattle.mono_steps.specs.New.{IsProgress}
use Rattle.mono_steps.specs.Trimmed.{IsTrimRefutation}
use Rattle.mono_best.specs.Asking.{asking, asked_atom, predicate_of, HasBoundedAtom, HasRoomToAsk}
use Rattle.mono_best.specs.Bounds.{has_bound, with_bound, bound_at, beyond, weakest, IsBoundOf}
use Rattle.mono_best.specs.Best.{IsBeyond, IsBest, IsMetBefore, IsNextAfterMet, IsOpen}
use Rattle.mono_best.specs.Met.{Meets, HasNumber, IsMetFrom}
use Rattle.mono_best.proofs.Numbers.{last_flows, last_bound, bound_first, bound_in, bound_next, bound_between, over_bound}

-- ---- the problem grows by one atom and one clause

pub asking_grows : (p : Instance) (n : ℕ) (b : ℤ) → with_clause (with_atom p (asked_atom p n b)) (pos (p.vars + 1) ∷ []) ≡ asking p n b
asking_grows p n b =
    let e : max (max p.vars (p.vars + 1)) (p.vars + 1) ≡ p.vars + 1 = omega arith in
    rw e refl

pub atom_known : (p : Instance) (n : ℕ) → IsInstance p → HasBoundedAtom p n → IsAtomAt p (n - 1) (atom_numbered p n)
atom_known p n ok atom = ok.atoms (n - 1) no_atom (omega (arith, atom.low, atom.high))

pub asking-instance : (p : Instance) (n : ℕ) (b : ℤ) → IsInstance p → HasBoundedAtom p n → HasRoomToAsk p → IsBoundOf (predicate_of p n) b → IsInstance (asking p n b)
asking-instance p n b ok atom room bound =
    let v = p.vars + 1 in
    let at = atom_known p n ok atom in
    let x = asked_atom p n b in
    let wide : Instance = record p { vars = v } in
    let wide_ok : IsInstance wide = IsInstance-wider p v (omega arith) (omega (arith, room.vars)) ok in
    let here : IsAtomAt wide (length p.atoms) x = record {
      number = refl;
      graph = at.graph;
      over = over_bound (graph_at p (atom_numbered p n).graph) (predicate_of p n) b at.over bound;
      low = omega arith;
      high = omega arith;
    } in
    let more : Instance = record wide { atoms = p.atoms ++ x ∷ [] } in
    let more_ok : IsInstance more = IsInstance-atom wide x wide_ok room.atoms here in
    let lit : IsLitWithin v (pos v) = (omega arith, omega arith) in
    IsInstance-clause more (pos v ∷ []) more_ok room.clauses (omega (arith, room.literals)) (All-cons (IsLitWithin v) (pos v) [] lit (All-nil (IsLitWithin v)))

-- ---- the new variable is true, the atoms of p agree, and the new one holds

unit_true : (a : ℕ → Bool) (v : ℕ) → IsTrue (clause_true a (pos (v + 1) ∷ [])) → IsTrue (a (v + 1))
unit_true a v h = subst (λ (b : Bool). IsTrue b) (pos_true a (v + 1) (omega arith)) (or_false (lit_true a (pos (v + 1))) h)
  where
    or_false : (b : Bool) → IsTrue (b || false) → IsTrue b
    or_false true h = refl
    or_false false h = h

asked_clauses : (p : Instance) (n : ℕ) (b : ℤ) (a : ℕ → Bool) → Satisfies (asking p n b) a → IsTrue (all_true a p.clauses) × IsTrue (all_true a ((pos (p.vars + 1) ∷ []) ∷ []))
asked_clauses p n b a h = and_parts (all_true a p.clauses) (all_true a ((pos (p.vars + 1) ∷ []) ∷ [])) (subst (λ (v : Bool). IsTrue v) (list_all-append (clause_true a) p.clauses ((pos (p.vars + 1) ∷ []) ∷ [])) h.0)

new_true : (p : Instance) (n : ℕ) (b : ℤ) (a : ℕ → Bool) → Satisfies (asking p n b) a → IsTrue (a (p.vars + 1))
new_true p n b a h = unit_true a p.vars (and_parts (clause_true a (pos (p.vars + 1) ∷ [])) true (asked_clauses p n b a h).1).0

abbrev IsRight : Instance → (ℕ → Bool) → Atom → Type 0
IsRight p a x = IsTrue (a x.var) ↔ HoldsAtom p a x

before_agree : (p : Instance) (n : ℕ) (b : ℤ) (a : ℕ → Bool) → Satisfies (asking p n b) a → Agrees p a
before_agree p n b a h = λ k d lt.
    subst (IsRight p a) (get_or_append_left p.atoms (asked_atom p n b ∷ []) d k lt) (h.1 k d (omega (arith, lt, length-append p.atoms (asked_atom p n b ∷ []))))

pub satisfied_before : (p : Instance) (n : ℕ) (b : ℤ) (a : ℕ → Bool) → Satisfies (asking p n b) a → Satisfies p a
satisfied_before p n b a h = ((asked_clauses p n b a h).0, before_agree p n b a h)

pub asked_holds : (p : Instance) (n : ℕ) (b : ℤ) (a : ℕ → Bool) → Satisfies (asking p n b) a → Meets p n a b
asked_holds p n b a h =
    let x = asked_atom p n b in
    let last : IsRight p a x = subst (IsRight p a) (get_or_push p.atoms x x (length p.atoms) refl) (h.1 (length p.atoms) x (omega (arith, length-append p.atoms (x ∷ [])))) in
    last.0 (new_true p n b a h)

-- ---- a model for one bound is one for each bound that it meets

met_too : (p : Instance) (n : ℕ) (b c : ℤ) (model : List Bool) → HasModel (asking p n b) model → Meets p n (value_in model) c → HasModel (asking p n c) model
met_too p n b c model h meets =
    let a = value_in model in
    let yes = new_true p n b a h.satisfies in
    let one : IsRight p a (asked_atom p n c) = (λ _. meets, λ _. yes) in
    record {
      len = h.len;
      satisfies = (h.satisfies.0, All-push (IsRight p a) p.atoms (asked_atom p n c) (before_agree p n b a h.satisfies) one);
    }

met_last : (p : Instance) (n k met : ℕ) (model : List Bool) → HasModel (asking p n (bound_at (predicate_of p n) k)) model → (met ≡ k) ⊎ Meets p n (value_in model) (bound_at (predicate_of p n) met) → HasModel (asking p n (bound_at (predicate_of p n) met)) model
met_last p n k met model h (inl e) = subst (λ (j : ℕ). HasModel (asking p n (bound_at (predicate_of p n) j)) model) (sym e) h
met_last p n k met model h (inr meets) = met_too p n (bound_at (predicate_of p n) k) (bound_at (predicate_of p n) met) model h meets

pub met_from : (p : Instance) (n k met : ℕ) (model seen : List Bool) → seen ≡ model → HasModel (asking p n (bound_at (predicate_of p n) k)) model → IsMetFrom p n (value_in seen) k met → HasModel (asking p n (bound_at (predicate_of p n) met)) model
met_from p n k met model seen same h from =
    let here : IsMetFrom p n (value_in model) k met = subst (λ (v : List Bool). IsMetFrom p n (value_in v) k met) same from in
    met_last p n k met model h here.meets

pub met_beyond : (p : Instance) (n k : ℕ) (model : List Bool) → k ≡ MAX_BOUND + 1 → IsTrue (has_bound (predicate_of p n)) → HasModel (asking p n (bound_at (predicate_of p n) k)) model → IsBeyond p n model
met_beyond p n k model last has met =
    let q = predicate_of p n in
    let g = graph_at p (atom_numbered p n).graph in
    let h : HasModel (asking p n (bound_at q (MAX_BOUND + 1))) model = subst (λ (j : ℕ). HasModel (asking p n (bound_at q j)) model) last met in
    let flows = last_flows g (enabled (value_in model) g) q has (asked_holds p n (bound_at q (MAX_BOUND + 1)) (value_in model) h.satisfies) in
    record { flow = flows; met = subst (λ (b : ℤ). HasModel (asking p n b) model) (last_bound q flows) h }

-- ---- what a search in the enabled part shows

pub met_number : (p : Instance) (n k number : ℕ) (a : ℕ → Bool) (g : Digraph) (P : List Bool) (x : Atom) → x ≡ atom_numbered p n → g ≡ graph_at p x.graph → P ≡ enabled a g → k ≤ number → HasNumber g P x.predicate number → IsMetFrom p n a k number
met_number p n k number a g P x is graph part up h =
    let here : Holds g (enabled a g) (with_bound x.predicate (bound_at x.predicate number)) = subst (λ (Q : List Bool). Holds g Q (with_bound x.predicate (bound_at x.predicate number))) part h.holds in
    let there : Holds (graph_at p x.graph) (enabled a (graph_at p x.graph)) (with_bound x.predicate (bound_at x.predicate number)) = subst (λ (d : Digraph). Holds d (enabled a d) (with_bound x.predicate (bound_at x.predicate number))) graph here in
    record {
      from = up;
      to = h.to;
      meets = inr (subst (λ (y : Atom). Holds (graph_at p y.graph) (enabled a (graph_at p y.graph)) (with_bound y.predicate (bound_at y.predicate number))) is there);
    }

-- ---- a model for one bound, and a refutation of the next

pub best_before : (p : Instance) (n k : ℕ) (b : ℤ) (model : List Bool) (steps : List Step) → b ≡ bound_at (predicate_of p n) (k - 1) → IsMetBefore p n k (Some model) → IsTrimRefutation (asking p n (bound_at (predicate_of p n) k)) steps → IsBest p n b model steps
best_before p n k b model steps is met refutes =
    let q = predicate_of p n in
    let between = bound_between q (k - 1) (omega (arith, met.0, met.1)) in
    let next : beyond q (bound_at q (k - 1)) ≡ bound_at q k = bound_next q (k - 1) ∙ ap (bound_at q) (let e : k - 1 + 1 ≡ k = omega (arith, met.0) in e) in
    subst (λ (c : ℤ). IsBest p n c model steps) (sym is) (record {
      low = between.0;
      high = between.1;
      met = met.2;
      refutes = subst (λ (c : ℤ). IsTrimRefutation (asking p n c) steps) (sym next) refutes;
    })

-- ---- the bound on which a budget was spent

pub first_or_next : (p : Instance) (n k : ℕ) (b : ℤ) (o : Option (List Bool)) → b ≡ bound_at (predicate_of p n) k → IsMetBefore p n k o → (b ≡ weakest (predicate_of p n)) ⊎ IsNextAfterMet p n b
first_or_next p n k b None is none = inl (is ∙ (ap (bound_at (predicate_of p n)) none ∙ bound_first (predicate_of p n)))
first_or_next p n k b (Some model) is met =
    let q = predicate_of p n in
    let next : beyond q (bound_at q (k - 1)) ≡ bound_at q k = bound_next q (k - 1) ∙ ap (bound_at q) (let e : k - 1 + 1 ≡ k = omega (arith, met.0) in e) in
    inr (record { met_bound = bound_at q (k - 1); model = model; met = met.2; next = is ∙ sym next })

pub spent_on : (p : Instance) (n k budget : ℕ) (b : ℤ) (o : Option (List Bool)) (steps : List Step) → IsTrue (has_bound (predicate_of p n)) → k ≤ MAX_BOUND + 1 → b ≡ bound_at (predicate_of p n) k → IsMetBefore p n k o
    → IsProgress (asking p n (bound_at (predicate_of p n) k)) budget steps → IsOpen p n budget b steps
spent_on p n k budget b o steps bounded few is met progress = record {
  bound = subst (IsBoundOf (predicate_of p n)) (sym is) (bound_in (predicate_of p n) k bounded few);
  first_or_next = first_or_next p n k b o is met;
  progress = subst (λ (c : ℤ). IsProgress (asking p n c) budget steps) (sym is) progress;
}
