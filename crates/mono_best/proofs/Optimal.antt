-- The best bound is the best over all satisfying assignments.
use Rattle.std.proofs.Common.{◌≡◌, ℕ, ◌+◌, ◌<◌, ◌≤◌, ◌&&◌, Bool, true, cond, eqb, List, [], ◌∷◌, map, length, All, refl, sym, subst, arith, ◌↔◌, ℤ, pos, negsuc, ◌+ℤ◌, ◌-ℤ◌, ◌<ℤ◌, ◌≤ℤ◌, int_le}
use Rattle.std.specs.Prelude.{IsTrue}
use Rattle.std.specs.List.{list_all}
use Rattle.std.proofs.lemmas.Bool.{and_parts, and_from, eq-eqb, ne_eqb}
use Rattle.std.proofs.lemmas.Int.{ints}
use Rattle.std.proofs.lemmas.List.Folds.{list_all-append}
use Rattle.std.proofs.lemmas.List.Elements.{All-push, All-head, All-tail}
use Rattle.mono_base.specs.declared.limits.TheConstants.{MAX_BOUND}
use Rattle.mono_base.specs.Literal.{lit_true, clause_true, all_true, value_in}
use Rattle.mono_base.proofs.Truth.{pos_true}
use Rattle.mono_graph.specs.Digraph.{Digraph, enabled, present, weight_of}
use Rattle.mono_graph.specs.declared.edge.Edge.{Edge}
use Rattle.mono_graph.specs.Walks.{is_walk}
use Rattle.mono_graph.specs.Flows.{is_flow, value_of}
use Rattle.mono_graph.specs.Trees.{is_spanning_tree}
use Rattle.mono_problem.specs.declared.atom.Atom.{Atom}
use Rattle.mono_problem.specs.declared.atom.Predicate.{Predicate}
use Rattle.mono_problem.specs.declared.atom.Predicate.TheVariants as kind
use Rattle.mono_problem.specs.Instance.{Instance, graph_at, no_graph}
use Rattle.mono_problem.specs.Read.{atom_numbered}
use Rattle.mono_problem.specs.WellFormed.{IsInstance}
use Rattle.mono_problem.specs.Holds.{Holds, HoldsAtom, Satisfies}
use Rattle.mono_problem.proofs.SameValues.{satisfies_same}
use Rattle.mono_steps.specs.declared.step.Step.{Step}
use Rattle.mono_steps.proofs.StepTruth.{refutation_excludes}
use Rattle.mono_steps.specs.Trimmed.{IsTrimRefutation}
use Rattle.mono_best.specs.Asking.{asking, asked_atom, predicate_of, HasBoundedAtom, HasRoomToAsk}
use Rattle.mono_best.specs.Bounds.{has_bound, with_bound, weakest, beyond, IsBoundOf}
use Rattle.mono_best.specs.Best.{IsBest}
use Rattle.mono_best.specs.Met.{Meets}
use Rattle.mono_best.specs.Optimum.{IsBetter, IsOptimum, IsNeverMet}
use Rattle.mono_best.proofs.Numbers.{never, bound_first, bound_in}
use Rattle.mono_best.proofs.Asked.{satisfied_before, asked_holds, asking-instance, atom_known}

-- ---- a better bound is met only where the next one is

lower : (x : ℕ) (b c : ℤ) → c <ℤ b → IsTrue (int_le (pos x) c) → IsTrue (int_le (pos x) (b -ℤ pos 1))
lower x b c h le = grind (arith, ints)

higher : (v b c : ℤ) → b <ℤ c → IsTrue (int_le c v) → IsTrue (int_le (b +ℤ pos 1) v)
higher v b c h le = grind (arith, ints)

pub next_met : (g : Digraph) (P : List Bool) (q : Predicate) (b c : ℤ) → IsBetter q c b → Holds g P (with_bound q c) → Holds g P (with_bound q (beyond q b))
next_met g P (kind.Reach u v) b c h m = absurd h
next_met g P (kind.Steps u v most) b c h m =
    let both = and_parts (is_walk g P u v m.0) (int_le (pos (length m.0)) c) m.1 in
    (m.0, and_from (is_walk g P u v m.0) (int_le (pos (length m.0)) (b -ℤ pos 1)) both.0 (lower (length m.0) b c h both.1))
next_met g P (kind.Distance u v most) b c h m =
    let both = and_parts (is_walk g P u v m.0) (int_le (pos (weight_of g m.0)) c) m.1 in
    (m.0, and_from (is_walk g P u v m.0) (int_le (pos (weight_of g m.0)) (b -ℤ pos 1)) both.0 (lower (weight_of g m.0) b c h both.1))
next_met g P (kind.Flow s t least) b c h m =
    let both = and_parts (is_flow g P s t m.0) (int_le c (value_of g s m.0)) m.1 in
    (m.0, and_from (is_flow g P s t m.0) (int_le (b +ℤ pos 1) (value_of g s m.0)) both.0 (higher (value_of g s m.0) b c h both.1))
next_met g P (kind.Tree most) b c h m =
    let both = and_parts (list_all (present P) m.0 && is_spanning_tree g m.0) (int_le (pos (weight_of g m.0)) c) m.1 in
    (m.0, and_from (list_all (present P) m.0 && is_spanning_tree g m.0) (int_le (pos (weight_of g m.0)) (b -ℤ pos 1)) both.0 (lower (weight_of g m.0) b c h both.1))
next_met g P kind.Acyclic b c h m = absurd h

-- ---- and the weakest wherever any is

lower_than_most : (x m : ℕ) (c : ℤ) → c ≤ℤ pos m → IsTrue (int_le (pos x) c) → IsTrue (int_le (pos x) (pos m))
lower_than_most x m c h le = grind (arith, ints)

higher_than_least : (v c : ℤ) → pos 0 ≤ℤ c → IsTrue (int_le c v) → IsTrue (int_le (pos 0) v)
higher_than_least v c h le = grind (arith, ints)

weakest_met : (g : Digraph) (P : List Bool) (q : Predicate) (c : ℤ) → IsBoundOf q c → Holds g P (with_bound q c) → Holds g P (with_bound q (weakest q))
weakest_met g P (kind.Reach u v) c h m = absurd h
weakest_met g P (kind.Steps u v most) c h m =
    let both = and_parts (is_walk g P u v m.0) (int_le (pos (length m.0)) c) m.1 in
    (m.0, and_from (is_walk g P u v m.0) (int_le (pos (length m.0)) (pos MAX_BOUND)) both.0 (lower_than_most (length m.0) MAX_BOUND c h.1 both.1))
weakest_met g P (kind.Distance u v most) c h m =
    let both = and_parts (is_walk g P u v m.0) (int_le (pos (weight_of g m.0)) c) m.1 in
    (m.0, and_from (is_walk g P u v m.0) (int_le (pos (weight_of g m.0)) (pos MAX_BOUND)) both.0 (lower_than_most (weight_of g m.0) MAX_BOUND c h.1 both.1))
weakest_met g P (kind.Flow s t least) c h m =
    let both = and_parts (is_flow g P s t m.0) (int_le c (value_of g s m.0)) m.1 in
    (m.0, and_from (is_flow g P s t m.0) (int_le (pos 0) (value_of g s m.0)) both.0 (higher_than_least (value_of g s m.0) c h.0 both.1))
weakest_met g P (kind.Tree most) c h m =
    let both = and_parts (list_all (present P) m.0 && is_spanning_tree g m.0) (int_le (pos (weight_of g m.0)) c) m.1 in
    (m.0, and_from (list_all (present P) m.0 && is_spanning_tree g m.0) (int_le (pos (weight_of g m.0)) (pos MAX_BOUND)) both.0 (lower_than_most (weight_of g m.0) MAX_BOUND c h.1 both.1))
weakest_met g P kind.Acyclic c h m = absurd h

-- ---- an assignment, and the new variable true

abbrev with_new : ℕ → (ℕ → Bool) → ℕ → Bool
with_new v a x = cond (eqb x v) true (a x)

old_same : (v : ℕ) (a : ℕ → Bool) (x : ℕ) → x < v → a x ≡ with_new v a x
old_same v a x lt = rw (ne_eqb x v (λ e. absurd (omega (arith, e, lt)))) refl

new_is : (v : ℕ) (a : ℕ → Bool) → IsTrue (with_new v a v)
new_is v a = rw (eq-eqb v v refl) refl

edges_same : (a b : ℕ → Bool) (n : ℕ) → ((v : ℕ) → v ≤ n → a v ≡ b v) → (es : List Edge) → All (λ (e : Edge). e.var ≤ n) es → map (λ (e : Edge). a e.var) es ≡ map (λ (e : Edge). b e.var) es
edges_same a b n same [] h = refl
edges_same a b n same (e ∷ es) h = rw (same e.var (All-head (λ (e : Edge). e.var ≤ n) e es h), edges_same a b n same es (All-tail (λ (e : Edge). e.var ≤ n) e es h)) refl

extended : (p : Instance) (n : ℕ) (b : ℤ) (a : ℕ → Bool) → IsInstance p → HasBoundedAtom p n → Satisfies p a → Meets p n a b → Satisfies (asking p n b) (with_new (p.vars + 1) a)
extended p n b a ok atom h m =
    let v = p.vars + 1 in
    let c : ℕ → Bool = with_new v a in
    let same : (x : ℕ) → x ≤ p.vars → a x ≡ c x = λ x le. old_same v a x (omega (arith, le)) in
    let all = satisfies_same p a c ok same h in
    let x = atom_numbered p n in
    let at = atom_known p n ok atom in
    let g = graph_at p x.graph in
    let edges : All (λ (e : Edge). e.var ≤ p.vars) g.edges = λ j e low. ((ok.graphs x.graph no_graph at.graph).within j e low).0 in
    let part : enabled a g ≡ enabled c g = edges_same a c p.vars same g.edges edges in
    let meets : Meets p n c b = subst (λ (P : List Bool). Holds g P (with_bound x.predicate b)) part m in
    let yes : IsTrue (c v) = new_is v a in
    let lit : IsTrue (lit_true c (pos v)) = subst (λ (y : Bool). IsTrue y) (sym (pos_true c v (omega arith))) yes in
    let unit : IsTrue (all_true c ((pos v ∷ []) ∷ [])) = rw lit refl in
    let right : IsTrue (c v) ↔ HoldsAtom p c (asked_atom p n b) = (λ _. meets, λ _. yes) in (
      subst (λ (y : Bool). IsTrue y) (sym (list_all-append (clause_true c) p.clauses ((pos v ∷ []) ∷ []))) (and_from (all_true c p.clauses) (all_true c ((pos v ∷ []) ∷ [])) all.0 unit),
      All-push (λ (y : Atom). IsTrue (c y.var) ↔ HoldsAtom p c y) p.atoms (asked_atom p n b) all.1 right,
    )

-- where the problem that asks for a bound is refuted, none meets the bound
none_meets : (p : Instance) (n : ℕ) (b : ℤ) (steps : List Step) → IsInstance p → HasBoundedAtom p n → IsInstance (asking p n b) → IsTrimRefutation (asking p n b) steps → (a : ℕ → Bool) → Satisfies p a → ¬ Meets p n a b
none_meets p n b steps ok atom asked_ok refuted a h = λ meets.
    refutation_excludes (asking p n b) steps asked_ok refuted.refutes (with_new (p.vars + 1) a) (extended p n b a ok atom h meets)

-- ---- the bound that asks for one more is one

more : (m : ℕ) (b : ℤ) → pos 0 ≤ℤ b → b ≤ℤ pos m → (pos 0 ≤ℤ (b +ℤ pos 1)) × ((b +ℤ pos 1) ≤ℤ pos (m + 1))
more m b low high = (omega (arith, ints, low), omega (arith, ints, high))

less : (m : ℕ) (b : ℤ) → pos 0 ≤ℤ b → b ≤ℤ pos m → (negsuc 0 ≤ℤ (b -ℤ pos 1)) × ((b -ℤ pos 1) ≤ℤ pos m)
less m b low high = (omega (arith, ints, low), omega (arith, ints, high))

pub next_in : (q : Predicate) (b : ℤ) → IsTrue (has_bound q) → pos 0 ≤ℤ b → b ≤ℤ pos MAX_BOUND → IsBoundOf q (beyond q b)
next_in (kind.Reach u v) b has low high = never has
next_in (kind.Steps u v most) b has low high = less MAX_BOUND b low high
next_in (kind.Distance u v most) b has low high = less MAX_BOUND b low high
next_in (kind.Flow s t least) b has low high = more MAX_BOUND b low high
next_in (kind.Tree most) b has low high = less MAX_BOUND b low high
next_in kind.Acyclic b has low high = never has

pub optimal : (p : Instance) (n : ℕ) (b : ℤ) (model : List Bool) (steps : List Step) → IsInstance p → HasBoundedAtom p n → HasRoomToAsk p → IsBest p n b model steps → IsOptimum p n b
optimal p n b model steps ok atom room h =
    let a = value_in model in
    let q = predicate_of p n in
    let g = graph_at p (atom_numbered p n).graph in
    let next = beyond q b in
    let asked_ok = asking-instance p n next ok atom room (next_in q b atom.bounded h.low h.high) in
    record {
      met = (a, satisfied_before p n b a h.met.satisfies, asked_holds p n b a h.met.satisfies);
      best = λ e c sat better meets.
          let at_next : Meets p n e next = next_met g (enabled e g) q b c better meets in
          none_meets p n next steps ok atom asked_ok h.refutes e sat at_next;
    }

pub weakest_in : (q : Predicate) → IsTrue (has_bound q) → IsBoundOf q (weakest q)
weakest_in q has = subst (IsBoundOf q) (bound_first q) (bound_in q 0 has (omega arith))

pub never_met : (p : Instance) (n : ℕ) (steps : List Step) → IsInstance p → HasBoundedAtom p n → HasRoomToAsk p → IsTrimRefutation (asking p n (weakest (predicate_of p n))) steps → IsNeverMet p n
never_met p n steps ok atom room refuted a c sat bound meets =
    let q = predicate_of p n in
    let g = graph_at p (atom_numbered p n).graph in
    let at_weakest : Meets p n a (weakest q) = weakest_met g (enabled a g) q c bound meets in
    none_meets p n (weakest q) steps ok atom (asking-instance p n (weakest q) ok atom room (weakest_in q atom.bounded)) refuted a sat at_weakest
