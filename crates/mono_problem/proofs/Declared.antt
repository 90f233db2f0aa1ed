-- A problem with one more graph, of a new identity and with no edges, is a problem still.
use Rattle.std.proofs.Common.{◌≡◌, ℕ, ◌+◌, ◌<◌, ◌≤◌, ◌^◌, ◌==◌, Bool, true, false, List, [], ◌∷◌, ◌++◌, length, All, arith, refl, subst, sym, ap, ◌∙◌, length-append, inl, inr, Some, None, position, map, cond, eqb, ltb, suc, IsTrue}
use Rattle.std.specs.Prelude.{not, count_by, slice_index, slice_index_or}
use Rattle.std.specs.List.{position_or_len}
use Rattle.std.proofs.Math.ListN.{get_or-append}
use Rattle.std.proofs.lemmas.List.{get_or_push}
use Rattle.std.proofs.lemmas.List.Sums.{sum_by_push}
use Rattle.std.proofs.lemmas.List.Folds.{position_or_len_push}
use Rattle.std.proofs.lemmas.List.Sums.{prefix_len-le-length}
use Rattle.std.proofs.lemmas.List.Elements.{All-weaker, All-push, All-nil}
use Rattle.std.proofs.lemmas.Bool.{cases_lt, eq-eqb, ne_eqb, ltb-true, ltb-false, lt-ltb}
use Rattle.mono_base.specs.declared.limits.TheConstants.{MAX_GRAPHS, MAX_NODES, MAX_VARS, MAX_WEIGHT}
use Rattle.mono_graph.specs.Digraph.{Digraph, IsGraph}
use Rattle.mono_graph.specs.declared.edge.Edge.{Edge}
use Rattle.mono_problem.specs.declared.atom.Atom.{Atom}
use Rattle.mono_problem.specs.Instance.{Instance, no_graph, identity_at, place_named, nodes_total, edges_total, has_number}
use Rattle.mono_problem.specs.WellFormed.{IsInstance, IsDeclared, IsAtomAt, IsOver}
use Rattle.mono_problem.specs.Growth.{with_graph}
use Rattle.mono_problem.specs.Kept.{AreHomes}
use Rattle.mono_problem.proofs.Wider.{IsDeclared-wider}

-- ---- the place of the first number that passes

pub position-value : (test : ℕ → Bool) (xs : List ℕ) (k : ℕ) → position test xs ≡ Some k → (position_or_len test xs ≡ k) × (k < length xs)
position-value test xs k found =
    (elim (ltb (position_or_len test xs) (length xs)) as (λ b. ltb (position_or_len test xs) (length xs) ≡ b → cond b (Some (position_or_len test xs)) None ≡ Some k → (position_or_len test xs ≡ k) × (k < length xs)) [
      | true ↦ λ low some. let e : position_or_len test xs ≡ k = cc in (e, omega (arith, ltb-true (position_or_len test xs) (length xs) low))
      | false ↦ λ low none. absurd cc
    ]) refl found

position-None : (test : ℕ → Bool) (xs : List ℕ) → position test xs ≡ None → length xs ≤ position_or_len test xs
position-None test xs absent =
    (elim (ltb (position_or_len test xs) (length xs)) as (λ b. ltb (position_or_len test xs) (length xs) ≡ b → cond b (Some (position_or_len test xs)) None ≡ None → length xs ≤ position_or_len test xs) [
      | true ↦ λ low some. absurd cc
      | false ↦ λ low none. ltb-false (position_or_len test xs) (length xs) low
    ]) refl absent

position-from : (test : ℕ → Bool) (xs : List ℕ) → position_or_len test xs < length xs → position test xs ≡ Some (position_or_len test xs)
position-from test xs low = rw (lt-ltb (position_or_len test xs) (length xs) low) refl

pub position_push_found : (test : ℕ → Bool) (xs : List ℕ) (y k : ℕ) → position test xs ≡ Some k → position test (xs ++ y ∷ []) ≡ Some k
position_push_found test xs y k found =
    let v = position-value test xs k found in
    let apart : eqb (position_or_len test xs) (length xs) ≡ false = ne_eqb (position_or_len test xs) (length xs) (λ e. absurd (omega (arith, v.0, v.1))) in
    let same : position_or_len test (xs ++ y ∷ []) ≡ position_or_len test xs = position_or_len_push test xs y ∙ rw apart refl in
    let low : position_or_len test (xs ++ y ∷ []) < length (xs ++ y ∷ []) = omega (arith, same, v.0, v.1, length-append xs (y ∷ [])) in
    position-from test (xs ++ y ∷ []) low ∙ ap Some (same ∙ v.0)

pub position_push_absent : (test : ℕ → Bool) (xs : List ℕ) (y : ℕ) → position test xs ≡ None → test y ≡ true → position test (xs ++ y ∷ []) ≡ Some (length xs)
position_push_absent test xs y absent here =
    let past = position-None test xs absent in
    let most = prefix_len-le-length (λ x. not (test x)) xs in
    let at : position_or_len test xs ≡ length xs = omega (arith, past, most) in
    let same : position_or_len test (xs ++ y ∷ []) ≡ length xs = position_or_len_push test xs y ∙ rw (eq-eqb (position_or_len test xs) (length xs) at, here) (omega arith) in
    let low : position_or_len test (xs ++ y ∷ []) < length (xs ++ y ∷ []) = omega (arith, same, length-append xs (y ∷ [])) in
    position-from test (xs ++ y ∷ []) low ∙ ap Some same

-- ---- one more graph

names-append : (gs : List (ℕ × Digraph)) (g : ℕ × Digraph) → map (λ (g : ℕ × Digraph). g.0) (gs ++ g ∷ []) ≡ map (λ (g : ℕ × Digraph). g.0) gs ++ g.0 ∷ []
names-append [] g = refl
names-append (f ∷ fs) g = ap (λ ns. f.0 ∷ ns) (names-append fs g)

length-names : (gs : List (ℕ × Digraph)) → length (map (λ (g : ℕ × Digraph). g.0) gs) ≡ length gs
length-names [] = refl
length-names (f ∷ fs) = ap suc (length-names fs)

-- a graph with no edges
no_edges : (n : ℕ) → 0 < n → n ≤ MAX_NODES → IsGraph (record { nodes = n; edges = [] })
no_edges n some few = record {
  some_node = omega arith;
  few_nodes = few;
  few_edges = omega arith;
  ends = All-nil (λ (e : Edge). (e.from < n) × (e.to < n));
  rising = λ i j a b. absurd (omega arith);
  numbers = All-nil (λ (e : Edge). 1 ≤ e.number);
  vars = All-nil (λ (e : Edge). (1 ≤ e.var) × (e.var ≤ MAX_VARS));
  weights = All-nil (λ (e : Edge). e.weight ≤ MAX_WEIGHT);
}

-- the number i is first at the place k
abbrev IsFirstAt : ℕ → List ℕ → ℕ → Type 0
IsFirstAt i names k = position (λ j. i == j) names ≡ Some k

module _ (p : Instance) (id n : ℕ) (h : IsInstance p) where
  -- the graphs that stood there stand where they stood
  kept_at : (k : ℕ) → k < length p.graphs → slice_index_or (p.graphs ++ (id, record { nodes = n; edges = [] }) ∷ []) k no_graph ≡ slice_index_or p.graphs k no_graph
  kept_at k low = get_or-append p.graphs ((id, record { nodes = n; edges = [] }) ∷ []) no_graph k low

  new_at : (k : ℕ) → length p.graphs ≡ k → slice_index_or (p.graphs ++ (id, record { nodes = n; edges = [] }) ∷ []) k no_graph ≡ (id, record { nodes = n; edges = [] })
  new_at k at = get_or_push p.graphs (id, record { nodes = n; edges = [] }) no_graph k at

  names_of : List ℕ
  names_of = map (λ (g : ℕ × Digraph). g.0) p.graphs

  identities : place_named p.graphs id ≡ None → (k : ℕ) → k < length (with_graph p id n).graphs → place_named (with_graph p id n).graphs (identity_at (with_graph p id n) k) ≡ Some k
  identities new k low =
      let all = names-append p.graphs (id, record { nodes = n; edges = [] }) in
      let Q : ℕ → List ℕ → Type 0 = λ i names. IsFirstAt i names k in
      elim (cases_lt k (length p.graphs)) [
        | inl before ↦
            let base = position_push_found (λ j. identity_at p k == j) (map (λ (g : ℕ × Digraph). g.0) p.graphs) id k (h.identities k before) in
            let names : Q (identity_at p k) (map (λ (g : ℕ × Digraph). g.0) (with_graph p id n).graphs) = subst (λ (ns : List ℕ). IsFirstAt (identity_at p k) ns k) (sym all) base in
            subst (λ (i : ℕ). IsFirstAt i (map (λ (g : ℕ × Digraph). g.0) (with_graph p id n).graphs) k) (ap (λ (g : ℕ × Digraph). g.0) (sym (kept_at k before))) names
        | inr after ↦
            let at : length p.graphs ≡ k = omega (arith, length-append p.graphs ((id, record { nodes = n; edges = [] }) ∷ [])) in
            let base = position_push_absent (λ j. id == j) (map (λ (g : ℕ × Digraph). g.0) p.graphs) id new (eq-eqb id id refl) ∙ ap Some (length-names p.graphs ∙ at) in
            let names : Q id (map (λ (g : ℕ × Digraph). g.0) (with_graph p id n).graphs) = subst (λ (ns : List ℕ). IsFirstAt id ns k) (sym all) base in
            subst (λ (i : ℕ). IsFirstAt i (map (λ (g : ℕ × Digraph). g.0) (with_graph p id n).graphs) k) (ap (λ (g : ℕ × Digraph). g.0) (sym (new_at k at))) names
      ]

  same_edges : edges_total (with_graph p id n) ≡ edges_total p
  same_edges = sum_by_push (λ (g : ℕ × Digraph). length g.1.edges) p.graphs (id, record { nodes = n; edges = [] }) ∙ omega arith

  declared : id < 2 ^ 32 → 0 < n → nodes_total p + n ≤ MAX_NODES → All (IsDeclared p.vars (edges_total (with_graph p id n))) (with_graph p id n).graphs
  declared id_low some few =
      let g : ℕ × Digraph = (id, record { nodes = n; edges = [] }) in
      All-push (IsDeclared p.vars (edges_total (with_graph p id n))) p.graphs (id, record { nodes = n; edges = [] })
      (All-weaker (IsDeclared p.vars (edges_total p)) (IsDeclared p.vars (edges_total (with_graph p id n))) (IsDeclared-wider p.vars p.vars _ _ (omega arith) (omega (arith, same_edges))) p.graphs h.graphs)
      (record { identity = id_low; graph = no_edges n some (omega arith); within = All-nil (λ (e : Edge). (e.var ≤ p.vars) × (e.number ≤ edges_total (with_graph p id n))) })

  atoms : (k : ℕ) (d : Atom) → k < length p.atoms → IsAtomAt (with_graph p id n) k (slice_index_or p.atoms k d)
  atoms k d low =
      let x = h.atoms k d low in
      let same = kept_at (slice_index_or p.atoms k d).graph x.graph in
      record {
        number = x.number;
        graph = omega (arith, x.graph, length-append p.graphs ((id, record { nodes = n; edges = [] }) ∷ []));
        over = subst (λ (g : ℕ × Digraph). IsOver g.1 (slice_index_or p.atoms k d).predicate) (sym same) x.over;
        low = x.low;
        high = x.high;
      }

  pub IsInstance-graph : place_named p.graphs id ≡ None → id < 2 ^ 32 → 0 < n → nodes_total p + n ≤ MAX_NODES → length p.graphs < MAX_GRAPHS → IsInstance (with_graph p id n)
  IsInstance-graph new id_low some few room = record {
    vars = h.vars;
    few_graphs = omega (arith, length-append p.graphs ((id, record { nodes = n; edges = [] }) ∷ []));
    few_nodes = omega (arith, sum_by_push (λ (g : ℕ × Digraph). g.1.nodes) p.graphs (id, record { nodes = n; edges = [] }));
    few_edges = omega (arith, same_edges, h.few_edges);
    few_atoms = h.few_atoms;
    few_clauses = h.few_clauses;
    few_literals = h.few_literals;
    identities = identities new;
    graphs = declared id_low some few;
    numbers = λ m low high. sum_by_push (λ (g : ℕ × Digraph). count_by (λ (e : Edge). e.number == m) g.1.edges) p.graphs (id, record { nodes = n; edges = [] }) ∙ omega (arith, h.numbers m low (omega (arith, same_edges)));
    atoms = atoms;
    clauses = h.clauses;
  }

  pub AreHomes-graph : (homes : List ℕ) → AreHomes p homes → AreHomes (with_graph p id n) homes
  AreHomes-graph homes a = record {
    len = a.len ∙ sym same_edges;
    held = λ k low. omega (arith, a.held k low, length-append p.graphs ((id, record { nodes = n; edges = [] }) ∷ []));
    each = λ k low. subst (λ (g : ℕ × Digraph). IsTrue (has_number g.1 (k + 1))) (sym (kept_at (slice_index homes k) (a.held k low))) (a.each k low);
  }
