-- A problem with one more edge, numbered behind the others, is a problem still.
use Rattle.std.proofs.Common.{◌≡◌, ◌≢◌, ℕ, ◌+◌, ◌<◌, ◌≤◌, ◌==◌, true, false, List, [], ◌∷◌, ◌++◌, length, get_or, set, All, arith, refl, subst, sym, ap, ◌∙◌, length-append, inl, inr, Some, position, map, cond, max, IsTrue, length-set}
use Rattle.std.specs.Prelude.{count_by, slice_index, slice_index_or}
use Rattle.std.specs.List.{list_any}
use Rattle.std.proofs.Math.ListN.{get_or-append}
use Rattle.std.proofs.Math.Seq.{map-set_same}
use Rattle.std.proofs.lemmas.List.{get_or_push, get_or-set_same, get_or-set_other}
use Rattle.std.proofs.lemmas.List.Sums.{sum_by_push, sum_by-set, sum_by-cons, get_or-le-sum_by}
use Rattle.std.proofs.lemmas.List.Folds.{list_any-append}
use Rattle.std.proofs.lemmas.List.Elements.{All-weaker, All-push, All-set, All-get_or, All-head, All-tail}
use Rattle.std.proofs.lemmas.Bool.{cases_lt, cases_eq, eq-eqb, ne_eqb, or_left, or_right}
use Rattle.mono_base.specs.declared.limits.TheConstants.{MAX_EDGES, MAX_VARS, MAX_WEIGHT}
use Rattle.mono_graph.specs.Digraph.{Digraph, IsGraph}
use Rattle.mono_graph.specs.declared.edge.Edge.{Edge}
use Rattle.mono_problem.specs.declared.atom.Atom.{Atom}
use Rattle.mono_problem.specs.declared.atom.Predicate.{Predicate}
use Rattle.mono_problem.specs.declared.atom.Predicate.TheVariants as kind
use Rattle.mono_problem.specs.Instance.{Instance, no_graph, graph_at, identity_at, place_named, edges_total, has_number}
use Rattle.mono_base.specs.Literal.{IsLitWithin}
use Rattle.mono_problem.specs.WellFormed.{IsInstance, IsDeclared, IsAtomAt, IsOver, count_numbered}
use Rattle.mono_problem.specs.Growth.{graph_with, with_edge}
use Rattle.mono_problem.specs.Kept.{AreHomes}
use Rattle.mono_problem.proofs.Wider.{IsDeclared-wider, AreWithin-wider}
use Rattle.mono_graph.proofs.GraphGrown.{IsGraph-with_edge}
use Rattle.mono_problem.proofs.Entries.{nodes-grown, edges-grown}

-- ---- how often a number stands

count_push : (n : ℕ) (es : List Edge) (e : Edge) → count_by (λ (e : Edge). e.number == n) (es ++ e ∷ []) ≡ count_by (λ (e : Edge). e.number == n) es + cond (e.number == n) 1 0
count_push n es e = sum_by_push (λ (e : Edge). cond (e.number == n) 1 0) es e

count-beyond : (n m : ℕ) (es : List Edge) → m < n → All (λ (e : Edge). e.number ≤ m) es → count_by (λ (e : Edge). e.number == n) es ≡ 0
count-beyond n m [] beyond h = refl
count-beyond n m (e ∷ es) beyond h =
    let head : e.number ≤ m = All-head (λ (e : Edge). e.number ≤ m) e es h in
    let other : (e.number == n) ≡ false = ne_eqb e.number n (λ same. absurd (omega arith)) in
    rw other (count-beyond n m es beyond (All-tail (λ (e : Edge). e.number ≤ m) e es h))

-- the numbers of a problem end where they are all on edges
numbered-beyond : (v m n : ℕ) (gs : List (ℕ × Digraph)) → m < n → All (IsDeclared v m) gs → count_numbered n gs ≡ 0
numbered-beyond v m n [] beyond h = refl
numbered-beyond v m n (g ∷ gs) beyond h =
    let head = All-head (IsDeclared v m) g gs h in
    let here = count-beyond n m g.1.edges beyond (All-weaker (λ (e : Edge). (e.var ≤ v) × (e.number ≤ m)) (λ (e : Edge). e.number ≤ m) (λ e k. k.1) g.1.edges head.within) in
    let later = numbered-beyond v m n gs beyond (All-tail (IsDeclared v m) g gs h) in
    omega (arith, here, later, sum_by-cons (λ (g : ℕ × Digraph). count_by (λ (e : Edge). e.number == n) g.1.edges) g gs)

numbered-grown : (n : ℕ) (gs : List (ℕ × Digraph)) (k : ℕ) (e : Edge) → k < length gs → count_numbered n (set gs k (graph_with (get_or gs k no_graph) e)) ≡ count_numbered n gs + cond (e.number == n) 1 0
numbered-grown n gs k e low =
    let more = count_push n (get_or gs k no_graph).1.edges e in
    omega (arith, more, sum_by-set (λ (g : ℕ × Digraph). count_by (λ (e : Edge). e.number == n) g.1.edges) gs k (graph_with (get_or gs k no_graph) e) no_graph low)

IsOver-nodes : (g h : Digraph) → h.nodes ≡ g.nodes → (q : Predicate) → IsOver g q → IsOver h q
IsOver-nodes g h same (kind.Reach u v) o = (omega (arith, o.0), omega (arith, o.1))
IsOver-nodes g h same (kind.Steps u v most) o = (omega (arith, o.0), omega (arith, o.1), o.2)
IsOver-nodes g h same (kind.Distance u v most) o = (omega (arith, o.0), omega (arith, o.1), o.2)
IsOver-nodes g h same (kind.Flow s t least) o = (omega (arith, o.0), omega (arith, o.1), o.2, o.3)
IsOver-nodes g h same (kind.Tree most) o = o
IsOver-nodes g h same kind.Acyclic o = o

-- ---- one more edge

pub record IsNext (p : Instance) (k : ℕ) (e : Edge) : Type 0 where
  pub graph : k < length p.graphs
  pub from : e.from < (graph_at p k).nodes
  pub to : e.to < (graph_at p k).nodes
  pub low : 0 < e.var
  pub high : e.var ≤ MAX_VARS
  pub weight : e.weight ≤ MAX_WEIGHT
  pub number : e.number ≡ edges_total p + 1
  pub room : edges_total p < MAX_EDGES

module _ (p : Instance) (k : ℕ) (e : Edge) (h : IsInstance p) (next : IsNext p k e) where
  -- the graph at another place is as it was, and the one at the place has the edge
  other_at : (j : ℕ) → j ≢ k → slice_index_or (with_edge p k e).graphs j no_graph ≡ slice_index_or p.graphs j no_graph
  other_at j apart = get_or-set_other p.graphs k j (graph_with (get_or p.graphs k no_graph) e) no_graph apart

  same_at : slice_index_or (with_edge p k e).graphs k no_graph ≡ graph_with (slice_index_or p.graphs k no_graph) e
  same_at = get_or-set_same p.graphs k (graph_with (get_or p.graphs k no_graph) e) no_graph next.graph

  nodes_at : (j : ℕ) → (graph_at (with_edge p k e) j).nodes ≡ (graph_at p j).nodes
  nodes_at j = elim (cases_eq j k) [
    | inl at ↦ subst (λ (i : ℕ). (graph_at (with_edge p k e) i).nodes ≡ (graph_at p i).nodes) (sym at) (ap (λ (g : ℕ × Digraph). g.1.nodes) same_at)
    | inr apart ↦ ap (λ (g : ℕ × Digraph). g.1.nodes) (other_at j apart)
  ]

  identity_of : (j : ℕ) → identity_at (with_edge p k e) j ≡ identity_at p j
  identity_of j = elim (cases_eq j k) [
    | inl at ↦ subst (λ (i : ℕ). identity_at (with_edge p k e) i ≡ identity_at p i) (sym at) (ap (λ (g : ℕ × Digraph). g.0) same_at)
    | inr apart ↦ ap (λ (g : ℕ × Digraph). g.0) (other_at j apart)
  ]

  same_names : map (λ (g : ℕ × Digraph). g.0) (with_edge p k e).graphs ≡ map (λ (g : ℕ × Digraph). g.0) p.graphs
  same_names = map-set_same (λ (g : ℕ × Digraph). g.0) p.graphs k (graph_with (get_or p.graphs k no_graph) e) no_graph refl

  identities : (j : ℕ) → j < length (with_edge p k e).graphs → place_named (with_edge p k e).graphs (identity_at (with_edge p k e) j) ≡ Some j
  identities j low =
      let held : j < length p.graphs = omega (arith, length-set p.graphs k (graph_with (get_or p.graphs k no_graph) e)) in
      let base = h.identities j held in
      let names : position (λ (i : ℕ). identity_at p j == i) (map (λ (g : ℕ × Digraph). g.0) (with_edge p k e).graphs) ≡ Some j = subst (λ (ns : List ℕ). position (λ (i : ℕ). identity_at p j == i) ns ≡ Some j) (sym same_names) base in
      subst (λ (id : ℕ). position (λ (i : ℕ). id == i) (map (λ (g : ℕ × Digraph). g.0) (with_edge p k e).graphs) ≡ Some j) (sym (identity_of j)) names

  total : edges_total (with_edge p k e) ≡ edges_total p + 1
  total = edges-grown p.graphs k next.graph e

  declared_at : IsDeclared p.vars (edges_total p) (slice_index_or p.graphs k no_graph)
  declared_at = All-get_or (IsDeclared p.vars (edges_total p)) p.graphs k no_graph next.graph h.graphs

  few_at : length (slice_index_or p.graphs k no_graph).1.edges ≤ edges_total p
  few_at = get_or-le-sum_by (λ (g : ℕ × Digraph). length g.1.edges) p.graphs k no_graph next.graph

  grown_graph : IsGraph (graph_with (slice_index_or p.graphs k no_graph) e).1
  grown_graph = IsGraph-with_edge (slice_index_or p.graphs k no_graph).1 e declared_at.graph (record {
    from = next.from;
    to = next.to;
    room = omega (arith, few_at, next.room);
    rising = All-weaker (λ (f : Edge). (f.var ≤ p.vars) × (f.number ≤ edges_total p)) (λ (f : Edge). f.number < e.number) (λ f q. omega (arith, q.1, next.number)) (slice_index_or p.graphs k no_graph).1.edges declared_at.within;
    number = omega (arith, next.number);
    var = (omega (arith, next.low), omega (arith, next.high));
    weight = omega (arith, next.weight);
  })

  declared : All (IsDeclared (max p.vars e.var) (edges_total (with_edge p k e))) (with_edge p k e).graphs
  declared =
      All-set (IsDeclared (max p.vars e.var) (edges_total (with_edge p k e))) p.graphs k (graph_with (get_or p.graphs k no_graph) e)
      (record {
        identity = declared_at.identity;
        graph = grown_graph;
        within = All-push (λ (f : Edge). (f.var ≤ max p.vars e.var) × (f.number ≤ edges_total (with_edge p k e))) (get_or p.graphs k no_graph).1.edges e
            (All-weaker (λ (f : Edge). (f.var ≤ p.vars) × (f.number ≤ edges_total p)) (λ (f : Edge). (f.var ≤ max p.vars e.var) × (f.number ≤ edges_total (with_edge p k e))) (λ f q. (omega (arith, q.0), omega (arith, q.1, total))) (get_or p.graphs k no_graph).1.edges declared_at.within)
            (omega arith, omega (arith, next.number, total));
      })
      (All-weaker (IsDeclared p.vars (edges_total p)) (IsDeclared (max p.vars e.var) (edges_total (with_edge p k e))) (IsDeclared-wider p.vars (max p.vars e.var) _ _ (omega arith) (omega (arith, total))) p.graphs h.graphs)

  numbers : (n : ℕ) → 0 < n → n ≤ edges_total (with_edge p k e) → count_numbered n (with_edge p k e).graphs ≡ 1
  numbers n low high =
      let grown = numbered-grown n p.graphs k e next.graph in
      elim (cases_eq e.number n) [
        | inl here ↦
            let none = numbered-beyond p.vars (edges_total p) n p.graphs (omega (arith, next.number, here)) h.graphs in
            let yes : (e.number == n) ≡ true = eq-eqb e.number n here in
            let one : ◌≡◌ {A = ℕ} (cond (e.number == n) 1 0) 1 = rw yes refl in
            omega (arith, grown, none, one)
        | inr other ↦
            let before = h.numbers n low (omega (arith, total, next.number, high)) in
            let no : (e.number == n) ≡ false = ne_eqb e.number n other in
            let none_here : ◌≡◌ {A = ℕ} (cond (e.number == n) 1 0) 0 = rw no refl in
            omega (arith, grown, before, none_here)
      ]

  atoms : (j : ℕ) (d : Atom) → j < length p.atoms → IsAtomAt (with_edge p k e) j (slice_index_or p.atoms j d)
  atoms j d low =
      let x = h.atoms j d low in
      record {
        number = x.number;
        graph = omega (arith, x.graph, length-set p.graphs k (graph_with (get_or p.graphs k no_graph) e));
        over = IsOver-nodes (graph_at p (slice_index_or p.atoms j d).graph) (graph_at (with_edge p k e) (slice_index_or p.atoms j d).graph) (nodes_at (slice_index_or p.atoms j d).graph) (slice_index_or p.atoms j d).predicate x.over;
        low = x.low;
        high = omega (arith, x.high);
      }

  pub IsInstance-edge : IsInstance (with_edge p k e)
  IsInstance-edge = record {
    vars = omega (arith, h.vars, next.high);
    few_graphs = omega (arith, h.few_graphs, length-set p.graphs k (graph_with (get_or p.graphs k no_graph) e));
    few_nodes = omega (arith, h.few_nodes, nodes-grown p.graphs k next.graph e);
    few_edges = omega (arith, total, next.room);
    few_atoms = h.few_atoms;
    few_clauses = h.few_clauses;
    few_literals = h.few_literals;
    identities = identities;
    graphs = declared;
    numbers = numbers;
    atoms = atoms;
    clauses = All-weaker (All (IsLitWithin p.vars)) (All (IsLitWithin (max p.vars e.var))) (AreWithin-wider p.vars (max p.vars e.var) (omega arith)) p.clauses h.clauses;
  }

  has_kept : (j n : ℕ) → IsTrue (has_number (graph_at p j) n) → IsTrue (has_number (graph_at (with_edge p k e) j) n)
  has_kept j n has = elim (cases_eq j k) [
    | inl at ↦
        let here : IsTrue (has_number (graph_at p k) n) = subst (λ (i : ℕ). IsTrue (has_number (graph_at p i) n)) at has in
        let more : IsTrue (list_any (λ (f : Edge). f.number == n) ((graph_at p k).edges ++ e ∷ [])) =
        list_any-append (λ (f : Edge). f.number == n) (graph_at p k).edges (e ∷ []) ∙ or_left (list_any (λ (f : Edge). f.number == n) (graph_at p k).edges) (list_any (λ (f : Edge). f.number == n) (e ∷ [])) here in
        subst (λ (i : ℕ). IsTrue (has_number (graph_at (with_edge p k e) i) n)) (sym at) (subst (λ (g : ℕ × Digraph). IsTrue (has_number g.1 n)) (sym same_at) more)
    | inr apart ↦ subst (λ (g : ℕ × Digraph). IsTrue (has_number g.1 n)) (sym (other_at j apart)) has
  ]

  has_new : IsTrue (has_number (graph_at (with_edge p k e) k) (edges_total p + 1))
  has_new =
      let here : IsTrue (list_any (λ (f : Edge). f.number == edges_total p + 1) (e ∷ [])) = or_left (e.number == edges_total p + 1) false (eq-eqb e.number (edges_total p + 1) next.number) in
      let more : IsTrue (list_any (λ (f : Edge). f.number == edges_total p + 1) ((graph_at p k).edges ++ e ∷ [])) =
      list_any-append (λ (f : Edge). f.number == edges_total p + 1) (graph_at p k).edges (e ∷ []) ∙ or_right (list_any (λ (f : Edge). f.number == edges_total p + 1) (graph_at p k).edges) (list_any (λ (f : Edge). f.number == edges_total p + 1) (e ∷ [])) here in
      subst (λ (g : ℕ × Digraph). IsTrue (has_number g.1 (edges_total p + 1))) (sym same_at) more

  pub AreHomes-edge : (homes : List ℕ) → AreHomes p homes → AreHomes (with_edge p k e) (homes ++ k ∷ [])
  AreHomes-edge homes a = record {
    len = length-append homes (k ∷ []) ∙ omega (arith, a.len, total);
    held = λ j low. elim (cases_lt j (length homes)) [
      | inl before ↦ subst (λ (i : ℕ). i < length (with_edge p k e).graphs) (sym (get_or-append homes (k ∷ []) 0 j before)) (omega (arith, a.held j before, length-set p.graphs k (graph_with (get_or p.graphs k no_graph) e)))
      | inr after ↦
          let at : length homes ≡ j = omega (arith, length-append homes (k ∷ [])) in
          subst (λ (i : ℕ). i < length (with_edge p k e).graphs) (sym (get_or_push homes k 0 j at)) (omega (arith, next.graph, length-set p.graphs k (graph_with (get_or p.graphs k no_graph) e)))
    ];
    each = λ j low. elim (cases_lt j (length homes)) [
      | inl before ↦ subst (λ (i : ℕ). IsTrue (has_number (graph_at (with_edge p k e) i) (j + 1))) (sym (get_or-append homes (k ∷ []) 0 j before)) (has_kept (slice_index homes j) (j + 1) (a.each j before))
      | inr after ↦
          let at : length homes ≡ j = omega (arith, length-append homes (k ∷ [])) in
          let number : edges_total p + 1 ≡ j + 1 = omega (arith, a.len, at) in
          subst (λ (i : ℕ). IsTrue (has_number (graph_at (with_edge p k e) i) (j + 1))) (sym (get_or_push homes k 0 j at)) (subst (λ (n : ℕ). IsTrue (has_number (graph_at (with_edge p k e) k) n)) number has_new)
    ];
  }
