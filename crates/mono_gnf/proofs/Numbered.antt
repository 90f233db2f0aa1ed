-- The edges of a problem, list by list: their numbers rise, and each number is on one edge.
use Rattle.std.proofs.Common.{◌≡◌, ℕ, zero, suc, ◌+◌, ◌<◌, ◌≤◌, ◌==◌, List, [], ◌∷◌, length, get_or, filter, refl, ◌∙◌, arith}
use Rattle.std.specs.Prelude.{All, count_by}
use Rattle.std.proofs.lemmas.List.Elements.{All-head, All-tail}
use Rattle.std.proofs.lemmas.List.Sums.{sum_by-cons, length-filter}
use Rattle.mono_graph.specs.declared.edge.Edge.{Edge}
use Rattle.mono_graph.specs.Digraph.{Digraph, no_edge}
use Rattle.mono_problem.specs.WellFormed.{IsDeclared, count_numbered}
use Rattle.mono_base.specs.declared.limits.TheConstants.{MAX_NODES, MAX_EDGES, MAX_WEIGHT}
use Rattle.mono_gnf.specs.Statements.{MAX_WIDE}

abbrev pub of_number : ℕ → List Edge → List Edge
of_number n es = filter (λ (e : Edge). e.number == n) es

-- no edge of the graphs has the number
abbrev pub IsFree : ℕ → List (ℕ × Digraph) → Type 0
IsFree n [] = Unit {0}
IsFree n (g ∷ gs) = (of_number n g.1.edges ≡ []) × IsFree n gs

-- e, of the graph at the place k, is the one edge with the number
abbrev pub IsOnly : ℕ → Edge → ℕ → List (ℕ × Digraph) → Type 0
IsOnly n e k [] = ⊥
IsOnly n e zero (g ∷ gs) = (of_number n g.1.edges ≡ e ∷ []) × IsFree n gs
IsOnly n e (suc k) (g ∷ gs) = (of_number n g.1.edges ≡ []) × IsOnly n e k gs

-- the edges of a graph: their numbers rise, and their parts are in range
abbrev pub AreEdges : ℕ → ℕ → ℕ → ℕ → List Edge → Type 0
AreEdges vars nodes last low [] = Unit {0}
AreEdges vars nodes last low (e ∷ es) =
    (low < e.number) × (e.number ≤ last) × (e.from < nodes) × (e.to < nodes) × (0 < e.var) × (e.var ≤ vars) × (e.weight ≤ MAX_WEIGHT) × AreEdges vars nodes last e.number es

abbrev pub AreGraphs : ℕ → ℕ → List (ℕ × Digraph) → Type 0
AreGraphs vars last [] = Unit {0}
AreGraphs vars last (g ∷ gs) =
    (g.0 ≤ MAX_WIDE) × (0 < g.1.nodes) × (g.1.nodes ≤ MAX_NODES) × (length g.1.edges ≤ MAX_EDGES) × AreEdges vars g.1.nodes last 0 g.1.edges × AreGraphs vars last gs

-- ---- the graphs of a problem

record IsEdgeIn (vars nodes last : ℕ) (e : Edge) : Type 0 where
  pub number : e.number ≤ last
  pub from : e.from < nodes
  pub to : e.to < nodes
  pub some : 0 < e.var
  pub var : e.var ≤ vars
  pub weight : e.weight ≤ MAX_WEIGHT

abbrev Rising : List Edge → Type 0
Rising es = (i j : ℕ) → i < j → j < length es → (get_or es i no_edge).number < (get_or es j no_edge).number

are_edges : (vars nodes last low : ℕ) (es : List Edge) → ((k : ℕ) → k < length es → IsEdgeIn vars nodes last (get_or es k no_edge)) → Rising es → (0 < length es → low < (get_or es 0 no_edge).number) → AreEdges vars nodes last low es
are_edges vars nodes last low [] each rising above = tt
are_edges vars nodes last low (e ∷ es) each rising above =
    let here = each 0 (omega arith) in
    let others = are_edges vars nodes last e.number es
    (λ k lt. each (suc k) (omega (arith, lt)))
    (λ i j less lt. rising (suc i) (suc j) (omega (arith, less)) (omega (arith, lt)))
    (λ some. rising 0 1 (omega arith) (omega (arith, some))) in
    (above (omega arith), here.number, here.from, here.to, here.some, here.var, here.weight, others)

edges_of_graph : (vars last : ℕ) (g : ℕ × Digraph) → IsDeclared vars last g → AreEdges vars g.1.nodes last 0 g.1.edges
edges_of_graph vars last g h =
    let parts : (k : ℕ) → k < length g.1.edges → IsEdgeIn vars g.1.nodes last (get_or g.1.edges k no_edge) = λ k lt.
    let ends = h.graph.ends k no_edge lt in
    let range = h.within k no_edge lt in
    let light = h.graph.weights k no_edge lt in
    record {
      number = range.1;
      from = ends.0;
      to = ends.1;
      some = omega (arith, (h.graph.vars k no_edge lt).0);
      var = range.0;
      weight = omega (arith, light);
    } in
    are_edges vars g.1.nodes last 0 g.1.edges parts h.graph.rising (λ some. omega (arith, h.graph.numbers 0 no_edge some))

pub are_graphs : (vars last : ℕ) (gs : List (ℕ × Digraph)) → All (IsDeclared vars last) gs → AreGraphs vars last gs
are_graphs vars last [] h = tt
are_graphs vars last (g ∷ gs) h =
    let first = All-head (IsDeclared vars last) g gs h in (
      omega (arith, first.identity),
      omega (arith, first.graph.some_node),
      first.graph.few_nodes,
      first.graph.few_edges,
      edges_of_graph vars last g first,
      are_graphs vars last gs (All-tail (IsDeclared vars last) g gs h),
    )

-- ---- the one edge of a number

abbrev count : ℕ → ℕ × Digraph → ℕ
count n g = count_by (λ (e : Edge). e.number == n) g.1.edges

no_item : (es : List Edge) → length es ≡ 0 → es ≡ []
no_item [] h = refl
no_item (e ∷ es) h = absurd (omega (arith, h))

one_item : (es : List Edge) → length es ≡ 1 → (e : Edge) × (es ≡ e ∷ [])
one_item [] h = absurd (omega (arith, h))
one_item (e ∷ []) h = (e, refl)
one_item (e ∷ f ∷ es) h = absurd (omega (arith, h))

none_of : (n : ℕ) (g : ℕ × Digraph) → count n g ≡ 0 → of_number n g.1.edges ≡ []
none_of n g h = no_item (of_number n g.1.edges) (length-filter (λ (e : Edge). e.number == n) g.1.edges ∙ h)

free : (n : ℕ) (gs : List (ℕ × Digraph)) → count_numbered n gs ≡ 0 → IsFree n gs
free n [] h = tt
free n (g ∷ gs) h =
    let split = sum_by-cons (count n) g gs in
    (none_of n g (omega (arith, h, split)), free n gs (omega (arith, h, split)))

-- in the first graph, or in the others
in_first : (n : ℕ) (g : ℕ × Digraph) (gs : List (ℕ × Digraph)) → (count_numbered n gs ≡ 1 → (k : ℕ) × (e : Edge) × IsOnly n e k gs) → (c : ℕ) → count n g ≡ c → c + count_numbered n gs ≡ 1
    → (k : ℕ) × (e : Edge) × IsOnly n e k (g ∷ gs)
in_first n g gs others zero is h =
    let rest = others (omega (arith, h)) in
    (suc rest.0, rest.1, (none_of n g is, rest.2))
in_first n g gs others (suc c) is h =
    let here = one_item (of_number n g.1.edges) (length-filter (λ (e : Edge). e.number == n) g.1.edges ∙ omega (arith, h, is)) in
    (0, here.0, (here.1, free n gs (omega (arith, h))))

pub only : (n : ℕ) (gs : List (ℕ × Digraph)) → count_numbered n gs ≡ 1 → (k : ℕ) × (e : Edge) × IsOnly n e k gs
only n [] h = absurd (omega (arith, h))
only n (g ∷ gs) h =
    let split = sum_by-cons (count n) g gs in
    in_first n g gs (only n gs) (count n g) refl (omega (arith, h, split))
