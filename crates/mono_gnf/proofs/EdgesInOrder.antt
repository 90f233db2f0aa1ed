-- Edges put back in the order of their numbers.
use Rattle.std.proofs.Common.{◌≡◌, ℕ, zero, suc, ◌+◌, ◌≤◌, true, false, List, [], ◌∷◌, ◌++◌, map, filter, get_or, set, refl, ap, ◌∙◌, arith, eqb, leb, append-nil, inl, inr}
use Rattle.std.proofs.lemmas.Bool.{cases_lt}
use Rattle.std.proofs.lemmas.Bool.Decides.{nat_tests}
use Rattle.mono_graph.specs.declared.edge.Edge.{Edge}
use Rattle.mono_graph.specs.Digraph.{Digraph}
use Rattle.mono_problem.specs.Instance.{no_graph}
use Rattle.mono_problem.specs.Growth.{graph_with}
use Rattle.mono_gnf.proofs.Numbered.{of_number, IsFree, IsOnly, AreEdges, AreGraphs}

-- the edges with numbers up to m
abbrev pub up_to : ℕ → List Edge → List Edge
up_to m es = filter (λ e. leb e.number m) es

abbrev pub graph_up_to : ℕ → ℕ × Digraph → ℕ × Digraph
graph_up_to m g = (g.0, record { nodes = g.1.nodes; edges = up_to m g.1.edges })

-- a rising list up to m + 1 is the list up to m and what has the number m + 1
above_none : (vars nodes last low m : ℕ) (es : List Edge) → AreEdges vars nodes last low es → m ≤ low → up_to m es ≡ []
above_none vars nodes last low m [] h k = refl
above_none vars nodes last low m (e ∷ es) h k =
    let test : leb e.number m ≡ false = grind (arith, nat_tests, h.0) in
    rw test (above_none vars nodes last e.number m es h.7 (omega (arith, h.0)))

up_to_more : (vars nodes last low m : ℕ) (es : List Edge) → AreEdges vars nodes last low es → up_to (m + 1) es ≡ up_to m es ++ of_number (m + 1) es
up_to_more vars nodes last low m [] h = refl
up_to_more vars nodes last low m (e ∷ es) h =
    let rest = up_to_more vars nodes last e.number m es h.7 in
    elim (cases_lt m e.number) [
      | inr within ↦
          let a : leb e.number m ≡ true = grind (arith, nat_tests) in
          let b : leb e.number (m + 1) ≡ true = grind (arith, nat_tests) in
          let c : eqb e.number (m + 1) ≡ false = grind (arith, nat_tests) in
          rw (a, b, c) (ap (λ xs. e ∷ xs) rest)
      | inl above ↦
          let a : leb e.number m ≡ false = grind (arith, nat_tests) in
          let none : up_to m es ≡ [] = above_none vars nodes last e.number m es h.7 (omega arith) in
          elim (cases_lt (m + 1) e.number) [
            | inl far ↦
                let b : leb e.number (m + 1) ≡ false = grind (arith, nat_tests) in
                let c : eqb e.number (m + 1) ≡ false = grind (arith, nat_tests) in
                rw (a, b, c) rest
            | inr here ↦
                let b : leb e.number (m + 1) ≡ true = grind (arith, nat_tests) in
                let c : eqb e.number (m + 1) ≡ true = grind (arith, nat_tests) in
                let tail : up_to (m + 1) es ≡ of_number (m + 1) es = rest ∙ ap (λ xs. xs ++ of_number (m + 1) es) none in
                rw (a, b, c, none) (ap (λ xs. e ∷ xs) tail)
          ]
    ]

-- the graphs up to m + 1: the graph at k has one edge more
free_same : (vars last m : ℕ) (gs : List (ℕ × Digraph)) → AreGraphs vars last gs → IsFree (m + 1) gs → map (graph_up_to (m + 1)) gs ≡ map (graph_up_to m) gs
free_same vars last m [] h k = refl
free_same vars last m (g ∷ gs) h k =
    let same : up_to (m + 1) g.1.edges ≡ up_to m g.1.edges = up_to_more vars g.1.nodes last 0 m g.1.edges h.4 ∙ (ap (λ xs. up_to m g.1.edges ++ xs) k.0 ∙ append-nil (up_to m g.1.edges)) in
    ap (λ es. (g.0, record { nodes = g.1.nodes; edges = es }) ∷ map (graph_up_to (m + 1)) gs) same ∙ ap (λ xs. graph_up_to m g ∷ xs) (free_same vars last m gs h.5 k.1)

pub one_more : (vars last m : ℕ) (e : Edge) (k : ℕ) (gs : List (ℕ × Digraph)) → AreGraphs vars last gs → IsOnly (m + 1) e k gs → map (graph_up_to (m + 1)) gs ≡ set (map (graph_up_to m) gs) k (graph_with (get_or (map (graph_up_to m) gs) k no_graph) e)
one_more vars last m e k [] h o = absurd o
one_more vars last m e zero (g ∷ gs) h o =
    let more : up_to (m + 1) g.1.edges ≡ up_to m g.1.edges ++ e ∷ [] = up_to_more vars g.1.nodes last 0 m g.1.edges h.4 ∙ ap (λ xs. up_to m g.1.edges ++ xs) o.0 in
    ap (λ es. (g.0, record { nodes = g.1.nodes; edges = es }) ∷ map (graph_up_to (m + 1)) gs) more ∙ ap (λ xs. graph_with (graph_up_to m g) e ∷ xs) (free_same vars last m gs h.5 o.1)
one_more vars last m e (suc k) (g ∷ gs) h o =
    let same : up_to (m + 1) g.1.edges ≡ up_to m g.1.edges = up_to_more vars g.1.nodes last 0 m g.1.edges h.4 ∙ (ap (λ xs. up_to m g.1.edges ++ xs) o.0 ∙ append-nil (up_to m g.1.edges)) in
    ap (λ es. (g.0, record { nodes = g.1.nodes; edges = es }) ∷ map (graph_up_to (m + 1)) gs) same ∙ ap (λ xs. graph_up_to m g ∷ xs) (one_more vars last m e k gs h.5 o.1)

-- up to 0 there are none, and up to the last there are all
pub up_to_zero : (vars last : ℕ) (gs : List (ℕ × Digraph)) → AreGraphs vars last gs → map (graph_up_to 0) gs ≡ map (λ g. (g.0, record { nodes = g.1.nodes; edges = [] })) gs
up_to_zero vars last [] h = refl
up_to_zero vars last (g ∷ gs) h =
    ap (λ es. (g.0, record { nodes = g.1.nodes; edges = es }) ∷ map (graph_up_to 0) gs) (above_none vars g.1.nodes last 0 0 g.1.edges h.4 (omega arith))
    ∙ ap (λ xs. (g.0, record { nodes = g.1.nodes; edges = [] }) ∷ xs) (up_to_zero vars last gs h.5)

all_within : (vars nodes last low : ℕ) (es : List Edge) → AreEdges vars nodes last low es → up_to last es ≡ es
all_within vars nodes last low [] h = refl
all_within vars nodes last low (e ∷ es) h =
    let test : leb e.number last ≡ true = grind (arith, nat_tests, h.1) in
    rw test (ap (λ xs. e ∷ xs) (all_within vars nodes last e.number es h.7))

pub up_to_last : (vars last : ℕ) (gs : List (ℕ × Digraph)) → AreGraphs vars last gs → map (graph_up_to last) gs ≡ gs
up_to_last vars last [] h = refl
up_to_last vars last (g ∷ gs) h =
    ap (λ es. (g.0, record { nodes = g.1.nodes; edges = es }) ∷ map (graph_up_to last) gs) (all_within vars g.1.nodes last 0 g.1.edges h.4)
    ∙ ap (λ xs. g ∷ xs) (up_to_last vars last gs h.5)
