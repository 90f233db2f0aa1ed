-- A problem can be made again, part by part, in the order in which it is printed.
use Rattle.std.proofs.Common.{◌≡◌, ℕ, zero, suc, ◌+◌, ◌<◌, ◌≤◌, max, true, false, cond, List, [], ◌∷◌, ◌++◌, length, map, get_or, set, position, Some, refl, sym, ap, subst, ◌∙◌, arith, eqb, sum_by, append-nil, append_assoc, length-append}
use Rattle.std.proofs.lemmas.Bool.Decides.{nat_tests}
use Rattle.std.proofs.lemmas.Bool.{lt-ltb, ne_eqb}
use Rattle.std.proofs.lemmas.List.Sums.{sum_by_push, sum_by-cons}
use Rattle.std.specs.List.{range_with_len}
use Rattle.mono_graph.specs.declared.edge.Edge.{Edge}
use Rattle.mono_graph.specs.Digraph.{Digraph}
use Rattle.mono_problem.specs.declared.atom.Atom.{Atom}
use Rattle.mono_problem.specs.declared.atom.Predicate.{Predicate}
use Rattle.mono_problem.specs.declared.atom.Predicate.TheVariants as kind
use Rattle.mono_problem.specs.Instance.{Instance, no_graph, graph_at, identity_at, place_named, edges_total}
use Rattle.mono_problem.specs.WellFormed.{IsInstance, IsOver, IsAtomAt}
use Rattle.mono_problem.specs.Growth.{graph_with}
use Rattle.mono_problem.specs.Growth.{with_edge, with_atom}
use Rattle.mono_problem.specs.Read.{no_atom}
use Rattle.mono_problem.proofs.Entries.{edges-grown}
use Rattle.mono_gnf.specs.Reading.{has_ends, has_same_ends}
use Rattle.mono_gnf.specs.Printed.{edge_numbered}
use Rattle.mono_gnf.proofs.Numbered.{of_number, IsOnly, AreEdges, AreGraphs, are_graphs, only}
use Rattle.mono_gnf.proofs.Identified.{AreDistinct, are_distinct}
use Rattle.mono_gnf.proofs.EdgesInOrder.{graph_up_to, one_more, up_to_zero, up_to_last}
use Rattle.mono_gnf.proofs.EdgesByNumber.{found_only}
use Rattle.mono_gnf.proofs.PrintedForms.{CanAddEdge, AddsGraphs, AddsEdges, AddsAtoms, IsFitting}
use Rattle.mono_base.specs.declared.limits.TheConstants.{MAX_NODES, MAX_GRAPHS, MAX_ATOMS, MAX_WEIGHT}
use Rattle.mono_gnf.specs.Statements.{MAX_WIDE}

-- ---- what is known of the one edge with a number

record IsEdgeOf (vars n : ℕ) (e : Edge) (nodes : ℕ) : Type 0 where
  pub number : e.number ≡ n
  pub from : e.from < nodes
  pub to : e.to < nodes
  pub some : 0 < e.var
  pub var : e.var ≤ vars
  pub weight : e.weight ≤ MAX_WEIGHT

in_edges : (vars nodes last low n : ℕ) (e : Edge) (es : List Edge) → AreEdges vars nodes last low es → of_number n es ≡ e ∷ [] → IsEdgeOf vars n e nodes
in_edges vars nodes last low n e [] h k = absurd (cc)
in_edges vars nodes last low n e (x ∷ xs) h k =
    (elim (eqb x.number n) as (λ b. eqb x.number n ≡ b → cond b (x ∷ of_number n xs) (of_number n xs) ≡ e ∷ [] → IsEdgeOf vars n e nodes) [
      | true ↦ λ t k.
          let same : x ≡ e = cc in
          let P : Edge → Type 0 = λ e. IsEdgeOf vars n e nodes in
          subst P same (record { number = grind (arith, nat_tests); from = h.2; to = h.3; some = h.4; var = h.5; weight = h.6 })
      | false ↦ λ t k. in_edges vars nodes last x.number n e xs h.7 k
    ]) refl k

record IsEdgeAt (vars n : ℕ) (e : Edge) (k : ℕ) (gs : List (ℕ × Digraph)) : Type 0 where
  pub held : k < length gs
  pub edge : IsEdgeOf vars n e (get_or gs k no_graph).1.nodes
  pub identity : (get_or gs k no_graph).0 ≤ MAX_WIDE
  pub nodes : (get_or gs k no_graph).1.nodes ≤ MAX_NODES

at_place : (vars last n : ℕ) (e : Edge) (k : ℕ) (gs : List (ℕ × Digraph)) → AreGraphs vars last gs → IsOnly n e k gs → IsEdgeAt vars n e k gs
at_place vars last n e k [] h o = absurd o
at_place vars last n e zero (g ∷ gs) h o = record { held = omega arith; edge = in_edges vars g.1.nodes last 0 n e g.1.edges h.4 o.0; identity = h.0; nodes = h.2 }
at_place vars last n e (suc k) (g ∷ gs) h o =
    let rest = at_place vars last n e k gs h.5 o.1 in
    record { held = omega (arith, rest.held); edge = rest.edge; identity = rest.identity; nodes = rest.nodes }

-- ---- graphs up to a number keep their identities and nodes

keys-up_to : (m : ℕ) (gs : List (ℕ × Digraph)) → map (λ (g : ℕ × Digraph). g.0) (map (graph_up_to m) gs) ≡ map (λ (g : ℕ × Digraph). g.0) gs
keys-up_to m [] = refl
keys-up_to m (g ∷ gs) = ap (λ xs. g.0 ∷ xs) (keys-up_to m gs)

nodes-up_to : (m k : ℕ) (gs : List (ℕ × Digraph)) → (get_or (map (graph_up_to m) gs) k no_graph).1.nodes ≡ (get_or gs k no_graph).1.nodes
nodes-up_to m k [] = refl
nodes-up_to m zero (g ∷ gs) = refl
nodes-up_to m (suc k) (g ∷ gs) = nodes-up_to m k gs

length-up_to : (m : ℕ) (gs : List (ℕ × Digraph)) → length (map (graph_up_to m) gs) ≡ length gs
length-up_to m [] = refl
length-up_to m (g ∷ gs) = ap suc (length-up_to m gs)

-- ---- edges

-- graphs alone; those of a problem, with the edges up to a number
abbrev pub bare : ℕ → List (ℕ × Digraph) → Instance
bare vars gs = record { vars = vars; graphs = gs; atoms = []; clauses = [] }

abbrev state_at : Instance → ℕ → Instance
state_at p m = bare p.vars (map (graph_up_to m) p.graphs)

abbrev edges_after : Instance → ℕ → ℕ → List (ℕ × Edge)
edges_after p m d = map (edge_numbered p) (range_with_len (m + 1) d)

module _ (p : Instance) (h : IsInstance p) where
  graphs : AreGraphs p.vars (edges_total p) p.graphs
  graphs = are_graphs p.vars (edges_total p) p.graphs h.graphs

  can_add : (m k : ℕ) (e : Edge) → m < edges_total p → edges_total (state_at p m) ≡ m → IsEdgeAt p.vars (m + 1) e k p.graphs → CanAddEdge (state_at p m) (identity_at p k) k e
  can_add m k e less counted at = record {
    named = sym (ap (position (λ i. eqb (identity_at p k) i)) (keys-up_to m p.graphs) ∙ h.identities k at.held);
    identity = at.identity;
    from = omega (arith, nodes-up_to m k p.graphs, at.edge.from);
    to = omega (arith, nodes-up_to m k p.graphs, at.edge.to);
    nodes = omega (arith, nodes-up_to m k p.graphs, at.nodes);
    some = at.edge.some;
    var = omega (arith, at.edge.var, h.vars);
    weight = at.edge.weight;
    number = omega (arith, at.edge.number, counted);
    room = omega (arith, counted, h.few_edges);
  }

  next_state : (m k : ℕ) (e : Edge) → IsOnly (m + 1) e k p.graphs → e.var ≤ p.vars → with_edge (state_at p m) k e ≡ state_at p (m + 1)
  next_state m k e o small =
      let top : max p.vars e.var ≡ p.vars = omega arith in
      ap (λ v. bare v (set (map (graph_up_to m) p.graphs) k (graph_with (get_or (map (graph_up_to m) p.graphs) k no_graph) e))) top
      ∙ ap (bare p.vars) (sym (one_more p.vars (edges_total p) m e k p.graphs graphs o))

  counted_more : (m k : ℕ) (e : Edge) → IsOnly (m + 1) e k p.graphs → k < length p.graphs → edges_total (state_at p m) ≡ m → edges_total (state_at p (m + 1)) ≡ m + 1
  counted_more m k e o held counted =
      let gs = map (graph_up_to m) p.graphs in
      let inside : k < length gs = omega (arith, held, length-up_to m p.graphs) in
      ap (λ gs. sum_by (λ (g : ℕ × Digraph). length g.1.edges) gs) (one_more p.vars (edges_total p) m e k p.graphs graphs o)
      ∙ (edges-grown gs k inside e ∙ ap (λ n. n + 1) counted)

  adds_edges : (d m : ℕ) → m + d ≡ edges_total p → edges_total (state_at p m) ≡ m → AddsEdges (state_at p m) (edges_after p m d) (state_at p (edges_total p))
  adds_edges zero m e counted = ap (state_at p) (omega (arith, e))
  adds_edges (suc d) m e counted =
      let less : m < edges_total p = omega (arith, e) in
      let (k, x, o) = only (m + 1) p.graphs (h.numbers (m + 1) (omega arith) (omega arith)) in
      let at = at_place p.vars (edges_total p) (m + 1) x k p.graphs graphs o in
      let rest = adds_edges d (m + 1) (omega (arith, e)) (counted_more m k x o at.held counted) in
      let P : Instance → Type 0 = λ q. AddsEdges q (edges_after p (m + 1) d) (state_at p (edges_total p)) in
      let chain : AddsEdges (state_at p m) ((identity_at p k, x) ∷ edges_after p (m + 1) d) (state_at p (edges_total p)) =
      (k, can_add m k x less counted at, subst P (sym (next_state m k x o at.edge.var)) rest) in
      let Q : ℕ × Edge → Type 0 = λ y. AddsEdges (state_at p m) (y ∷ edges_after p (m + 1) d) (state_at p (edges_total p)) in
      subst Q (sym (found_only p h k (m + 1) at.held (omega arith) (omega arith) x o)) chain

-- ---- graphs

abbrev pub bared : ℕ × Digraph → ℕ × Digraph
bared g = (g.0, record { nodes = g.1.nodes; edges = [] })

ids-bared : (gs : List (ℕ × Digraph)) (g : ℕ × Digraph) → map (λ (x : ℕ × Digraph). x.0) (gs ++ bared g ∷ []) ≡ map (λ (x : ℕ × Digraph). x.0) gs ++ g.0 ∷ []
ids-bared [] g = refl
ids-bared (x ∷ xs) g = ap (λ is. x.0 ∷ is) (ids-bared xs g)

adds_graphs : (vars last : ℕ) (done gs : List (ℕ × Digraph)) → AreGraphs vars last gs → AreDistinct (map (λ (g : ℕ × Digraph). g.0) done) gs → length done + length gs ≤ MAX_GRAPHS
    → sum_by (λ (g : ℕ × Digraph). g.1.nodes) done + sum_by (λ (g : ℕ × Digraph). g.1.nodes) gs ≤ MAX_NODES → AddsGraphs (bare vars done) gs (bare vars (done ++ map bared gs))
adds_graphs vars last done [] h new few room = ap (bare vars) (sym (append-nil done))
adds_graphs vars last done (g ∷ gs) h new few room =
    let split = sum_by-cons (λ (g : ℕ × Digraph). g.1.nodes) g gs in
    let pushed = sum_by_push (λ (g : ℕ × Digraph). g.1.nodes) done (bared g) in
    let ids : AreDistinct (map (λ (x : ℕ × Digraph). x.0) (done ++ bared g ∷ [])) gs = (let P : List ℕ → Type 0 = λ is. AreDistinct is gs in subst P (sym (ids-bared done g)) new.1) in
    let rest = adds_graphs vars last (done ++ bared g ∷ []) gs h.5 ids (simp length-append (omega arith)) (omega (arith, pushed, split)) in
    let P : List (ℕ × Digraph) → Type 0 = λ all. AddsGraphs (bare vars (done ++ bared g ∷ [])) gs (bare vars all) in (
      record { new = new.0; identity = h.0; nodes = h.1; few = omega arith; room = omega (arith, split); edges = omega (arith, h.3) },
      subst P (append_assoc done (bared g ∷ []) (map bared gs)) rest,
    )

-- ---- atoms

ends_of : (g : Digraph) (q : Predicate) → IsOver g q → has_ends g.nodes q ≡ true
ends_of g (kind.Reach u v) o = rw (lt-ltb u g.nodes o.0, lt-ltb v g.nodes o.1) refl
ends_of g (kind.Steps u v most) o = rw (lt-ltb u g.nodes o.0, lt-ltb v g.nodes o.1) refl
ends_of g (kind.Distance u v most) o = rw (lt-ltb u g.nodes o.0, lt-ltb v g.nodes o.1) refl
ends_of g (kind.Flow s t least) o = rw (lt-ltb s g.nodes o.0, lt-ltb t g.nodes o.1) refl
ends_of g (kind.Tree most) o = refl
ends_of g kind.Acyclic o = refl

apart_of : (g : Digraph) (q : Predicate) → IsOver g q → has_same_ends q ≡ false
apart_of g (kind.Reach u v) o = refl
apart_of g (kind.Steps u v most) o = refl
apart_of g (kind.Distance u v most) o = refl
apart_of g (kind.Flow s t least) o = ne_eqb s t o.2
apart_of g (kind.Tree most) o = refl
apart_of g kind.Acyclic o = refl

fitting : (g : Digraph) (q : Predicate) → g.nodes ≤ MAX_NODES → IsOver g q → IsFitting q
fitting g (kind.Reach u v) few o = (omega (arith, o.0), omega (arith, o.1))
fitting g (kind.Steps u v most) few o = (omega (arith, o.0), omega (arith, o.1), o.2)
fitting g (kind.Distance u v most) few o = (omega (arith, o.0), omega (arith, o.1), o.2)
fitting g (kind.Flow s t least) few o = (omega (arith, o.0), omega (arith, o.1), o.3)
fitting g (kind.Tree most) few o = o
fitting g kind.Acyclic few o = tt

-- the atoms of a problem from a place on
abbrev AreAtoms : Instance → ℕ → List Atom → Type 0
AreAtoms p n [] = Unit {0}
AreAtoms p n (x ∷ xs) = IsAtomAt p n x × AreAtoms p (n + 1) xs

are_atoms : (p : Instance) (n : ℕ) (xs : List Atom) → ((k : ℕ) → k < length xs → IsAtomAt p (n + k) (get_or xs k no_atom)) → AreAtoms p n xs
are_atoms p n [] each = tt
are_atoms p n (x ∷ xs) each =
    let here : n + 0 ≡ n = omega arith in
    let P : ℕ → Type 0 = λ n. IsAtomAt p n x in (
      subst P here (each 0 (omega arith)),
      are_atoms p (n + 1) xs (λ k lt.
          let next : n + suc k ≡ n + 1 + k = omega arith in
          let Q : ℕ → Type 0 = λ n. IsAtomAt p n (get_or xs k no_atom) in
          subst Q next (each (suc k) (omega (arith, lt)))),
    )

abbrev pub with_done : Instance → List Atom → Instance
with_done p done = record { vars = p.vars; graphs = p.graphs; atoms = done; clauses = [] }

-- a problem whose parts can be added in the order in which they are printed
pub record IsMade (p : Instance) : Type 0 where
  pub graphs : AddsGraphs (bare p.vars []) p.graphs (bare p.vars (map bared p.graphs))
  pub edges : AddsEdges (bare p.vars (map bared p.graphs)) (map (edge_numbered p) (range_with_len 1 (edges_total p))) (with_done p [])
  pub atoms : AddsAtoms p (with_done p []) p.atoms (with_done p p.atoms)

module _ (p : Instance) (h : IsInstance p) where
  adds_atoms : (done xs : List Atom) → AreAtoms p (length done) xs → length done + length xs ≤ MAX_ATOMS → AddsAtoms p (with_done p done) xs (with_done p (done ++ xs))
  adds_atoms done [] are few = ap (with_done p) (sym (append-nil done))
  adds_atoms done (x ∷ xs) are few =
      let at = are.0 in
      let graph = h.graphs x.graph no_graph at.graph in
      let top : max p.vars x.var ≡ p.vars = omega (arith, at.high) in
      let next : with_atom (with_done p done) x ≡ with_done p (done ++ x ∷ []) = ap (λ v. record { vars = v; graphs = p.graphs; atoms = done ++ x ∷ []; clauses = [] }) top in
      let counted : length done + 1 ≡ length (done ++ x ∷ []) = simp length-append in
      let rest = adds_atoms (done ++ x ∷ []) xs (let C : ℕ → Type 0 = λ n. AreAtoms p n xs in subst C counted are.1) (simp length-append (omega arith)) in
      let R : List Atom → Type 0 = λ all. AddsAtoms p (with_done p (done ++ x ∷ [])) xs (with_done p all) in
      let P : Instance → Type 0 = λ q. AddsAtoms p q xs (with_done p (done ++ x ∷ xs)) in (
        record {
          named = sym (h.identities x.graph at.graph);
          identity = omega (arith, graph.identity);
          ends = ends_of (graph_at p x.graph) x.predicate at.over;
          apart = apart_of (graph_at p x.graph) x.predicate at.over;
          bounded = fitting (graph_at p x.graph) x.predicate graph.graph.few_nodes at.over;
          some = at.low;
          var = omega (arith, at.high, h.vars);
          number = at.number;
          room = omega arith;
        },
        subst P (sym next) (subst R (append_assoc done (x ∷ []) xs) rest),
      )

  edges-none : (gs : List (ℕ × Digraph)) → sum_by (λ (g : ℕ × Digraph). length g.1.edges) (map bared gs) ≡ 0
  edges-none [] = refl
  edges-none (g ∷ gs) = let split = sum_by-cons (λ (g : ℕ × Digraph). length g.1.edges) (bared g) (map bared gs) in let rest = edges-none gs in omega (arith, split, rest)

  pub made : IsMade p
  made =
      let are = graphs p h in
      let none : bare p.vars (map bared p.graphs) ≡ state_at p 0 = ap (bare p.vars) (sym (up_to_zero p.vars (edges_total p) p.graphs are)) in
      let counted : edges_total (state_at p 0) ≡ 0 = ap edges_total (sym none) ∙ edges-none p.graphs in
      let all : state_at p (edges_total p) ≡ with_done p [] = ap (bare p.vars) (up_to_last p.vars (edges_total p) p.graphs are) in
      let from_none : (k : ℕ) → k ≡ 0 + k = λ k. omega arith in
      let named : (k : ℕ) → k < length p.graphs → place_named p.graphs (identity_at p k) ≡ Some (0 + k) = λ k lt. h.identities k lt ∙ ap (λ (k : ℕ). Some k) (from_none k) in
      let atoms : (k : ℕ) → k < length p.atoms → IsAtomAt p (0 + k) (get_or p.atoms k no_atom) = λ k lt.
      let A : ℕ → Type 0 = λ n. IsAtomAt p n (get_or p.atoms k no_atom) in subst A (from_none k) (h.atoms k no_atom lt) in
      let es = edges_after p 0 (edges_total p) in
      let P : Instance → Type 0 = λ q. AddsEdges q es (state_at p (edges_total p)) in
      let Q : Instance → Type 0 = λ q. AddsEdges (bare p.vars (map bared p.graphs)) es q in
      record {
        graphs = adds_graphs p.vars (edges_total p) [] p.graphs are (are_distinct [] p.graphs named) (omega (arith, h.few_graphs)) (omega (arith, h.few_nodes));
        edges = subst Q all (subst P (sym none) (adds_edges p h (edges_total p) 0 (omega arith) counted));
        atoms = adds_atoms [] p.atoms (are_atoms p 0 p.atoms atoms) (omega (arith, h.few_atoms));
      }
