-- Printed graphs, edges and atoms say what they were.
use Rattle.std.proofs.Common.{◌≡◌, ℕ, ◌+◌, ◌-◌, ◌<◌, ◌≤◌, Bool, true, false, cond, List, [], ◌∷◌, length, map, Ok, Some, IsNone, refl, sym, ap, subst, ◌∙◌, arith, ℤ, pos, negsuc, leb, ltb, eqb, codes, decimal, slice_index}
use Rattle.std.proofs.lemmas.Bool.Decides.{nat_tests}
use Rattle.std.proofs.lemmas.Int.{ints}
use Rattle.mono_text.proofs.Decimals.{AreWithin, fields_of-decimal}
use Rattle.mono_graph.specs.Digraph.{Digraph}
use Rattle.mono_graph.specs.declared.edge.Edge.{Edge}
use Rattle.mono_problem.specs.declared.atom.Atom.{Atom}
use Rattle.mono_problem.specs.declared.atom.Predicate.{Predicate}
use Rattle.mono_problem.specs.declared.atom.Predicate.TheVariants as kind
use Rattle.mono_problem.specs.Instance.{Instance, graph_at, identity_at, place_named, nodes_total, edges_total}
use Rattle.mono_problem.specs.Growth.{with_graph, with_edge, with_atom}
use Rattle.mono_problem.specs.WellFormed.{IsMost, IsLeast}
use Rattle.mono_gnf.specs.declared.statement.Statement.TheVariants as says
use Rattle.mono_gnf.specs.Statements.{MAX_WIDE, statement_of, with_fields, at_most, at_least}
use Rattle.mono_gnf.specs.Reading.{read_tokens, put, put_graph, put_edge, put_edge_at, put_atom, put_atom_at, at_graph, has_ends, has_same_ends, ◌>>=◌}
use Rattle.mono_gnf.specs.Printed.{graph_line, edge_line, atom_line, predicate_line}
use Rattle.mono_gnf.proofs.LineRuns.{Leads}
use Rattle.mono_gnf.proofs.PrintedClauses.{state}
use Rattle.mono_base.specs.declared.limits.TheConstants.{MAX_VARS, MAX_NODES, MAX_EDGES, MAX_GRAPHS, MAX_ATOMS, MAX_WEIGHT, MAX_BOUND}

-- ---- the numbers of a predicate fit their fields

pub most_within : (k : ℕ) → IsMost (pos k) → k ≤ MAX_BOUND
most_within k h = omega (arith, ints, h.1)

most_never : (m : ℕ) → IsMost (negsuc m) → m ≡ 0
most_never m h = omega (arith, ints, h.0)

pub least_within : (f : ℕ) → IsLeast (pos f) → f ≤ MAX_BOUND + 1
least_within f h = omega (arith, ints, h.1)

pub least_positive : (m : ℕ) → IsLeast (negsuc m) → ⊥
least_positive m h = omega (arith, ints, h.0)

abbrev pub IsFitting : Predicate → Type 0
IsFitting (kind.Reach u v) = (u ≤ MAX_WIDE) × (v ≤ MAX_WIDE)
IsFitting (kind.Steps u v most) = (u ≤ MAX_WIDE) × (v ≤ MAX_WIDE) × IsMost most
IsFitting (kind.Distance u v most) = (u ≤ MAX_WIDE) × (v ≤ MAX_WIDE) × IsMost most
IsFitting (kind.Flow s t least) = (s ≤ MAX_WIDE) × (t ≤ MAX_WIDE) × IsLeast least
IsFitting (kind.Tree most) = IsMost most
IsFitting kind.Acyclic = Unit {0}

-- ---- what the lines say

graph_says : (nodes count id : ℕ) → nodes ≤ MAX_NODES → count ≤ MAX_WIDE → id ≤ MAX_WIDE → statement_of (codes "digraph" ∷ codes "int" ∷ decimal nodes ∷ decimal count ∷ decimal id ∷ []) ≡ Ok (says.Graph id nodes)
unfolding statement_of
graph_says nodes count id h k l =
    ap (λ r. with_fields r (λ fs. says.Graph (slice_index fs 2) (slice_index fs 0))) (fields_of-decimal (MAX_NODES ∷ MAX_WIDE ∷ MAX_WIDE ∷ []) (nodes ∷ count ∷ id ∷ []) (h, omega arith, (k, omega arith, (l, omega arith, tt))))

edge_says : (id from to var weight : ℕ) → id ≤ MAX_WIDE → from ≤ MAX_WIDE → to ≤ MAX_WIDE → var ≤ MAX_VARS → weight ≤ MAX_WEIGHT
    → statement_of (codes "edge" ∷ decimal id ∷ decimal from ∷ decimal to ∷ decimal var ∷ decimal weight ∷ []) ≡ Ok (says.Edge id from to var weight)
unfolding statement_of
edge_says id from to var weight a b c d e =
    ap (λ r. with_fields r (λ fs. says.Edge (slice_index fs 0) (slice_index fs 1) (slice_index fs 2) (slice_index fs 3) (slice_index fs 4))) (fields_of-decimal (MAX_WIDE ∷ MAX_WIDE ∷ MAX_WIDE ∷ MAX_VARS ∷ MAX_WEIGHT ∷ []) (id ∷ from ∷ to ∷ var ∷ weight ∷ []) (a, omega arith, (b, omega arith, (c, omega arith, (d, omega arith, (e, omega arith, tt))))))

abbrev walk_limits : List ℕ
walk_limits = MAX_WIDE ∷ MAX_WIDE ∷ MAX_WIDE ∷ MAX_VARS ∷ MAX_BOUND ∷ []

module _ (id x : ℕ) (a : id ≤ MAX_WIDE) (d : x ≤ MAX_VARS) where
  walk : (u v k : ℕ) → u ≤ MAX_WIDE → v ≤ MAX_WIDE → k ≤ MAX_BOUND → AreWithin walk_limits (id ∷ u ∷ v ∷ x ∷ k ∷ [])
  walk u v k b c e = (a, omega arith, (b, omega arith, (c, omega arith, (d, omega arith, (e, omega arith, tt)))))

  steps_says : (u v : ℕ) (most : ℤ) → u ≤ MAX_WIDE → v ≤ MAX_WIDE → IsMost most → statement_of (predicate_line id x (kind.Steps u v most)) ≡ Ok (says.Atom id x (kind.Steps u v most))
  unfolding statement_of
  steps_says u v (pos k) b c e =
      ap (λ r. with_fields r (λ fs. says.Atom (slice_index fs 0) (slice_index fs 3) (kind.Steps (slice_index fs 1) (slice_index fs 2) (at_most false (slice_index fs 4))))) (fields_of-decimal walk_limits (id ∷ u ∷ v ∷ x ∷ k ∷ []) (walk u v k b c (most_within k e)))
  steps_says u v (negsuc m) b c e =
      let P : ℕ → Type 0 = λ m. statement_of (predicate_line id x (kind.Steps u v (negsuc m))) ≡ Ok (says.Atom id x (kind.Steps u v (negsuc m))) in
      subst P (sym (most_never m e)) (ap (λ r. with_fields r (λ fs. says.Atom (slice_index fs 0) (slice_index fs 3) (kind.Steps (slice_index fs 1) (slice_index fs 2) (at_most true (slice_index fs 4))))) (fields_of-decimal walk_limits (id ∷ u ∷ v ∷ x ∷ 0 ∷ []) (walk u v 0 b c (omega arith))))

  distance_says : (u v : ℕ) (most : ℤ) → u ≤ MAX_WIDE → v ≤ MAX_WIDE → IsMost most → statement_of (predicate_line id x (kind.Distance u v most)) ≡ Ok (says.Atom id x (kind.Distance u v most))
  unfolding statement_of
  distance_says u v (pos k) b c e =
      ap (λ r. with_fields r (λ fs. says.Atom (slice_index fs 0) (slice_index fs 3) (kind.Distance (slice_index fs 1) (slice_index fs 2) (at_most false (slice_index fs 4))))) (fields_of-decimal walk_limits (id ∷ u ∷ v ∷ x ∷ k ∷ []) (walk u v k b c (most_within k e)))
  distance_says u v (negsuc m) b c e =
      let P : ℕ → Type 0 = λ m. statement_of (predicate_line id x (kind.Distance u v (negsuc m))) ≡ Ok (says.Atom id x (kind.Distance u v (negsuc m))) in
      subst P (sym (most_never m e)) (ap (λ r. with_fields r (λ fs. says.Atom (slice_index fs 0) (slice_index fs 3) (kind.Distance (slice_index fs 1) (slice_index fs 2) (at_most true (slice_index fs 4))))) (fields_of-decimal walk_limits (id ∷ u ∷ v ∷ x ∷ 0 ∷ []) (walk u v 0 b c (omega arith))))

  tree_says : (most : ℤ) → IsMost most → statement_of (predicate_line id x (kind.Tree most)) ≡ Ok (says.Atom id x (kind.Tree most))
  unfolding statement_of
  tree_says (pos k) e =
      ap (λ r. with_fields r (λ fs. says.Atom (slice_index fs 0) (slice_index fs 1) (kind.Tree (at_most false (slice_index fs 2))))) (fields_of-decimal (MAX_WIDE ∷ MAX_VARS ∷ MAX_BOUND ∷ []) (id ∷ x ∷ k ∷ []) (a, omega arith, (d, omega arith, (most_within k e, omega (arith, most_within k e), tt))))
  tree_says (negsuc m) e =
      let P : ℕ → Type 0 = λ m. statement_of (predicate_line id x (kind.Tree (negsuc m))) ≡ Ok (says.Atom id x (kind.Tree (negsuc m))) in
      subst P (sym (most_never m e)) (ap (λ r. with_fields r (λ fs. says.Atom (slice_index fs 0) (slice_index fs 1) (kind.Tree (at_most true (slice_index fs 2))))) (fields_of-decimal (MAX_WIDE ∷ MAX_VARS ∷ MAX_BOUND ∷ []) (id ∷ x ∷ 0 ∷ []) (a, omega arith, (d, omega arith, (omega arith, omega arith, tt)))))

  acyclic_says : statement_of (predicate_line id x kind.Acyclic) ≡ Ok (says.Atom id x kind.Acyclic)
  unfolding statement_of
  acyclic_says =
      ap (λ r. with_fields r (λ fs. says.Atom (slice_index fs 0) (slice_index fs 1) kind.Acyclic)) (fields_of-decimal (MAX_WIDE ∷ MAX_VARS ∷ []) (id ∷ x ∷ []) (a, omega arith, (d, omega arith, tt)))

  reach_says : (u v : ℕ) → u ≤ MAX_WIDE → v ≤ MAX_WIDE → statement_of (predicate_line id x (kind.Reach u v)) ≡ Ok (says.Atom id x (kind.Reach u v))
  unfolding statement_of
  reach_says u v b c =
      ap (λ r. with_fields r (λ fs. says.Atom (slice_index fs 0) (slice_index fs 3) (kind.Reach (slice_index fs 1) (slice_index fs 2)))) (fields_of-decimal (MAX_WIDE ∷ MAX_WIDE ∷ MAX_WIDE ∷ MAX_VARS ∷ []) (id ∷ u ∷ v ∷ x ∷ []) (a, omega arith, (b, omega arith, (c, omega arith, (d, omega arith, tt)))))

  flow_by : (s t f : ℕ) → s ≤ MAX_WIDE → t ≤ MAX_WIDE → f ≤ MAX_BOUND + 1 → (b : Bool) → ltb MAX_BOUND f ≡ b
      → statement_of (cond b (codes "maximum_flow_gt") (codes "maximum_flow_geq") ∷ decimal id ∷ decimal s ∷ decimal t ∷ decimal x ∷ decimal (cond b (f - 1) f) ∷ []) ≡ Ok (says.Atom id x (kind.Flow s t (pos f)))
  unfolding statement_of
  flow_by s t f b c e true test =
      let high : f ≡ MAX_BOUND + 1 = grind (arith, nat_tests) in
      let back : f - 1 + 1 ≡ f = omega arith in
      ap (λ r. with_fields r (λ fs. says.Atom (slice_index fs 0) (slice_index fs 3) (kind.Flow (slice_index fs 1) (slice_index fs 2) (at_least true (slice_index fs 4))))) (fields_of-decimal walk_limits (id ∷ s ∷ t ∷ x ∷ (f - 1) ∷ []) (walk s t (f - 1) b c (omega arith)))
      ∙ ap (λ k. Ok (says.Atom id x (kind.Flow s t (pos k)))) back
  flow_by s t f b c e false test =
      let low : f ≤ MAX_BOUND = grind (arith, nat_tests) in
      ap (λ r. with_fields r (λ fs. says.Atom (slice_index fs 0) (slice_index fs 3) (kind.Flow (slice_index fs 1) (slice_index fs 2) (at_least false (slice_index fs 4))))) (fields_of-decimal walk_limits (id ∷ s ∷ t ∷ x ∷ f ∷ []) (walk s t f b c low))

  flow_says : (s t : ℕ) (least : ℤ) → s ≤ MAX_WIDE → t ≤ MAX_WIDE → IsLeast least → statement_of (predicate_line id x (kind.Flow s t least)) ≡ Ok (says.Atom id x (kind.Flow s t least))
  flow_says s t (pos f) b c e = flow_by s t f b c (least_within f e) (ltb MAX_BOUND f) refl
  flow_says s t (negsuc m) b c e = absurd (least_positive m e)

  -- the line of an atom says its predicate
  pub atom_says : (p : Predicate) → IsFitting p → statement_of (predicate_line id x p) ≡ Ok (says.Atom id x p)
  atom_says (kind.Reach u v) h = reach_says u v h.0 h.1
  atom_says (kind.Steps u v most) h = steps_says u v most h.0 h.1 h.2
  atom_says (kind.Distance u v most) h = distance_says u v most h.0 h.1 h.2
  atom_says (kind.Flow s t least) h = flow_says s t least h.0 h.1 h.2
  atom_says (kind.Tree most) h = tree_says most h
  atom_says kind.Acyclic h = acyclic_says

-- ---- graphs

-- the graphs can be added one after the other, and lead from p to q
pub record CanAddGraph (p : Instance) (g : ℕ × Digraph) : Type 0 where
  pub new : IsNone (place_named p.graphs g.0)
  pub identity : g.0 ≤ MAX_WIDE
  pub nodes : 0 < g.1.nodes
  pub few : length p.graphs < MAX_GRAPHS
  pub room : nodes_total p + g.1.nodes ≤ MAX_NODES
  pub edges : length g.1.edges ≤ MAX_WIDE

abbrev pub AddsGraphs : Instance → List (ℕ × Digraph) → Instance → Type 0
AddsGraphs p [] q = p ≡ q
AddsGraphs p (g ∷ gs) q = CanAddGraph p g × AddsGraphs (with_graph p g.0 g.1.nodes) gs q

put_graph_new : (p : Instance) (last : ℕ) (g : ℕ × Digraph) → CanAddGraph p g → put_graph (state p [] last) g.0 g.1.nodes ≡ Ok (state (with_graph p g.0 g.1.nodes) [] last)
put_graph_new p last g h =
    let some : eqb g.1.nodes 0 ≡ false = grind (arith, nat_tests, h.nodes) in
    let few : leb MAX_GRAPHS (length p.graphs) ≡ false = grind (arith, nat_tests, h.few) in
    let room : ltb MAX_NODES (nodes_total p + g.1.nodes) ≡ false = grind (arith, nat_tests, h.room) in
    rw (h.new, some, few, room) refl

pub Leads-graphs : (n : ℕ) (p q : Instance) (last : ℕ) (gs : List (ℕ × Digraph)) → AddsGraphs p gs q → Leads n (state p [] last) (map graph_line gs) (state q [] last)
Leads-graphs n p q last [] h = ap (λ p. state p [] last) h
Leads-graphs n p q last (g ∷ gs) h =
    let small : g.1.nodes ≤ MAX_NODES = omega (arith, h.0.room) in (
      state (with_graph p g.0 g.1.nodes) [] last,
      ap (λ r. r >>= put (state p [] last)) (graph_says g.1.nodes (length g.1.edges) g.0 small h.0.edges h.0.identity) ∙ put_graph_new p last g h.0,
      Leads-graphs (n + 1) (with_graph p g.0 g.1.nodes) q last gs h.1,
    )

-- ---- edges

pub record CanAddEdge (p : Instance) (id k : ℕ) (e : Edge) : Type 0 where
  pub named : Some k ≡ place_named p.graphs id
  pub identity : id ≤ MAX_WIDE
  pub from : e.from < (graph_at p k).nodes
  pub to : e.to < (graph_at p k).nodes
  pub nodes : (graph_at p k).nodes ≤ MAX_NODES
  pub some : 0 < e.var
  pub var : e.var ≤ MAX_VARS
  pub weight : e.weight ≤ MAX_WEIGHT
  pub number : e.number ≡ edges_total p + 1
  pub room : edges_total p < MAX_EDGES

abbrev pub AddsEdges : Instance → List (ℕ × Edge) → Instance → Type 0
AddsEdges p [] q = p ≡ q
AddsEdges p (e ∷ es) q = (k : ℕ) × CanAddEdge p e.0 k e.1 × AddsEdges (with_edge p k e.1) es q

put_edge_new : (p : Instance) (last id k : ℕ) (e : Edge) → CanAddEdge p id k e → put_edge (state p [] last) id e.from e.to e.var e.weight ≡ Ok (state (with_edge p k e) [] last)
put_edge_new p last id k e h =
    let from : leb (graph_at p k).nodes e.from ≡ false = grind (arith, nat_tests, h.from) in
    let to : leb (graph_at p k).nodes e.to ≡ false = grind (arith, nat_tests, h.to) in
    let some : eqb e.var 0 ≡ false = grind (arith, nat_tests, h.some) in
    let room : leb MAX_EDGES (edges_total p) ≡ false = grind (arith, nat_tests, h.room) in
    ap (λ o. at_graph o (λ place. put_edge_at (state p [] last) place e.from e.to e.var e.weight)) (sym h.named)
    ∙ rw (from, to, some, room) (ap (λ n. Ok (state (with_edge p k (record e { number = n })) [] last)) (sym h.number))

pub Leads-edges : (n : ℕ) (p q : Instance) (last : ℕ) (es : List (ℕ × Edge)) → AddsEdges p es q → Leads n (state p [] last) (map edge_line es) (state q [] last)
Leads-edges n p q last [] h = ap (λ p. state p [] last) h
Leads-edges n p q last (e ∷ es) h =
    let can = h.1 in
    let from : e.1.from ≤ MAX_WIDE = omega (arith, can.from, can.nodes) in
    let to : e.1.to ≤ MAX_WIDE = omega (arith, can.to, can.nodes) in (
      state (with_edge p h.0 e.1) [] last,
      ap (λ r. r >>= put (state p [] last)) (edge_says e.0 e.1.from e.1.to e.1.var e.1.weight can.identity from to can.var can.weight) ∙ put_edge_new p last e.0 h.0 e.1 can,
      Leads-edges (n + 1) (with_edge p h.0 e.1) q last es h.2,
    )

-- ---- atoms, whose graphs are named by the identities in w

pub record CanAddAtom (w p : Instance) (x : Atom) : Type 0 where
  pub named : Some x.graph ≡ place_named p.graphs (identity_at w x.graph)
  pub identity : identity_at w x.graph ≤ MAX_WIDE
  pub ends : has_ends (graph_at p x.graph).nodes x.predicate ≡ true
  pub apart : has_same_ends x.predicate ≡ false
  pub bounded : IsFitting x.predicate
  pub some : 0 < x.var
  pub var : x.var ≤ MAX_VARS
  pub number : x.number ≡ length p.atoms + 1
  pub room : length p.atoms < MAX_ATOMS

abbrev pub AddsAtoms : Instance → Instance → List Atom → Instance → Type 0
AddsAtoms w p [] q = p ≡ q
AddsAtoms w p (x ∷ xs) q = CanAddAtom w p x × AddsAtoms w (with_atom p x) xs q

put_atom_new : (w p : Instance) (last : ℕ) (x : Atom) → CanAddAtom w p x → put_atom (state p [] last) (identity_at w x.graph) x.var x.predicate ≡ Ok (state (with_atom p x) [] last)
put_atom_new w p last x h =
    let some : eqb x.var 0 ≡ false = grind (arith, nat_tests, h.some) in
    let room : leb MAX_ATOMS (length p.atoms) ≡ false = grind (arith, nat_tests, h.room) in
    ap (λ o. at_graph o (λ place. put_atom_at (state p [] last) place x.var x.predicate)) (sym h.named)
    ∙ rw (h.ends, some, h.apart, room) (ap (λ n. Ok (state (with_atom p (record x { number = n })) [] last)) (sym h.number))

-- an atom's line is a word line
word_line_flow : (n id x s t f : ℕ) (p : Instance) (last : ℕ) (b : Bool)
    → let line : List (List ℕ) = cond b (codes "maximum_flow_gt") (codes "maximum_flow_geq") ∷ decimal id ∷ decimal s ∷ decimal t ∷ decimal x ∷ decimal (cond b (f - 1) f) ∷ [] in
    read_tokens n (state p [] last) line ≡ (statement_of line >>= put (state p [] last))
word_line_flow n id x s t f p last true = refl
word_line_flow n id x s t f p last false = refl

word_line : (n id x : ℕ) (p : Instance) (last : ℕ) (k : Predicate) → IsFitting k → read_tokens n (state p [] last) (predicate_line id x k) ≡ (statement_of (predicate_line id x k) >>= put (state p [] last))
word_line n id x p last (kind.Reach u v) h = refl
word_line n id x p last (kind.Steps u v (pos k)) h = refl
word_line n id x p last (kind.Steps u v (negsuc k)) h = refl
word_line n id x p last (kind.Distance u v (pos k)) h = refl
word_line n id x p last (kind.Distance u v (negsuc k)) h = refl
word_line n id x p last (kind.Flow s t (pos f)) h = word_line_flow n id x s t f p last (ltb MAX_BOUND f)
word_line n id x p last (kind.Flow s t (negsuc f)) h = absurd (least_positive f h.2)
word_line n id x p last (kind.Tree (pos k)) h = refl
word_line n id x p last (kind.Tree (negsuc k)) h = refl
word_line n id x p last kind.Acyclic h = refl

pub Leads-atoms : (n : ℕ) (w p q : Instance) (last : ℕ) (xs : List Atom) → AddsAtoms w p xs q → Leads n (state p [] last) (map (atom_line w) xs) (state q [] last)
Leads-atoms n w p q last [] h = ap (λ p. state p [] last) h
Leads-atoms n w p q last (x ∷ xs) h =
    let id = identity_at w x.graph in
    let can = h.0 in (
      state (with_atom p x) [] last,
      word_line n id x.var p last x.predicate can.bounded ∙ (ap (λ r. r >>= put (state p [] last)) (atom_says id x.var can.identity can.var x.predicate can.bounded) ∙ put_atom_new w p last x can),
      Leads-atoms (n + 1) w (with_atom p x) q last xs h.1,
    )
