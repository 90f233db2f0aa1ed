-- What a statement adds to what was seen, or its fault, read off what was said before.
use Rattle.std.proofs.Common.{◌≡◌, ℕ, ◌+◌, ◌<◌, ◌==◌, ◌||◌, max, Bool, true, false, not, nat_le, nat_lt, ℤ, nat_abs, List, [], ◌∷◌, ◌++◌, length, map, flat_map, position, get_or, set, Option, Some, None, is_some, Result, refl, sym, ap, ◌∙◌, subst, arith, sum_by, length-append}
use Rattle.std.specs.List.{enumerate_from}
use Rattle.std.specs.Option.{option_map}
use Rattle.std.proofs.lemmas.Bool.{lt-ltb}
use Rattle.std.proofs.lemmas.List.{map-append}
use Rattle.std.proofs.lemmas.List.Sums.{sum_by_push}
use Rattle.mono_graph.specs.Digraph.{Digraph}
use Rattle.mono_problem.specs.declared.atom.Atom.{Atom}
use Rattle.mono_problem.specs.Instance.{no_graph, place_named}
use Rattle.mono_problem.specs.Growth.{graph_with}
use Rattle.mono_problem.proofs.Entries.{edges-grown}
use Rattle.mono_gnf.specs.declared.fault.GnfFault.{GnfFault}
use Rattle.mono_gnf.specs.declared.fault.GnfFault.TheVariants as fault
use Rattle.mono_gnf.specs.Statements.{has_ends, has_same_ends}
use Rattle.mono_gnf.specs.Lines.{clauses_of, open_clause}
use Rattle.mono_gnf.specs.Declarations.{EdgeLine, AtomLine, nodes_at, nodes_named}
use Rattle.mono_gnf.specs.Faults.{first_failed, over_graph}
use Rattle.mono_gnf.specs.Stands.{numbered_edge, numbered_atom, declared_graph, greatest}
use Rattle.mono_gnf.specs.Reading.{Seen, put_header, put_graph, put_edge, put_edge_at, put_atom, put_atom_at, at_graph}
use Rattle.mono_gnf.proofs.Identities.{AreDistinct, AreDistinct-push, AreNamed, AreNamed-wider, AreNamed-push, absent, only_at, IsOnlyAt-held}
use Rattle.mono_gnf.proofs.Problems.{greatest-four, greatest-push, names-graphs, length-graphs, nodes-graphs, nodes_at-graphs, graphs-edge, graphs-graph, atoms-graph, length-atoms, atoms-atom}
use Rattle.mono_gnf.proofs.Agreement.{SameOutcome, SameOutcome-along, SameOutcome-checks, run}
use Rattle.mono_base.specs.declared.limits.TheConstants.{MAX_NODES, MAX_EDGES, MAX_GRAPHS, MAX_ATOMS}

-- ---- what is seen of headers, graphs, edges, predicates and numbers

abbrev pub vars_of : List ℕ → List EdgeLine → List AtomLine → List (List ℤ) → ℕ
vars_of hs es xs cs = greatest (hs ++ map (λ (e : EdgeLine). e.var) es ++ map (λ (x : AtomLine). x.var) xs ++ flat_map (λ (c : List ℤ). map nat_abs c) cs)

abbrev seen_as : ℕ → List (ℕ × Digraph) → List Atom → List ℤ → ℕ → Bool → Seen
seen_as v graphs atoms zs last header = record {
  problem = record { vars = v; graphs = graphs; atoms = atoms; clauses = clauses_of zs };
  row = open_clause zs;
  last = last;
  header = header;
}

abbrev pub seen : List ℕ → List (ℕ × ℕ) → List EdgeLine → List AtomLine → List ℤ → ℕ → Seen
seen hs gs es xs zs last = seen_as (vars_of hs es xs (clauses_of zs)) (map (declared_graph es) gs) (map (numbered_atom gs) (enumerate_from 1 xs)) zs last (nat_lt 0 (length hs))

-- identities differ, edges and predicates name graphs, and every edge is in its graph
pub record IsSound (gs : List (ℕ × ℕ)) (es : List EdgeLine) (xs : List AtomLine) : Type 0 where
  pub distinct : AreDistinct gs
  pub edges : AreNamed gs (map (λ (e : EdgeLine). e.graph) es)
  pub atoms : AreNamed gs (map (λ (x : AtomLine). x.graph) xs)
  pub total : sum_by (λ (g : ℕ × Digraph). length g.1.edges) (map (declared_graph es) gs) ≡ length es

pub nothing_sound : IsSound [] [] []
nothing_sound = record { distinct = tt; edges = tt; atoms = tt; total = refl }

-- ---- variables

pub vars-split : (hs : List ℕ) (es : List EdgeLine) (xs : List AtomLine) (cs : List (List ℤ))
    → vars_of hs es xs cs ≡ max (max (max (greatest hs) (greatest (map (λ (e : EdgeLine). e.var) es))) (greatest (map (λ (x : AtomLine). x.var) xs))) (greatest (flat_map (λ (c : List ℤ). map nat_abs c) cs))
vars-split hs es xs cs = greatest-four hs (map (λ (e : EdgeLine). e.var) es) (map (λ (x : AtomLine). x.var) xs) (flat_map (λ (c : List ℤ). map nat_abs c) cs)

max-first : (a b c d x : ℕ) → max (max (max (max a b) c) d) x ≡ max (max (max (max a x) b) c) d
max-first a b c d x = omega arith

max-second : (a b c d x : ℕ) → max (max (max (max a b) c) d) x ≡ max (max (max a (max b x)) c) d
max-second a b c d x = omega arith

max-third : (a b c d x : ℕ) → max (max (max (max a b) c) d) x ≡ max (max (max a b) (max c x)) d
max-third a b c d x = omega arith

vars-header : (hs : List ℕ) (es : List EdgeLine) (xs : List AtomLine) (cs : List (List ℤ)) (v : ℕ) → max (vars_of hs es xs cs) v ≡ vars_of (hs ++ v ∷ []) es xs cs
vars-header hs es xs cs v =
    rw (vars-split hs es xs cs, vars-split (hs ++ v ∷ []) es xs cs, greatest-push hs v) (max-first (greatest hs) _ _ _ v)

vars-edge : (hs : List ℕ) (es : List EdgeLine) (xs : List AtomLine) (cs : List (List ℤ)) (e : EdgeLine) → max (vars_of hs es xs cs) e.var ≡ vars_of hs (es ++ e ∷ []) xs cs
vars-edge hs es xs cs e =
    let pushed = ap greatest (map-append (λ (e : EdgeLine). e.var) es (e ∷ [])) ∙ greatest-push (map (λ (e : EdgeLine). e.var) es) e.var in
    rw (vars-split hs es xs cs, vars-split hs (es ++ e ∷ []) xs cs, pushed) (max-second (greatest hs) _ _ _ e.var)

vars-atom : (hs : List ℕ) (es : List EdgeLine) (xs : List AtomLine) (cs : List (List ℤ)) (x : AtomLine) → max (vars_of hs es xs cs) x.var ≡ vars_of hs es (xs ++ x ∷ []) cs
vars-atom hs es xs cs x =
    let pushed = ap greatest (map-append (λ (x : AtomLine). x.var) xs (x ∷ [])) ∙ greatest-push (map (λ (x : AtomLine). x.var) xs) x.var in
    rw (vars-split hs es xs cs, vars-split hs es (xs ++ x ∷ []) cs, pushed) (max-third (greatest hs) _ _ _ x.var)

-- ---- options

is_some-mapped : (f : ℕ → ℕ) (o : Option ℕ) → is_some (option_map f o) ≡ is_some o
is_some-mapped f None = refl
is_some-mapped f (Some k) = refl

is_none : (o : Option ℕ) → is_some o ≡ false → o ≡ None
is_none None h = refl
is_none (Some k) h = absurd (cc)

-- ---- headers

some_header : (hs : List ℕ) (v : ℕ) → true ≡ nat_lt 0 (length (hs ++ v ∷ []))
some_header hs v = let counted = length-append hs (v ∷ []) in sym (lt-ltb 0 (length (hs ++ v ∷ [])) (omega arith))

pub header-said : (hs : List ℕ) (gs : List (ℕ × ℕ)) (es : List EdgeLine) (xs : List AtomLine) (zs : List ℤ) (last v : ℕ)
    → SameOutcome (λ s. s ≡ seen (hs ++ v ∷ []) gs es xs zs last) (first_failed ((nat_lt 0 (length hs), fault.SecondHeader) ∷ [])) (put_header (seen hs gs es xs zs last) v)
header-said hs gs es xs zs last v =
    let some : true ≡ nat_lt 0 (length (hs ++ v ∷ [])) = some_header hs v in
    let more = vars-header hs es xs (clauses_of zs) v in
    SameOutcome-checks (λ s. s ≡ seen (hs ++ v ∷ []) gs es xs zs last) ((nat_lt 0 (length hs), fault.SecondHeader) ∷ [])
    (seen_as (max (vars_of hs es xs (clauses_of zs)) v) (map (declared_graph es) gs) (map (numbered_atom gs) (enumerate_from 1 xs)) zs last true)
    (λ passed.
    ap (λ (n : ℕ). seen_as n (map (declared_graph es) gs) (map (numbered_atom gs) (enumerate_from 1 xs)) zs last true) more
    ∙ ap (λ (b : Bool). seen_as (vars_of (hs ++ v ∷ []) es xs (clauses_of zs)) (map (declared_graph es) gs) (map (numbered_atom gs) (enumerate_from 1 xs)) zs last b) some)

-- ---- graphs

module _ (hs : List ℕ) (gs : List (ℕ × ℕ)) (es : List EdgeLine) (xs : List AtomLine) (zs : List ℤ) (last : ℕ) (sound : IsSound gs es xs) where
  named : (id : ℕ) → place_named (seen hs gs es xs zs last).problem.graphs id ≡ place_named gs id
  named id = ap (position (λ k. id == k)) (names-graphs es gs)

  abbrev pub Grown : ℕ × ℕ → Seen → Type 0
  Grown g s = (s ≡ seen hs (gs ++ g ∷ []) es xs zs last) × IsSound (gs ++ g ∷ []) es xs

  graph-grown : (id nodes : ℕ) → place_named gs id ≡ None
      → Grown (id, nodes) (seen_as (vars_of hs es xs (clauses_of zs)) (map (declared_graph es) gs ++ (id, record { nodes = nodes; edges = [] }) ∷ []) (map (numbered_atom gs) (enumerate_from 1 xs)) zs last (nat_lt 0 (length hs)))
  graph-grown id nodes none =
      let graphs = graphs-graph es gs id nodes none sound.edges in
      let atoms = atoms-graph 1 gs (id, nodes) xs sound.atoms in
      let pushed = sum_by_push (λ (g : ℕ × Digraph). length g.1.edges) (map (declared_graph es) gs) (id, record { nodes = nodes; edges = [] }) in
      let counted = ap (λ (l : List (ℕ × Digraph)). sum_by (λ (g : ℕ × Digraph). length g.1.edges) l) graphs in (
        ap (λ (l : List (ℕ × Digraph)). seen_as (vars_of hs es xs (clauses_of zs)) l (map (numbered_atom gs) (enumerate_from 1 xs)) zs last (nat_lt 0 (length hs))) (sym graphs)
            ∙ ap (λ (l : List Atom). seen_as (vars_of hs es xs (clauses_of zs)) (map (declared_graph es) (gs ++ (id, nodes) ∷ [])) l zs last (nat_lt 0 (length hs))) (sym atoms),
        record {
          distinct = AreDistinct-push gs (id, nodes) sound.distinct (absent id gs none);
          edges = AreNamed-wider gs (id, nodes) (map (λ (e : EdgeLine). e.graph) es) sound.edges;
          atoms = AreNamed-wider gs (id, nodes) (map (λ (x : AtomLine). x.graph) xs) sound.atoms;
          total = omega (arith, counted, pushed, sound.total);
        },
      )

  abbrev graph_checks : Bool → Bool → Bool → List (Bool × GnfFault)
  graph_checks a b c = (a, fault.DuplicateGraph) ∷ (b, fault.NodeOutOfRange) ∷ (c, fault.TooMany) ∷ []

  pub graph-said : (id nodes : ℕ)
      → SameOutcome (Grown (id, nodes)) (first_failed ((is_some (nodes_named gs id), fault.DuplicateGraph) ∷ (nodes == 0, fault.NodeOutOfRange) ∷ (nat_le MAX_GRAPHS (length gs) || nat_lt MAX_NODES (sum_by (λ (g : ℕ × ℕ). g.1) gs + nodes), fault.TooMany) ∷ [])) (put_graph (seen hs gs es xs zs last) id nodes)
  graph-said id nodes =
      let known : is_some (nodes_named gs id) ≡ is_some (place_named (seen hs gs es xs zs last).problem.graphs id) = is_some-mapped (nodes_at gs) (place_named gs id) ∙ ap is_some (sym (named id)) in
      let many : nat_le MAX_GRAPHS (length gs) || nat_lt MAX_NODES (sum_by (λ (g : ℕ × ℕ). g.1) gs + nodes) ≡ nat_le MAX_GRAPHS (length (map (declared_graph es) gs)) || nat_lt MAX_NODES (sum_by (λ (g : ℕ × Digraph). g.1.nodes) (map (declared_graph es) gs) + nodes) = rw (length-graphs es gs, nodes-graphs es gs) refl in
      let checks = graph_checks (is_some (place_named (seen hs gs es xs zs last).problem.graphs id)) (nodes == 0) (nat_le MAX_GRAPHS (length (map (declared_graph es) gs)) || nat_lt MAX_NODES (sum_by (λ (g : ℕ × Digraph). g.1.nodes) (map (declared_graph es) gs) + nodes)) in
      let next = seen_as (vars_of hs es xs (clauses_of zs)) (map (declared_graph es) gs ++ (id, record { nodes = nodes; edges = [] }) ∷ []) (map (numbered_atom gs) (enumerate_from 1 xs)) zs last (nat_lt 0 (length hs)) in
      SameOutcome-along (Grown (id, nodes)) (first_failed (graph_checks (is_some (nodes_named gs id)) (nodes == 0) (nat_le MAX_GRAPHS (length gs) || nat_lt MAX_NODES (sum_by (λ (g : ℕ × ℕ). g.1) gs + nodes)))) (first_failed checks) (put_graph (seen hs gs es xs zs last) id nodes) (run checks next)
      (rw (known, many) refl) refl
      (SameOutcome-checks (Grown (id, nodes)) checks next (λ passed. graph-grown id nodes (sym (named id) ∙ is_none (place_named (seen hs gs es xs zs last).problem.graphs id) passed.0)))

  -- ---- edges and predicates

  -- what names a graph is read over that graph's nodes
  over_named : (Q : Seen → Type 0) (check : ℕ → Option GnfFault) (step : ℕ → Result Seen GnfFault) (o : Option ℕ)
      → ((k : ℕ) → o ≡ Some k → SameOutcome Q (check (nodes_at gs k)) (step k)) → SameOutcome Q (over_graph (option_map (nodes_at gs) o) check) (at_graph o step)
  over_named Q check step None h = refl
  over_named Q check step (Some k) h = h k refl

  named_step : (Q : Seen → Type 0) (id : ℕ) (check : ℕ → Option GnfFault) (step : ℕ → Result Seen GnfFault)
      → ((k : ℕ) → place_named gs id ≡ Some k → SameOutcome Q (check (nodes_at gs k)) (step k))
      → SameOutcome Q (over_graph (nodes_named gs id) check) (at_graph (place_named (seen hs gs es xs zs last).problem.graphs id) step)
  named_step Q id check step h =
      SameOutcome-along Q (over_graph (nodes_named gs id) check) (over_graph (nodes_named gs id) check) (at_graph (place_named (seen hs gs es xs zs last).problem.graphs id) step) (at_graph (place_named gs id) step)
      refl (ap (λ (o : Option ℕ). at_graph o step) (named id))
      (over_named Q check step (place_named gs id) h)

  abbrev pub Joined : EdgeLine → Seen → Type 0
  Joined e s = (s ≡ seen hs gs (es ++ e ∷ []) xs zs last) × IsSound gs (es ++ e ∷ []) xs

  abbrev edge_put : ℕ → EdgeLine → ℕ → Seen
  edge_put k e n =
      seen_as (max (vars_of hs es xs (clauses_of zs)) e.var) (set (map (declared_graph es) gs) k (graph_with (get_or (map (declared_graph es) gs) k no_graph) (record { number = n; from = e.from; to = e.to; var = e.var; weight = e.weight })))
      (map (numbered_atom gs) (enumerate_from 1 xs)) zs last (nat_lt 0 (length hs))

  edge_joined : (e : EdgeLine) (k : ℕ) → place_named gs e.graph ≡ Some k → Joined e (edge_put k e (sum_by (λ (g : ℕ × Digraph). length g.1.edges) (map (declared_graph es) gs) + 1))
  edge_joined e k found =
      let at = only_at e.graph k gs sound.distinct found in
      let graphs = graphs-edge es e gs k at in
      let held : k < length (map (declared_graph es) gs) = omega (arith, IsOnlyAt-held e.graph k gs at, length-graphs es gs) in
      let number : sum_by (λ (g : ℕ × Digraph). length g.1.edges) (map (declared_graph es) gs) + 1 ≡ 1 + length es = omega (arith, sound.total) in
      let grown = edges-grown (map (declared_graph es) gs) k held (numbered_edge (1 + length es, e)) in
      let counted = ap (λ (l : List (ℕ × Digraph)). sum_by (λ (g : ℕ × Digraph). length g.1.edges) l) graphs in
      let names = map-append (λ (e : EdgeLine). e.graph) es (e ∷ []) in (
        ap (edge_put k e) number
            ∙ (ap (λ (l : List (ℕ × Digraph)). seen_as (max (vars_of hs es xs (clauses_of zs)) e.var) l (map (numbered_atom gs) (enumerate_from 1 xs)) zs last (nat_lt 0 (length hs))) (sym graphs)
            ∙ ap (λ (v : ℕ). seen_as v (map (declared_graph (es ++ e ∷ [])) gs) (map (numbered_atom gs) (enumerate_from 1 xs)) zs last (nat_lt 0 (length hs))) (vars-edge hs es xs (clauses_of zs) e)),
        record {
          distinct = sound.distinct;
          edges = subst (AreNamed gs) (sym names) (AreNamed-push gs (map (λ (e : EdgeLine). e.graph) es) e.graph k sound.edges found);
          atoms = sound.atoms;
          total = omega (arith, counted, grown, sound.total, length-append es (e ∷ []));
        },
      )

  abbrev edge_checks : ℕ → EdgeLine → ℕ → List (Bool × GnfFault)
  edge_checks nodes e n = (nat_le nodes e.from || nat_le nodes e.to, fault.NodeOutOfRange) ∷ (e.var == 0, fault.BadVariable) ∷ (nat_le MAX_EDGES n, fault.TooMany) ∷ []

  pub edge-said : (e : EdgeLine)
      → SameOutcome (Joined e) (over_graph (nodes_named gs e.graph) (λ nodes. first_failed (edge_checks nodes e (length es)))) (put_edge (seen hs gs es xs zs last) e.graph e.from e.to e.var e.weight)
  edge-said e =
      named_step (Joined e) e.graph (λ nodes. first_failed (edge_checks nodes e (length es))) (λ place. put_edge_at (seen hs gs es xs zs last) place e.from e.to e.var e.weight)
      (λ k found.
      let total = sum_by (λ (g : ℕ × Digraph). length g.1.edges) (map (declared_graph es) gs) in
      let checks = edge_checks (get_or (map (declared_graph es) gs) k no_graph).1.nodes e total in
      SameOutcome-along (Joined e) (first_failed (edge_checks (nodes_at gs k) e (length es))) (first_failed checks) (put_edge_at (seen hs gs es xs zs last) k e.from e.to e.var e.weight) (run checks (edge_put k e (total + 1)))
      (rw (nodes_at-graphs es gs k, sound.total) refl) refl
      (SameOutcome-checks (Joined e) checks (edge_put k e (total + 1)) (λ passed. edge_joined e k found)))

  abbrev pub Posed : AtomLine → Seen → Type 0
  Posed x s = (s ≡ seen hs gs es (xs ++ x ∷ []) zs last) × IsSound gs es (xs ++ x ∷ [])

  abbrev atom_put : ℕ → AtomLine → ℕ → Seen
  atom_put k x n =
      seen_as (max (vars_of hs es xs (clauses_of zs)) x.var) (map (declared_graph es) gs)
      (map (numbered_atom gs) (enumerate_from 1 xs) ++ record { number = n; graph = k; var = x.var; predicate = x.predicate } ∷ []) zs last (nat_lt 0 (length hs))

  atom_posed : (x : AtomLine) (k : ℕ) → place_named gs x.graph ≡ Some k → Posed x (atom_put k x (length (map (numbered_atom gs) (enumerate_from 1 xs)) + 1))
  atom_posed x k found =
      let number : length (map (numbered_atom gs) (enumerate_from 1 xs)) + 1 ≡ 1 + length xs = omega (arith, length-atoms 1 gs xs) in
      let names = map-append (λ (x : AtomLine). x.graph) xs (x ∷ []) in (
        ap (atom_put k x) number
            ∙ (ap (λ (l : List Atom). seen_as (max (vars_of hs es xs (clauses_of zs)) x.var) (map (declared_graph es) gs) l zs last (nat_lt 0 (length hs))) (sym (atoms-atom gs xs x k found))
            ∙ ap (λ (v : ℕ). seen_as v (map (declared_graph es) gs) (map (numbered_atom gs) (enumerate_from 1 (xs ++ x ∷ []))) zs last (nat_lt 0 (length hs))) (vars-atom hs es xs (clauses_of zs) x)),
        record {
          distinct = sound.distinct;
          edges = sound.edges;
          atoms = subst (AreNamed gs) (sym names) (AreNamed-push gs (map (λ (x : AtomLine). x.graph) xs) x.graph k sound.atoms found);
          total = sound.total;
        },
      )

  abbrev atom_checks : ℕ → AtomLine → ℕ → List (Bool × GnfFault)
  atom_checks nodes x n = (not (has_ends nodes x.predicate), fault.NodeOutOfRange) ∷ (x.var == 0, fault.BadVariable) ∷ (has_same_ends x.predicate, fault.SameEnds) ∷ (nat_le MAX_ATOMS n, fault.TooMany) ∷ []

  pub atom-said : (x : AtomLine)
      → SameOutcome (Posed x) (over_graph (nodes_named gs x.graph) (λ nodes. first_failed (atom_checks nodes x (length xs)))) (put_atom (seen hs gs es xs zs last) x.graph x.var x.predicate)
  atom-said x =
      named_step (Posed x) x.graph (λ nodes. first_failed (atom_checks nodes x (length xs))) (λ place. put_atom_at (seen hs gs es xs zs last) place x.var x.predicate)
      (λ k found.
      let count = length (map (numbered_atom gs) (enumerate_from 1 xs)) in
      let checks = atom_checks (get_or (map (declared_graph es) gs) k no_graph).1.nodes x count in
      SameOutcome-along (Posed x) (first_failed (atom_checks (nodes_at gs k) x (length xs))) (first_failed checks) (put_atom_at (seen hs gs es xs zs last) k x.var x.predicate) (run checks (atom_put k x (count + 1)))
      (rw (nodes_at-graphs es gs k, length-atoms 1 gs xs) refl) refl
      (SameOutcome-checks (Posed x) checks (atom_put k x (count + 1)) (λ passed. atom_posed x k found)))
