-- A generated text has no fault.
use Rattle.std.proofs.Common.{◌≡◌, ◌≢◌, ℕ, ◌+◌, ◌-◌, ◌*◌, ◌<◌, ◌≤◌, max, ℤ, pos, List, [], ◌∷◌, ◌++◌, length, map, flat_map, replicate, None, Ok, refl, sym, ap, subst, ◌∙◌, arith, append_assoc, append-nil, sum_by, codes, decimal}
use Rattle.std.specs.Prelude.{All}
use Rattle.std.proofs.lemmas.Bool.{lt-ltb, ne_eqb}
use Rattle.std.proofs.lemmas.Int.{ints}
use Rattle.std.proofs.Math.Nat.{mul-le-mul_left}
use Rattle.std.proofs.lemmas.Grind.{flat_map-append}
use Rattle.std.proofs.lemmas.List.{length-replicate}
use Rattle.rand_pcg.specs.Lcg.{Lcg}
use Rattle.mono_text.specs.Text.{spaced}
use Rattle.mono_text.proofs.Spaced.{AreTokenLines, AreTokens}
use Rattle.mono_graph.specs.Digraph.{Digraph, no_edge}
use Rattle.mono_graph.specs.declared.edge.Edge.{Edge}
use Rattle.mono_problem.specs.Instance.{Instance}
use Rattle.mono_problem.specs.Growth.{nothing}
use Rattle.mono_problem.specs.declared.atom.Atom.{Atom}
use Rattle.mono_problem.specs.declared.atom.Predicate.TheVariants as predicate
use Rattle.mono_gnf.specs.Faults.{first_fault}
use Rattle.mono_gnf.specs.Reading.{Seen, nothing_seen, read_tokens, reading}
use Rattle.mono_gnf.specs.Printed.{graph_line, edge_line, atom_line, clause_line}
use Rattle.mono_gnf.proofs.Meaning.{stands_from}
use Rattle.mono_gnf.proofs.LineRuns.{Leads, Leads-on, reading-Leads}
use Rattle.mono_gnf.proofs.PrintedClauses.{state, with_clauses, Leads-clauses, read_header}
use Rattle.mono_gnf.proofs.PrintedForms.{AddsAtoms, CanAddAtom, CanAddGraph, Leads-graphs, Leads-edges, Leads-atoms}
use Rattle.mono_gnf.proofs.PrintedTokens.{clause_lines, header_tokens, graph_lines, edge_lines, atom_lines, lines-append}
use Rattle.mono_gnf.proofs.Remade.{bare}
use Rattle.mono_gen.specs.Joined.{joined}
use Rattle.mono_gen.specs.Draws.{seeded}
use Rattle.mono_gen.specs.Board.{edges_of, edge_count}
use Rattle.mono_gen.specs.Lines.{clause}
use Rattle.mono_gen.specs.Generated.{head_text, edges_text, behind_weights, walk_line, cross_line, flow_line, drawn_clauses, grid_text, walled_column, wall_clauses, wall_text, generated}
use Rattle.mono_gen.specs.declared.kind.GenKind.{GenKind}
use Rattle.mono_gen.specs.declared.kind.GenKind.TheVariants as kind
use Rattle.mono_gen.proofs.Sizes.{IsOn, edges_on, few_edges}
use Rattle.mono_gen.proofs.ReadBack.{numbered_up_to, edge_lines-text, boarded, boards, AreFew, few_one, few_appended, few_more, few_joined, clauses_text, joined_text, drawn, drawn_few, barred, barred_text, barred_one}

-- ---- the header and the graph's line, which announce numbers that nothing rests on

abbrev header : ℕ → ℕ → List (List ℕ)
header vars clauses = codes "p" ∷ codes "gnf" ∷ map decimal (vars ∷ clauses ∷ [])

abbrev empty_problem : ℕ → ℕ → Instance
empty_problem vars clauses = record nothing { vars = vars; clauses = replicate clauses [] }

header_is_read : (vars clauses : ℕ) → vars ≤ 1000000 → clauses ≤ 1000000 → read_tokens 1 nothing_seen (header vars clauses) ≡ Ok (state (bare vars []) [] 0)
header_is_read vars clauses few some =
    let long : length (replicate {A = List ℤ} clauses []) ≡ clauses = length-replicate clauses [] in
    subst (λ (n : ℕ). read_tokens 1 nothing_seen (header vars n) ≡ Ok (state (bare vars []) [] 0)) long (read_header (empty_problem vars clauses) (omega (arith, few)) (omega (arith, some, long)))

header_of_tokens : (vars clauses : ℕ) → vars ≤ 1000000 → clauses ≤ 1000000 → AreTokens (header vars clauses)
header_of_tokens vars clauses few some =
    let long : length (replicate {A = List ℤ} clauses []) ≡ clauses = length-replicate clauses [] in
    subst (λ (n : ℕ). AreTokens (header vars n)) long (header_tokens (empty_problem vars clauses) (omega (arith, few)) (omega (arith, some, long)))

abbrev board : ℕ → ℕ → ℕ × Digraph
board nodes count = (0, record { nodes = nodes; edges = replicate count no_edge })

board_can : (nodes count vars : ℕ) → 0 < nodes → nodes ≤ 10000 → count ≤ 1000000 → CanAddGraph (bare vars []) (board nodes count)
board_can nodes count vars some few short = record {
  new = refl;
  identity = omega arith;
  nodes = some;
  few = omega arith;
  room = omega (arith, few);
  edges = omega (arith, short, length-replicate count no_edge);
}

abbrev board_tokens : ℕ → ℕ → List (List ℕ)
board_tokens nodes count = codes "digraph" ∷ codes "int" ∷ map decimal (nodes ∷ count ∷ 0 ∷ [])

board_line_is : (nodes count : ℕ) → graph_line (board nodes count) ≡ board_tokens nodes count
board_line_is nodes count = ap (λ (n : ℕ). board_tokens nodes n) (length-replicate count no_edge)

-- ---- lines, read one after the other

abbrev all_lines : ℕ → ℕ → ℕ → ℕ → List (List (List ℕ)) → List (List (List ℕ)) → List (List (List ℕ)) → List (List (List ℕ))
all_lines vars clauses nodes count es xs cs = header vars clauses ∷ board_tokens nodes count ∷ (es ++ (xs ++ cs))

-- what a generated input is made of: its numbers of rows, of announced variables, clauses and edges, its edges with the
-- generator of their weights, its predicates, its clauses, and the problem before its clauses by the edges that are read
record IsInput (n vars clauses count : ℕ) (edges : List (ℕ × ℕ)) (xs : List Atom) (cs : List (List ℤ)) (q : List Edge → Instance) : Type 0 where
  some : 0 < n
  few : n ≤ 100
  few_vars : vars ≤ 100000
  few_clauses : clauses ≤ 1000000
  few_count : count ≤ 1000000
  on : All (IsOn n) edges
  short : length edges ≤ 40000
  adds : (held : List Edge) → AddsAtoms nothing (boarded n (max vars (length edges)) held) xs (q held)
  no_clauses : (held : List Edge) → (q held).clauses ≡ []
  within : (held : List Edge) → (q held).vars ≤ 1000000
  fits : (held : List Edge) → AreFew (q held).vars 50000 cs

its_problem : (n vars clauses count : ℕ) (edges : List (ℕ × ℕ)) (g : Lcg) (xs : List Atom) (cs : List (List ℤ)) (q : List Edge → Instance) → IsInput n vars clauses count edges xs cs q
    → (p : Instance) × (reading (flat_map spaced (all_lines vars clauses (n * n) count (map edge_line (numbered_up_to edges g (length edges))) (map (atom_line nothing) xs) (map clause_line cs))) ≡ Ok p)
its_problem n vars clauses count edges g xs cs q h =
    let wide : n * n ≤ n * 100 = mul-le-mul_left n h.few in
    let square : n * 1 ≤ n * n = mul-le-mul_left n h.some in
    let b = boards n vars (length edges) edges g h.few h.on h.short (omega arith) in
    let p0 = boarded n vars [] in
    let p1 = boarded n (max vars (length edges)) b.held in
    let p2 = q b.held in
    let fits = h.fits b.held in
    let literals : sum_by (λ (c : List ℤ). length c) p2.clauses ≡ 0 = ap (λ (l : List (List ℤ)). sum_by (λ (c : List ℤ). length c) l) (h.no_clauses b.held) in
    let none : length p2.clauses ≡ 0 = ap (λ (l : List (List ℤ)). length l) (h.no_clauses b.held) in
    let es = map edge_line (numbered_up_to edges g (length edges)) in
    let ats = map (atom_line nothing) xs in
    let ks = map clause_line cs in
    let can = board_can (n * n) count vars (omega (arith, square, h.some)) (omega (arith, wide, h.few)) h.few_count in
    let Q : Seen → Type 0 = λ t. t.row ≡ [] in
    let from_clauses : (k : ℕ) → (t : Seen) × Leads k (state p2 [] 0) ks t × Q t = λ k.
    let run = Leads-clauses k p2 0 cs fits.lits (omega (arith, h.within b.held)) (omega (arith, none, fits.count)) (omega (arith, literals, fits.size)) in
    (state (with_clauses p2 cs) [] run.0, run.1, refl) in
    let from_atoms = λ (k : ℕ). Leads-on Q k (state p1 [] 0) (state p2 [] 0) ats ks (Leads-atoms k nothing p1 p2 0 xs (h.adds b.held)) from_clauses in
    let from_edges = λ (k : ℕ). Leads-on Q k (state p0 [] 0) (state p1 [] 0) es (ats ++ ks) (Leads-edges k p0 p1 0 (numbered_up_to edges g (length edges)) b.adds) from_atoms in
    let line : Leads 2 (state (bare vars []) [] 0) (board_tokens (n * n) count ∷ []) (state p0 [] 0) =
    subst (λ (l : List (List ℕ)). Leads 2 (state (bare vars []) [] 0) (l ∷ []) (state p0 [] 0)) (board_line_is (n * n) count) (Leads-graphs 2 (bare vars []) p0 0 (board (n * n) count ∷ []) (can, refl)) in
    let from_graph = Leads-on Q 2 (state (bare vars []) [] 0) (state p0 [] 0) (board_tokens (n * n) count ∷ []) (es ++ (ats ++ ks)) line from_edges in
    let graph : AreTokens (board_tokens (n * n) count) = subst (λ (l : List (List ℕ)). AreTokens l) (board_line_is (n * n) count) (graph_lines (bare vars []) p0 (board (n * n) count ∷ []) (can, refl)).0 in
    let tokens : AreTokenLines (all_lines vars clauses (n * n) count es ats ks) = (
      header_of_tokens vars clauses (omega (arith, h.few_vars)) h.few_clauses,
      (
        graph,
        lines-append es _ (edge_lines p0 p1 (numbered_up_to edges g (length edges)) b.adds)
            (lines-append ats ks (atom_lines nothing p1 p2 xs (h.adds b.held)) (clause_lines p2.vars cs (omega (arith, h.within b.held)) fits.lits)),
      ),
    ) in (
      from_graph.0.problem,
      reading-Leads (all_lines vars clauses (n * n) count es ats ks) from_graph.0 tokens (state (bare vars []) [] 0, header_is_read vars clauses (omega (arith, h.few_vars)) h.few_clauses, from_graph.1) from_graph.2,
    )

-- ---- predicates over the board

abbrev with_atoms : ℕ → ℕ → List Edge → List Atom → Instance
with_atoms nodes vars held done = record { vars = vars; graphs = (0, record { nodes = nodes; edges = held }) ∷ []; atoms = done; clauses = [] }

abbrev reach_atom : ℕ → ℕ → ℕ → ℕ → Atom
reach_atom number var u v = record { number = number; graph = 0; var = var; predicate = predicate.Reach u v }

abbrev flow_atom : ℕ → ℕ → ℕ → ℕ → Atom
flow_atom number var s t = record { number = number; graph = 0; var = var; predicate = predicate.Flow s t (pos 2) }

can_reach : (nodes vars : ℕ) (held : List Edge) (done : List Atom) (number var u v : ℕ) → number ≡ length done + 1 → number ≤ 10 → u < nodes → v < nodes → nodes ≤ 10000 → 0 < var → var ≤ 1000000
    → CanAddAtom nothing (with_atoms nodes vars held done) (reach_atom number var u v)
can_reach nodes vars held done number var u v next few from to small some low = record {
  named = refl;
  identity = omega arith;
  ends = rw (lt-ltb u nodes from, lt-ltb v nodes to) refl;
  apart = refl;
  bounded = (omega (arith, from, small), omega (arith, to, small));
  some = some;
  var = omega (arith, low);
  number = next;
  room = omega (arith, next, few);
}

can_flow : (nodes vars : ℕ) (held : List Edge) (done : List Atom) (number var s t : ℕ) → number ≡ length done + 1 → number ≤ 10 → s < nodes → t < nodes → s ≢ t → nodes ≤ 10000 → 0 < var → var ≤ 1000000
    → CanAddAtom nothing (with_atoms nodes vars held done) (flow_atom number var s t)
can_flow nodes vars held done number var s t next few from to differ small some low = record {
  named = refl;
  identity = omega arith;
  ends = rw (lt-ltb s nodes from, lt-ltb t nodes to) refl;
  apart = ne_eqb s t differ;
  bounded = (omega (arith, from, small), omega (arith, to, small), (omega (arith, ints), omega (arith, ints)));
  some = some;
  var = omega (arith, low);
  number = next;
  room = omega (arith, next, few);
}

-- ---- sizes

record IsSize (n : ℕ) : Type 0 where
  some : 0 < edge_count n
  few : edge_count n ≤ 40000
  square : n * 2 ≤ n * n
  wide : n * n ≤ 10000
  clauses : 4 * n * n ≤ 40000

its_size : (n : ℕ) → 2 ≤ n → n ≤ 100 → IsSize n
its_size n low high =
    let a : 4 * n * 1 ≤ 4 * n * (n - 1) = mul-le-mul_left (4 * n) (omega (arith, low)) in
    let b : 4 * n * (n - 1) ≤ 4 * n * 100 = mul-le-mul_left (4 * n) (omega (arith, high)) in
    let d : 4 * n * n ≤ 4 * n * 100 = mul-le-mul_left (4 * n) high in
    let e : n * n ≤ n * 100 = mul-le-mul_left n high in
    record {
      some = omega (arith, a, low);
      few = omega (arith, b, high);
      square = mul-le-mul_left n low;
      wide = omega (arith, e, high);
      clauses = omega (arith, d, high);
    }

-- ---- texts

regroup : (h b e x c : List ℕ) → h ++ (b ++ (e ++ (x ++ c))) ≡ (((h ++ b) ++ e) ++ x) ++ c
regroup h b e x c = sym (append_assoc (((h ++ b) ++ e)) x c ∙ (append_assoc (h ++ b) e (x ++ c) ∙ append_assoc h b (e ++ (x ++ c))))

lines_text : (h b : List (List ℕ)) (es xs cs : List (List (List ℕ))) → flat_map spaced (h ∷ b ∷ (es ++ (xs ++ cs))) ≡ (((spaced h ++ spaced b) ++ flat_map spaced es) ++ flat_map spaced xs) ++ flat_map spaced cs
lines_text h b es xs cs =
    ap (λ t. spaced h ++ (spaced b ++ t)) (flat_map-append spaced es (xs ++ cs) ∙ ap (λ u. flat_map spaced es ++ u) (flat_map-append spaced xs cs))
    ∙ regroup (spaced h) (spaced b) (flat_map spaced es) (flat_map spaced xs) (flat_map spaced cs)

three : (t a b d : List ℕ) → t ++ (a ++ (b ++ (d ++ []))) ≡ ((t ++ a) ++ b) ++ d
three t a b d = ap (λ x. t ++ (a ++ (b ++ x))) (append-nil d) ∙ (sym (append_assoc t a (b ++ d)) ∙ sym (append_assoc (t ++ a) b d))

four : (t a b d e : List ℕ) → t ++ (a ++ (b ++ (d ++ e))) ≡ (((t ++ a) ++ b) ++ d) ++ e
four t a b d e = sym (append_assoc t a (b ++ (d ++ e))) ∙ (sym (append_assoc (t ++ a) b (d ++ e)) ∙ sym (append_assoc ((t ++ a) ++ b) d e))

-- ---- grid

module _ (n : ℕ) (low : 2 ≤ n) (high : n ≤ 100) (g : Lcg) where
  abbrev grid_atoms : List Atom
  grid_atoms = reach_atom 1 (edge_count n + 1) 0 (n * n - 1) ∷ reach_atom 2 (edge_count n + 2) (n - 1) (n * n - n) ∷ flow_atom 3 (edge_count n + 3) 0 (n * n - 1) ∷ []

  abbrev grid_clauses : List (List ℤ)
  grid_clauses = (pos (edge_count n + 1) ∷ []) ∷ (pos (edge_count n + 2) ∷ []) ∷ (pos (edge_count n + 3) ∷ []) ∷ joined (drawn (edge_count n) (behind_weights n g)) (4 * n * n - 3)

  abbrev grid_vars : ℕ
  grid_vars = max (max (max (max (edge_count n + 3) (length (edges_of n))) (edge_count n + 1)) (edge_count n + 2)) (edge_count n + 3)

  abbrev grid_problem : List Edge → Instance
  grid_problem held = with_atoms (n * n) grid_vars held grid_atoms

  grid_input : IsInput n (edge_count n + 3) (4 * n * n) (edge_count n) (edges_of n) grid_atoms grid_clauses grid_problem
  grid_input =
      let size = its_size n low high in
      let edges = few_edges n high in
      let vars0 : ℕ = max (edge_count n + 3) (length (edges_of n)) in
      let vars1 : ℕ = max vars0 (edge_count n + 1) in
      let vars2 : ℕ = max vars1 (edge_count n + 2) in
      let small : grid_vars ≤ 1000000 = omega (arith, size.few, edges) in
      let more : edge_count n + 3 ≤ grid_vars = omega arith in
      let one = few_one grid_vars (pos (edge_count n + 1) ∷ []) (omega arith, omega (arith, more), tt) (omega arith) in
      let two = few_one grid_vars (pos (edge_count n + 2) ∷ []) (omega arith, omega (arith, more), tt) (omega arith) in
      let three = few_one grid_vars (pos (edge_count n + 3) ∷ []) (omega arith, omega (arith, more), tt) (omega arith) in
      let random = drawn_few (edge_count n) grid_vars (4 * n * n - 3) (behind_weights n g) size.some (omega (arith, more)) in
      let last = few_appended grid_vars 1 (4 * n * n - 3) ((pos (edge_count n + 3) ∷ []) ∷ []) _ three random in
      let later = few_appended grid_vars 1 (1 + (4 * n * n - 3)) ((pos (edge_count n + 2) ∷ []) ∷ []) _ two last in
      let all = few_appended grid_vars 1 (1 + (1 + (4 * n * n - 3))) ((pos (edge_count n + 1) ∷ []) ∷ []) _ one later in
      record {
        some = omega (arith, low);
        few = high;
        few_vars = omega (arith, size.few);
        few_clauses = omega (arith, size.clauses);
        few_count = omega (arith, size.few);
        on = edges_on n;
        short = edges;
        adds = λ held. (
          can_reach (n * n) vars0 held [] 1 (edge_count n + 1) 0 (n * n - 1) refl (omega arith) (omega (arith, size.square, low)) (omega (arith, size.square, low)) size.wide (omega arith) (omega (arith, size.few)),
          (
            can_reach (n * n) vars1 held (reach_atom 1 (edge_count n + 1) 0 (n * n - 1) ∷ []) 2 (edge_count n + 2) (n - 1) (n * n - n) refl (omega arith) (omega (arith, size.square, low)) (omega (arith, size.square, low)) size.wide (omega arith) (omega (arith, size.few)),
            (
              can_flow (n * n) vars2 held (reach_atom 1 (edge_count n + 1) 0 (n * n - 1) ∷ reach_atom 2 (edge_count n + 2) (n - 1) (n * n - n) ∷ []) 3 (edge_count n + 3) 0 (n * n - 1) refl (omega arith) (omega (arith, size.square, low)) (omega (arith, size.square, low)) (λ same. omega (arith, same, size.square, low)) size.wide (omega arith) (omega (arith, size.few)),
              refl,
            ),
          ),
        );
        no_clauses = λ held. refl;
        within = λ held. small;
        fits = λ held. few_more grid_vars (1 + (1 + (1 + (4 * n * n - 3)))) 50000 grid_clauses all (omega (arith, size.clauses));
      }

  grid_lines : List (List (List ℕ))
  grid_lines = all_lines (edge_count n + 3) (4 * n * n) (n * n) (edge_count n) (map edge_line (numbered_up_to (edges_of n) g (length (edges_of n)))) (map (atom_line nothing) grid_atoms) (map clause_line grid_clauses)

  grid_lines_text : flat_map spaced grid_lines ≡ grid_text n g
  unfolding grid_lines
  grid_lines_text =
      let start : List ℕ = head_text n (edge_count n + 3) (4 * n * n) in
      let random : clauses_text (joined (drawn (edge_count n) (behind_weights n g)) (4 * n * n - 3)) ≡ drawn_clauses (edge_count n) (behind_weights n g) (4 * n * n - 3) =
      joined_text (4 * n * n - 3) (drawn (edge_count n) (behind_weights n g)) _ (λ j. append-nil _) in
      lines_text (header (edge_count n + 3) (4 * n * n)) (board_tokens (n * n) (edge_count n)) (map edge_line (numbered_up_to (edges_of n) g (length (edges_of n)))) (map (atom_line nothing) grid_atoms) (map clause_line grid_clauses)
      ∙ (ap (λ t. ((start ++ t) ++ flat_map spaced (map (atom_line nothing) grid_atoms)) ++ flat_map spaced (map clause_line grid_clauses)) (edge_lines-text (edges_of n) g (length (edges_of n)))
      ∙ (ap (λ t. t ++ flat_map spaced (map clause_line grid_clauses)) (three (start ++ edges_text (edges_of n) g) (walk_line n) (cross_line n) (flow_line n))
      ∙ (four ((((start ++ edges_text (edges_of n) g) ++ walk_line n) ++ cross_line n) ++ flow_line n) (clause (pos (edge_count n + 1) ∷ [])) (clause (pos (edge_count n + 2) ∷ [])) (clause (pos (edge_count n + 3) ∷ [])) (clauses_text (joined (drawn (edge_count n) (behind_weights n g)) (4 * n * n - 3)))
      ∙ ap (λ t. (((((((start ++ edges_text (edges_of n) g) ++ walk_line n) ++ cross_line n) ++ flow_line n) ++ clause (pos (edge_count n + 1) ∷ [])) ++ clause (pos (edge_count n + 2) ∷ [])) ++ clause (pos (edge_count n + 3) ∷ [])) ++ t) random)))

  grid_no_fault : first_fault (grid_text n g) ≡ None
  unfolding grid_lines
  grid_no_fault =
      let its = its_problem n (edge_count n + 3) (4 * n * n) (edge_count n) (edges_of n) g grid_atoms grid_clauses grid_problem grid_input in
      subst (λ (t : List ℕ). first_fault t ≡ None) grid_lines_text (stands_from (flat_map spaced grid_lines) its.0 its.1).0

  -- ---- wall

  abbrev wall_atoms : List Atom
  wall_atoms = reach_atom 1 (edge_count n + 1) 0 (n * n - 1) ∷ []

  abbrev wall_column : ℕ
  wall_column = walled_column n g

  abbrev wall_barred : List (List ℤ)
  wall_barred = joined (barred n wall_column (edges_of n)) (length (edges_of n))

  abbrev wall_all : List (List ℤ)
  wall_all = (pos (edge_count n + 1) ∷ []) ∷ wall_barred

  abbrev wall_vars : ℕ
  wall_vars = max (max (edge_count n + 1) (length (edges_of n))) (edge_count n + 1)

  abbrev wall_problem : List Edge → Instance
  wall_problem held = with_atoms (n * n) wall_vars held wall_atoms

  wall_input : IsInput n (edge_count n + 1) (n + 1) (edge_count n) (edges_of n) wall_atoms wall_all wall_problem
  wall_input =
      let size = its_size n low high in
      let edges = few_edges n high in
      let small : wall_vars ≤ 1000000 = omega (arith, size.few, edges) in
      let one = few_one wall_vars (pos (edge_count n + 1) ∷ []) (omega arith, omega arith, tt) (omega arith) in
      let rest = few_joined wall_vars (length (edges_of n)) (length (edges_of n)) (barred n wall_column (edges_of n)) (λ j less. barred_one n wall_column wall_vars (edges_of n) j (omega (arith, less))) (omega arith) in
      let all = few_appended wall_vars 1 (length (edges_of n)) ((pos (edge_count n + 1) ∷ []) ∷ []) wall_barred one rest in
      record {
        some = omega (arith, low);
        few = high;
        few_vars = omega (arith, size.few);
        few_clauses = omega (arith, high);
        few_count = omega (arith, size.few);
        on = edges_on n;
        short = edges;
        adds = λ held. (
          can_reach (n * n) (max (edge_count n + 1) (length (edges_of n))) held [] 1 (edge_count n + 1) 0 (n * n - 1) refl (omega arith) (omega (arith, size.square, low)) (omega (arith, size.square, low)) size.wide (omega arith) (omega (arith, size.few)),
          refl,
        );
        no_clauses = λ held. refl;
        within = λ held. small;
        fits = λ held. few_more wall_vars (1 + length (edges_of n)) 50000 wall_all all (omega (arith, edges));
      }

  wall_lines : List (List (List ℕ))
  wall_lines = all_lines (edge_count n + 1) (n + 1) (n * n) (edge_count n) (map edge_line (numbered_up_to (edges_of n) g (length (edges_of n)))) (map (atom_line nothing) wall_atoms) (map clause_line wall_all)

  wall_lines_text : flat_map spaced wall_lines ≡ wall_text n g
  unfolding wall_lines
  wall_lines_text =
      let start : List ℕ = head_text n (edge_count n + 1) (n + 1) in
      let rest : clauses_text wall_barred ≡ wall_clauses n wall_column (edges_of n) = joined_text (length (edges_of n)) (barred n wall_column (edges_of n)) _ (λ j. barred_text n wall_column (edges_of n) j) in
      lines_text (header (edge_count n + 1) (n + 1)) (board_tokens (n * n) (edge_count n)) (map edge_line (numbered_up_to (edges_of n) g (length (edges_of n)))) (map (atom_line nothing) wall_atoms) (map clause_line wall_all)
      ∙ (ap (λ t. ((start ++ t) ++ flat_map spaced (map (atom_line nothing) wall_atoms)) ++ flat_map spaced (map clause_line wall_all)) (edge_lines-text (edges_of n) g (length (edges_of n)))
      ∙ (ap (λ t. ((start ++ edges_text (edges_of n) g) ++ t) ++ flat_map spaced (map clause_line wall_all)) (append-nil (walk_line n))
      ∙ (sym (append_assoc ((start ++ edges_text (edges_of n) g) ++ walk_line n) (clause (pos (edge_count n + 1) ∷ [])) (clauses_text wall_barred))
      ∙ ap (λ t. (((start ++ edges_text (edges_of n) g) ++ walk_line n) ++ clause (pos (edge_count n + 1) ∷ [])) ++ t) rest)))

  wall_no_fault : first_fault (wall_text n g) ≡ None
  unfolding wall_lines
  wall_no_fault =
      let its = its_problem n (edge_count n + 1) (n + 1) (edge_count n) (edges_of n) g wall_atoms wall_all wall_problem wall_input in
      subst (λ (t : List ℕ). first_fault t ≡ None) wall_lines_text (stands_from (flat_map spaced wall_lines) its.0 its.1).0

pub no_fault : (k : GenKind) (n seed : ℕ) → 2 ≤ n → n ≤ 100 → first_fault (generated k n seed) ≡ None
no_fault kind.Grid n seed low high = grid_no_fault n low high (seeded seed)
no_fault kind.Wall n seed low high = wall_no_fault n low high (seeded seed)
