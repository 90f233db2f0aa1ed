-- The printed form of a problem stands for the problem.
use Rattle.std.proofs.Common.{◌≡◌, ℕ, [], ◌++◌, map, Ok, refl, ap, ◌∙◌, arith}
use Rattle.mono_text.proofs.Spaced.{AreTokenLines}
use Rattle.mono_problem.specs.Instance.{Instance, edges_total}
use Rattle.mono_problem.specs.WellFormed.{IsInstance}
use Rattle.mono_gnf.specs.Reading.{Seen, reading}
use Rattle.mono_gnf.specs.Stands.{Stands}
use Rattle.mono_gnf.specs.Printed.{printed, printed_lines, graph_line, edge_line, atom_line, clause_line, edges_up_to}
use Rattle.mono_gnf.proofs.Meaning.{stands_from}
use Rattle.mono_gnf.proofs.LineRuns.{Leads, Leads-on, reading-Leads}
use Rattle.mono_gnf.proofs.PrintedClauses.{state, Leads-clauses, read_header, are_clauses}
use Rattle.mono_gnf.proofs.PrintedTokens.{clause_lines, header_tokens, graph_lines, edge_lines, atom_lines, lines-append}
use Rattle.mono_gnf.proofs.PrintedForms.{Leads-graphs, Leads-edges, Leads-atoms}
use Rattle.mono_gnf.proofs.Remade.{bare, bared, with_done, made}

round_trip : (p : Instance) → IsInstance p → reading (printed p) ≡ Ok p
round_trip p h =
    let m = made p h in
    let lits = are_clauses p.vars p.clauses h.clauses in
    let with_graphs = bare p.vars (map bared p.graphs) in
    let with_edges = with_done p [] in
    let with_atoms = with_done p p.atoms in
    let gs = map graph_line p.graphs in
    let es = map edge_line (edges_up_to p (edges_total p)) in
    let xs = map (atom_line p) p.atoms in
    let cs = map clause_line p.clauses in
    let Q : Seen → Type 0 = λ t. (t.row ≡ []) × (t.problem ≡ p) in
    let from_clauses : (k : ℕ) → (t : Seen) × Leads k (state with_atoms [] 0) cs t × Q t = λ k.
    let run = Leads-clauses k with_atoms 0 p.clauses lits h.vars (omega (arith, h.few_clauses)) (omega (arith, h.few_literals)) in
    (state p [] run.0, run.1, (refl, refl)) in
    let from_atoms = λ (k : ℕ). Leads-on Q k (state with_edges [] 0) (state with_atoms [] 0) xs cs (Leads-atoms k p with_edges with_atoms 0 p.atoms m.atoms) from_clauses in
    let from_edges = λ (k : ℕ). Leads-on Q k (state with_graphs [] 0) (state with_edges [] 0) es (xs ++ cs) (Leads-edges k with_graphs with_edges 0 (edges_up_to p (edges_total p)) m.edges) from_atoms in
    let from_graphs = Leads-on Q 2 (state (bare p.vars []) [] 0) (state with_graphs [] 0) gs (es ++ (xs ++ cs)) (Leads-graphs 2 (bare p.vars []) with_graphs 0 p.graphs m.graphs) from_edges in
    let tokens : AreTokenLines (printed_lines p) = (
      header_tokens p (omega (arith, h.vars)) (omega (arith, h.few_clauses)),
      lines-append gs _ (graph_lines (bare p.vars []) with_graphs p.graphs m.graphs)
          (lines-append es _ (edge_lines with_graphs with_edges (edges_up_to p (edges_total p)) m.edges)
          (lines-append xs cs (atom_lines p with_edges with_atoms p.atoms m.atoms) (clause_lines p.vars p.clauses h.vars lits))),
    ) in
    reading-Leads (printed_lines p) from_graphs.0 tokens (state (bare p.vars []) [] 0, read_header p h.vars (omega (arith, h.few_clauses)), from_graphs.1) from_graphs.2.0 ∙ ap Ok from_graphs.2.1

pub printed_stands : (p : Instance) → IsInstance p → Stands (printed p) p
printed_stands p h = stands_from (printed p) p (round_trip p h)
