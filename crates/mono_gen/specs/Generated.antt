-- The text of a generated input.
use Rattle.std.specs.Prelude.{ℕ, ◌+◌, ◌-◌, ◌*◌, ◌%◌, Bool, ◌&&◌, ◌==◌, if◌then◌else◌, ℤ, pos, neg_ℤ, List, [], ◌∷◌, ◌++◌, length, get_or, codes}
use Rattle.rand_pcg.specs.Lcg.{Lcg}
use Rattle.mono_gen.specs.Joined.{joined}
use Rattle.mono_gen.specs.Draws.{seeded, after, draw}
use Rattle.mono_gen.specs.Board.{edges_of, edge_count}
use Rattle.mono_gen.specs.Lines.{line, clause}
use Rattle.mono_gen.specs.declared.kind.GenKind.{GenKind}
use Rattle.mono_gen.specs.declared.kind.GenKind.TheVariants as kind

-- ---- graph

-- the header with the numbers of variables and clauses, and the board as graph 0
abbrev pub board_line : ℕ → List ℕ
board_line n = line (codes "digraph int") ((n * n) ∷ edge_count n ∷ 0 ∷ [])

abbrev pub head_text : ℕ → ℕ → ℕ → List ℕ
head_text n vars clauses = line (codes "p gnf") (vars ∷ clauses ∷ []) ++ board_line n

-- the line of the edge at a place from 0: its variable is the place + 1, and its weight is 1 and a draw below 9, the
-- weights being drawn one after the other from the generator g
abbrev pub edge_text : List (ℕ × ℕ) → Lcg → ℕ → List ℕ
edge_text edges g k =
    line (codes "edge") (0 ∷ (get_or edges k (0, 0)).0 ∷ (get_or edges k (0, 0)).1 ∷ (k + 1) ∷ (1 + draw 9 (after k g)) ∷ [])

abbrev pub edges_text : List (ℕ × ℕ) → Lcg → List ℕ
edges_text edges g = joined (edge_text edges g) (length edges)

-- the generator behind the weights
abbrev pub behind_weights : ℕ → Lcg → Lcg
behind_weights n g = after (length (edges_of n)) g

-- ---- predicates

-- a walk from the first to the last node
abbrev pub walk_line : ℕ → List ℕ
walk_line n = line (codes "reach") (0 ∷ 0 ∷ (n * n - 1) ∷ (edge_count n + 1) ∷ [])

-- a walk from the last column of the first row to the first column of the last
abbrev pub cross_line : ℕ → List ℕ
cross_line n = line (codes "reach") (0 ∷ (n - 1) ∷ (n * n - n) ∷ (edge_count n + 2) ∷ [])

-- a flow of 2 from the first to the last node
abbrev pub flow_line : ℕ → List ℕ
flow_line n = line (codes "maximum_flow_geq") (0 ∷ 0 ∷ (n * n - 1) ∷ (edge_count n + 3) ∷ 2 ∷ [])

-- ---- grid: walks and a flow that all edges together allow, and random clauses

-- a variable of one of the edges, and its sign: negative where the draw behind it is 1
abbrev pub drawn_literal : ℕ → Lcg → ℤ
drawn_literal edges g = if draw 2 (after 1 g) == 1 then neg_ℤ (pos (1 + draw edges g)) else pos (1 + draw edges g)

-- a positive literal, and two with drawn signs: five draws; repeats are kept
abbrev pub drawn_clause : ℕ → Lcg → List ℤ
drawn_clause edges g = pos (1 + draw edges g) ∷ drawn_literal edges (after 1 g) ∷ drawn_literal edges (after 3 g) ∷ []

abbrev pub drawn_clauses : ℕ → Lcg → ℕ → List ℕ
drawn_clauses edges g count = joined (λ k. clause (drawn_clause edges (after (5 * k) g))) count

-- each of the three predicates is a clause, and the other clauses are drawn
abbrev pub grid_text : ℕ → Lcg → List ℕ
grid_text n g =
    head_text n (edge_count n + 3) (4 * n * n)
    ++ edges_text (edges_of n) g
    ++ walk_line n
    ++ cross_line n
    ++ flow_line n
    ++ clause (pos (edge_count n + 1) ∷ [])
    ++ clause (pos (edge_count n + 2) ∷ [])
    ++ clause (pos (edge_count n + 3) ∷ [])
    ++ drawn_clauses (edge_count n) (behind_weights n g) (4 * n * n - 3)

-- ---- wall: a walk from the first to the last node, and a column that no edge to the right leads out of

-- the column q that is walled off on its right
abbrev pub walled_column : ℕ → Lcg → ℕ
walled_column n g = draw (n - 1) (behind_weights n g)

-- an edge from column q to column q + 1
abbrev pub leads_out : ℕ → ℕ → ℕ × ℕ → Bool
leads_out n q e = e.0 % n == q && e.1 % n == q + 1

-- the clause of the edge at a place, where it leads out: it is absent
abbrev pub wall_clause : ℕ → ℕ → List (ℕ × ℕ) → ℕ → List ℕ
wall_clause n q edges k = if leads_out n q (get_or edges k (0, 0)) then clause (neg_ℤ (pos (k + 1)) ∷ []) else []

abbrev pub wall_clauses : ℕ → ℕ → List (ℕ × ℕ) → List ℕ
wall_clauses n q edges = joined (wall_clause n q edges) (length edges)

abbrev pub wall_text : ℕ → Lcg → List ℕ
wall_text n g =
    head_text n (edge_count n + 1) (n + 1)
    ++ edges_text (edges_of n) g
    ++ walk_line n
    ++ clause (pos (edge_count n + 1) ∷ [])
    ++ wall_clauses n (walled_column n g) (edges_of n)

-- ---- the whole

-- the text of the input of a kind, a size from 2 to 100 and a seed
abbrev pub generated : GenKind → ℕ → ℕ → List ℕ
generated kind.Grid n seed = grid_text n (seeded seed)
generated kind.Wall n seed = wall_text n (seeded seed)
