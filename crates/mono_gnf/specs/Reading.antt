-- Reading an input, line after line: the working form of what a text stands for.
use Rattle.std.specs.Prelude.{ℕ, ◌+◌, Bool, true, false, not, ◌||◌, ◌==◌, nat_le, nat_lt, if◌then◌else◌, ℤ, pos, List, [], ◌∷◌, ◌++◌, length, Option, Some, None, is_some, Result, Ok, Err}
use Rattle.std.specs.Ordering.{int_eq}
use Rattle.mono_base.specs.declared.limits.TheConstants.{MAX_VARS, MAX_GRAPHS, MAX_NODES, MAX_EDGES, MAX_ATOMS, MAX_CLAUSES, MAX_LITERALS}
use Rattle.mono_text.specs.Text.{lines_of, tokens_of, numbered_from}
use Rattle.mono_text.specs.Numbers.{signed, signed_within}
use Rattle.mono_text.specs.declared.number.NumberRefusal.{NumberRefusal}
use Rattle.mono_problem.specs.declared.atom.Predicate.{Predicate}
use Rattle.mono_problem.specs.Instance.{Instance, graph_at, place_named, nodes_total, edges_total, literals_total}
use Rattle.mono_problem.specs.Growth.{nothing, raised, with_graph, with_edge, with_atom, with_clause}
use Rattle.mono_gnf.specs.declared.fault.GnfFault.{GnfFault}
use Rattle.mono_gnf.specs.declared.fault.GnfFault.TheVariants as fault
use Rattle.mono_gnf.specs.declared.statement.Statement.{Statement}
use Rattle.mono_gnf.specs.declared.statement.Statement.TheVariants as says
use Rattle.mono_gnf.specs.Statements.{statement_of}
pub use Rattle.mono_text.specs.Text.{is_comment}
pub use Rattle.mono_gnf.specs.Statements.{has_ends, has_same_ends, number_of}
pub use Rattle.mono_gnf.specs.Lines.{is_number_token}

-- what the lines so far say: a problem, the literals of the open clause, the number of the last line that has a literal,
-- and whether there was a header
pub record Seen : Type 0 where
  pub problem : Instance
  pub row : List ℤ
  pub last : ℕ
  pub header : Bool

abbrev pub nothing_seen : Seen
nothing_seen = record { problem = nothing; row = []; last = 0; header = false }

-- the checks of each form that look at the lines before, in their order, and what the form adds
abbrev pub put_header : Seen → ℕ → Result Seen GnfFault
put_header s vars =
    if s.header then Err fault.SecondHeader
    else Ok (record s { problem = raised s.problem vars; header = true })

abbrev pub put_graph : Seen → ℕ → ℕ → Result Seen GnfFault
put_graph s id nodes =
    if is_some (place_named s.problem.graphs id) then Err fault.DuplicateGraph
    else if nodes == 0 then Err fault.NodeOutOfRange
    else if nat_le MAX_GRAPHS (length s.problem.graphs) || nat_lt MAX_NODES (nodes_total s.problem + nodes) then Err fault.TooMany
    else Ok (record s { problem = with_graph s.problem id nodes })

-- a form that names a graph
abbrev pub at_graph : Option ℕ → (ℕ → Result Seen GnfFault) → Result Seen GnfFault
at_graph None f = Err fault.UnknownGraph
at_graph (Some place) f = f place

abbrev pub put_edge_at : Seen → ℕ → ℕ → ℕ → ℕ → ℕ → Result Seen GnfFault
put_edge_at s place from to var weight =
    if nat_le (graph_at s.problem place).nodes from || nat_le (graph_at s.problem place).nodes to then Err fault.NodeOutOfRange
    else if var == 0 then Err fault.BadVariable
    else if nat_le MAX_EDGES (edges_total s.problem) then Err fault.TooMany
    else Ok (record s { problem = with_edge s.problem place (record { number = edges_total s.problem + 1; from = from; to = to; var = var; weight = weight }) })

abbrev pub put_edge : Seen → ℕ → ℕ → ℕ → ℕ → ℕ → Result Seen GnfFault
put_edge s id from to var weight = at_graph (place_named s.problem.graphs id) (λ place. put_edge_at s place from to var weight)

abbrev pub put_atom_at : Seen → ℕ → ℕ → Predicate → Result Seen GnfFault
put_atom_at s place var predicate =
    if not (has_ends (graph_at s.problem place).nodes predicate) then Err fault.NodeOutOfRange
    else if var == 0 then Err fault.BadVariable
    else if has_same_ends predicate then Err fault.SameEnds
    else if nat_le MAX_ATOMS (length s.problem.atoms) then Err fault.TooMany
    else Ok (record s { problem = with_atom s.problem (record { number = length s.problem.atoms + 1; graph = place; var = var; predicate = predicate }) })

abbrev pub put_atom : Seen → ℕ → ℕ → Predicate → Result Seen GnfFault
put_atom s id var predicate = at_graph (place_named s.problem.graphs id) (λ place. put_atom_at s place var predicate)

abbrev pub put : Seen → Statement → Result Seen GnfFault
put s (says.Header vars) = put_header s vars
put s (says.Graph id nodes) = put_graph s id nodes
put s (says.Edge id from to var weight) = put_edge s id from to var weight
put s (says.Atom id var predicate) = put_atom s id var predicate

-- a number of a number line: a 0 ends the clause
abbrev pub put_number : ℕ → Seen → ℤ → Result Seen GnfFault
put_number n s z =
    if int_eq z (pos 0) then
    if nat_le MAX_CLAUSES (length s.problem.clauses) then Err fault.TooMany
    else Ok (record s { problem = with_clause s.problem s.row; row = [] })
    else if nat_le MAX_LITERALS (literals_total s.problem + length s.row) then Err fault.TooMany
    else Ok (record s { row = s.row ++ z ∷ []; last = n })

-- the step after, where there was no fault
infixl 10 ◌>>=◌
abbrev pub ◌>>=◌ : {A B : Type 0} → Result A GnfFault → (A → Result B GnfFault) → Result B GnfFault
(Ok x) >>= f = f x
(Err e) >>= f = Err e

-- a number as it was read
abbrev pub put_read : ℕ → Seen → Result ℤ NumberRefusal → Result Seen GnfFault
put_read n s r = number_of r >>= put_number n s

unfoldable pub read_number : ℕ → Seen → List ℕ → Result Seen GnfFault
read_number n s t = put_read n s (signed_within MAX_VARS (signed t))

abbrev pub read_numbers : ℕ → Seen → List (List ℕ) → Result Seen GnfFault
read_numbers n s [] = Ok s
read_numbers n s (t ∷ ts) = read_number n s t >>= (λ next. read_numbers n next ts)

abbrev pub is_open : Seen → Bool
is_open s = not (length s.row == 0)

-- the line of number n
abbrev pub read_tokens : ℕ → Seen → List (List ℕ) → Result Seen GnfFault
read_tokens n s [] = Ok s
read_tokens n s (t ∷ ts) =
    if is_comment t then Ok s
    else if is_number_token t then read_numbers n s (t ∷ ts)
    else if is_open s then Err fault.OpenClause
    else statement_of (t ∷ ts) >>= put s

-- the number of a line beside its fault
abbrev pub at_line : ℕ → Result Seen GnfFault → (Seen → Result Instance (ℕ × GnfFault)) → Result Instance (ℕ × GnfFault)
at_line n (Ok s) more = more s
at_line n (Err f) more = Err (n, f)

-- the problem that the numbered lines make of what was seen, or the first fault
abbrev pub read_lines : Seen → List (ℕ × List ℕ) → Result Instance (ℕ × GnfFault)
read_lines s [] = if is_open s then Err (s.last, fault.UnfinishedClause) else Ok s.problem
read_lines s (line ∷ lines) = at_line line.0 (read_tokens line.0 s (tokens_of line.1)) (λ next. read_lines next lines)

abbrev pub reading : List ℕ → Result Instance (ℕ × GnfFault)
reading text = read_lines nothing_seen (numbered_from 1 (lines_of text))

-- what is read, where the first fault and the problem are known
abbrev pub outcome : Option (ℕ × GnfFault) → Instance → Result Instance (ℕ × GnfFault)
outcome None p = Ok p
outcome (Some e) p = Err e
