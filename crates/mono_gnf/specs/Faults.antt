-- The first fault of an input.
use Rattle.std.specs.Prelude.{ℕ, ◌+◌, Bool, not, ◌||◌, ◌==◌, nat_le, nat_lt, if◌then◌else◌, ℤ, List, [], ◌∷◌, ◌++◌, length, sum_by, Option, Some, None, option_map, is_some, Result, Ok, Err}
use Rattle.std.specs.Option.{option_or}
use Rattle.mono_base.specs.declared.limits.TheConstants.{MAX_VARS, MAX_GRAPHS, MAX_NODES, MAX_EDGES, MAX_ATOMS, MAX_CLAUSES, MAX_LITERALS}
use Rattle.mono_text.specs.Text.{token_lines}
use Rattle.mono_text.specs.Numbers.{signed, signed_within}
use Rattle.mono_text.specs.declared.number.NumberRefusal.{NumberRefusal}
use Rattle.mono_gnf.specs.declared.fault.GnfFault.{GnfFault}
use Rattle.mono_gnf.specs.declared.fault.GnfFault.TheVariants as fault
use Rattle.mono_gnf.specs.declared.statement.Statement.{Statement}
use Rattle.mono_gnf.specs.declared.statement.Statement.TheVariants as says
use Rattle.mono_gnf.specs.Statements.{number_fault_of, statement_of, has_ends, has_same_ends}
use Rattle.mono_gnf.specs.Lines.{is_number_line, is_word_line, numbers_of, is_zero, clauses_of, is_within_clause, literal_count, last_literal_line, statements_of}
use Rattle.mono_gnf.specs.Declarations.{headers, graphs, edges, atoms, nodes_named}

-- the fault of the first check that fails
abbrev pub first_failed : List (Bool × GnfFault) → Option GnfFault
first_failed [] = None
first_failed (check ∷ checks) = if check.0 then Some check.1 else first_failed checks

-- ---- number lines

-- a number more would be too many, a 0 by the clauses and any other by the literals
abbrev pub is_too_many : List ℤ → ℤ → Bool
is_too_many zs z = if is_zero z then nat_le MAX_CLAUSES (length (clauses_of zs)) else nat_le MAX_LITERALS (literal_count zs)

-- the fault of a token that is no number, or else the next check
abbrev pub or_refused : Result ℤ NumberRefusal → (ℤ → Option GnfFault) → Option GnfFault
or_refused (Err e) next = Some (number_fault_of e)
or_refused (Ok z) next = next z

-- the first fault among the tokens of a number line, behind the numbers so far
abbrev pub number_fault : List ℤ → List (List ℕ) → Option GnfFault
number_fault zs [] = None
number_fault zs (t ∷ ts) =
    or_refused (signed_within MAX_VARS (signed t))
    (λ z. option_or (first_failed ((is_too_many zs z, fault.TooMany) ∷ [])) (number_fault (zs ++ z ∷ []) ts))

-- ---- word lines

-- a check over the nodes of a graph that must be declared
abbrev pub over_graph : Option ℕ → (ℕ → Option GnfFault) → Option GnfFault
over_graph None check = Some fault.UnknownGraph
over_graph (Some nodes) check = check nodes

-- what a statement says that doesn't fit the statements before, the first check that fails
abbrev pub statement_fault : List Statement → Statement → Option GnfFault
statement_fault before (says.Header vars) =
    first_failed ((nat_lt 0 (length (headers before)), fault.SecondHeader) ∷ [])
statement_fault before (says.Graph id nodes) =
    first_failed (
    (is_some (nodes_named (graphs before) id), fault.DuplicateGraph)
    ∷ (nodes == 0, fault.NodeOutOfRange)
    ∷ (nat_le MAX_GRAPHS (length (graphs before)) || nat_lt MAX_NODES (sum_by (λ g. g.1) (graphs before) + nodes), fault.TooMany)
    ∷ [])
statement_fault before (says.Edge id from to var weight) =
    over_graph (nodes_named (graphs before) id) (λ nodes.
    first_failed (
    (nat_le nodes from || nat_le nodes to, fault.NodeOutOfRange)
    ∷ (var == 0, fault.BadVariable)
    ∷ (nat_le MAX_EDGES (length (edges before)), fault.TooMany)
    ∷ []))
statement_fault before (says.Atom id var predicate) =
    over_graph (nodes_named (graphs before) id) (λ nodes.
    first_failed (
    (not (has_ends nodes predicate), fault.NodeOutOfRange)
    ∷ (var == 0, fault.BadVariable)
    ∷ (has_same_ends predicate, fault.SameEnds)
    ∷ (nat_le MAX_ATOMS (length (atoms before)), fault.TooMany)
    ∷ []))

abbrev pub or_unread : Result Statement GnfFault → (Statement → Option GnfFault) → Option GnfFault
or_unread (Err f) next = Some f
or_unread (Ok statement) next = next statement

abbrev pub word_fault : List (List (List ℕ)) → List (List ℕ) → Option GnfFault
word_fault before line =
    if is_within_clause (numbers_of before) then Some fault.OpenClause
    else or_unread (statement_of line) (statement_fault (statements_of before))

-- ---- lines

-- the fault of a line, over the lines before it
abbrev pub line_fault : List (List (List ℕ)) → List (List ℕ) → Option GnfFault
line_fault before line =
    if is_number_line line then number_fault (numbers_of before) line
    else if is_word_line line then word_fault before line
    else None

-- the first line at fault, by its number, and its fault. A clause that is open at the end is the fault of its last line
abbrev pub fault_after : List (List (List ℕ)) → List (List (List ℕ)) → Option (ℕ × GnfFault)
fault_after before [] = if is_within_clause (numbers_of before) then Some (last_literal_line before, fault.UnfinishedClause) else None
fault_after before (line ∷ lines) =
    option_or (option_map (λ f. (length before + 1, f)) (line_fault before line)) (fault_after (before ++ line ∷ []) lines)

abbrev pub first_fault : List ℕ → Option (ℕ × GnfFault)
first_fault text = fault_after [] (token_lines text)
