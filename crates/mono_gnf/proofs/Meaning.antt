-- Reading line after line finds the first fault of the lines, or makes their problem.
use Rattle.std.proofs.Common.{◌≡◌, ℕ, ◌+◌, Bool, true, false, cond, ℤ, List, [], ◌∷◌, ◌++◌, length, fold, filter_map, Option, Some, None, Result, Ok, Err, refl, sym, ap, ◌∙◌, append_assoc, append-nil, arith, length-append}
use Rattle.std.specs.List.{enumerate_from, list_any, cons_option}
use Rattle.std.specs.Option.{option_map, option_or}
use Rattle.std.proofs.lemmas.List.Concat.{flat_map-append}
use Rattle.std.proofs.lemmas.List.Elements.{filter_map-append}
use Rattle.std.proofs.lemmas.List.Sums.{fold_push}
use Rattle.mono_text.specs.Text.{lines_of, token_lines}
use Rattle.mono_text.specs.Numbers.{signed}
use Rattle.mono_problem.specs.Instance.{Instance}
use Rattle.mono_gnf.specs.declared.fault.GnfFault.{GnfFault}
use Rattle.mono_gnf.specs.declared.fault.GnfFault.TheVariants as fault
use Rattle.mono_gnf.specs.declared.statement.Statement.{Statement}
use Rattle.mono_gnf.specs.declared.statement.Statement.TheVariants as says
use Rattle.mono_gnf.specs.Statements.{statement_of}
use Rattle.mono_gnf.specs.Lines.{is_number_token, line_numbers, numbers_of, is_literal, is_within_clause, last_literal_line, line_statement, statements_of}
use Rattle.mono_gnf.specs.Declarations.{EdgeLine, AtomLine, header_in, graph_in, edge_in, atom_in, headers, graphs, edges, atoms}
use Rattle.mono_gnf.specs.Faults.{number_fault, statement_fault, or_unread, word_fault, line_fault, fault_after, first_fault}
use Rattle.mono_gnf.specs.Stands.{Stands, instance_of}
use Rattle.mono_gnf.specs.Reading.{Seen, nothing_seen, put, is_comment, read_tokens, read_numbers, at_line, reading, outcome, ◌>>=◌}
use Rattle.mono_gnf.proofs.Problems.{enumerate_from-push}
use Rattle.mono_gnf.proofs.Agreement.{SameOutcome, SameOutcome-along, SameOutcome-weaker, one_check}
use Rattle.mono_gnf.proofs.Statements.{seen, IsSound, nothing_sound, header-said, graph-said, edge-said, atom-said}
use Rattle.mono_gnf.proofs.LineRuns.{read_all, read_lines-all}
use Rattle.mono_gnf.proofs.Numbers.{numbers-read}

-- ---- what is seen of statements and numbers

abbrev seen_said : List Statement → List ℤ → ℕ → Seen
seen_said said zs last = seen (headers said) (graphs said) (edges said) (atoms said) zs last

abbrev IsSoundSaid : List Statement → Type 0
IsSoundSaid said = IsSound (graphs said) (edges said) (atoms said)

abbrev Shows : List Statement → List ℤ → ℕ → Seen → Type 0
Shows said zs last s = (s ≡ seen_said said zs last) × IsSoundSaid said

moved : (hs hs' : List ℕ) (gs gs' : List (ℕ × ℕ)) (es es' : List EdgeLine) (xs xs' : List AtomLine) (zs : List ℤ) (last : ℕ) → hs' ≡ hs → gs' ≡ gs → es' ≡ es → xs' ≡ xs
    → (s : Seen) → (s ≡ seen hs gs es xs zs last) × IsSound gs es xs → (s ≡ seen hs' gs' es' xs' zs last) × IsSound gs' es' xs'
moved hs hs' gs gs' es es' xs xs' zs last a b c d s h = rw (a, b, c, d) h

said_moved : (said : List Statement) (st : Statement) (zs : List ℤ) (last : ℕ) (s : Seen)
    → (s ≡ seen (headers said ++ cons_option (header_in st) []) (graphs said ++ cons_option (graph_in st) []) (edges said ++ cons_option (edge_in st) []) (atoms said ++ cons_option (atom_in st) []) zs last)
    × IsSound (graphs said ++ cons_option (graph_in st) []) (edges said ++ cons_option (edge_in st) []) (atoms said ++ cons_option (atom_in st) [])
    → Shows (said ++ st ∷ []) zs last s
said_moved said st zs last s h =
    moved _ (headers (said ++ st ∷ [])) _ (graphs (said ++ st ∷ [])) _ (edges (said ++ st ∷ [])) _ (atoms (said ++ st ∷ [])) zs last
    (filter_map-append header_in said (st ∷ [])) (filter_map-append graph_in said (st ∷ [])) (filter_map-append edge_in said (st ∷ [])) (filter_map-append atom_in said (st ∷ [])) s h

-- a statement is put on what was said
statement_put : (said : List Statement) (zs : List ℤ) (last : ℕ) (st : Statement) → IsSoundSaid said → SameOutcome (Shows (said ++ st ∷ []) zs last) (statement_fault said st) (put (seen_said said zs last) st)
statement_put said zs last (says.Header v) sound =
    SameOutcome-weaker (λ s. s ≡ seen (headers said ++ v ∷ []) (graphs said) (edges said) (atoms said) zs last) (Shows (said ++ says.Header v ∷ []) zs last) (statement_fault said (says.Header v)) (put (seen_said said zs last) (says.Header v))
    (λ s h. said_moved said (says.Header v) zs last s
    (moved _ _ _ _ _ _ _ _ zs last refl (append-nil (graphs said)) (append-nil (edges said)) (append-nil (atoms said)) s (h, sound)))
    (header-said (headers said) (graphs said) (edges said) (atoms said) zs last v)
statement_put said zs last (says.Graph id nodes) sound =
    SameOutcome-weaker (λ s. (s ≡ seen (headers said) (graphs said ++ (id, nodes) ∷ []) (edges said) (atoms said) zs last) × IsSound (graphs said ++ (id, nodes) ∷ []) (edges said) (atoms said))
    (Shows (said ++ says.Graph id nodes ∷ []) zs last) (statement_fault said (says.Graph id nodes)) (put (seen_said said zs last) (says.Graph id nodes))
    (λ s h. said_moved said (says.Graph id nodes) zs last s
    (moved _ _ _ _ _ _ _ _ zs last (append-nil (headers said)) refl (append-nil (edges said)) (append-nil (atoms said)) s h))
    (graph-said (headers said) (graphs said) (edges said) (atoms said) zs last sound id nodes)
statement_put said zs last (says.Edge id from to var weight) sound =
    let e : EdgeLine = record { graph = id; from = from; to = to; var = var; weight = weight } in
    SameOutcome-weaker (λ s. (s ≡ seen (headers said) (graphs said) (edges said ++ e ∷ []) (atoms said) zs last) × IsSound (graphs said) (edges said ++ e ∷ []) (atoms said))
    (Shows (said ++ says.Edge id from to var weight ∷ []) zs last) (statement_fault said (says.Edge id from to var weight)) (put (seen_said said zs last) (says.Edge id from to var weight))
    (λ s h. said_moved said (says.Edge id from to var weight) zs last s
    (moved _ _ _ _ _ _ _ _ zs last (append-nil (headers said)) (append-nil (graphs said)) refl (append-nil (atoms said)) s h))
    (edge-said (headers said) (graphs said) (edges said) (atoms said) zs last sound e)
statement_put said zs last (says.Atom id var predicate) sound =
    let x : AtomLine = record { graph = id; var = var; predicate = predicate } in
    SameOutcome-weaker (λ s. (s ≡ seen (headers said) (graphs said) (edges said) (atoms said ++ x ∷ []) zs last) × IsSound (graphs said) (edges said) (atoms said ++ x ∷ []))
    (Shows (said ++ says.Atom id var predicate ∷ []) zs last) (statement_fault said (says.Atom id var predicate)) (put (seen_said said zs last) (says.Atom id var predicate))
    (λ s h. said_moved said (says.Atom id var predicate) zs last s
    (moved _ _ _ _ _ _ _ _ zs last (append-nil (headers said)) (append-nil (graphs said)) (append-nil (edges said)) refl s h))
    (atom-said (headers said) (graphs said) (edges said) (atoms said) zs last sound x)

-- ---- what is seen of lines

abbrev seen_of : List (List (List ℕ)) → Seen
seen_of lines = seen_said (statements_of lines) (numbers_of lines) (last_literal_line lines)

abbrev IsSoundOf : List (List (List ℕ)) → Type 0
IsSoundOf lines = IsSoundSaid (statements_of lines)

abbrev Next : List (List (List ℕ)) → List (List ℕ) → Seen → Type 0
Next before line s = Shows (statements_of (before ++ line ∷ [])) (numbers_of (before ++ line ∷ [])) (last_literal_line (before ++ line ∷ [])) s

-- a line that says this and has these numbers
shown : (before : List (List (List ℕ))) (line : List (List ℕ)) (o : Option Statement) (zs : List ℤ) → line_statement line ≡ o → line_numbers line ≡ zs
    → (s : Seen) → Shows (statements_of before ++ cons_option o []) (numbers_of before ++ zs) (cond (list_any is_literal zs) (length before + 1) (last_literal_line before)) s → Next before line s
shown before line o zs e k s h =
    let said : statements_of (before ++ line ∷ []) ≡ statements_of before ++ cons_option o [] = filter_map-append line_statement before (line ∷ []) ∙ ap (λ (o : Option Statement). statements_of before ++ cons_option o []) e in
    let numbers : numbers_of (before ++ line ∷ []) ≡ numbers_of before ++ zs = flat_map-append line_numbers before (line ∷ []) ∙ ap (λ (all : List ℤ). numbers_of before ++ all) (append-nil (line_numbers line) ∙ k) in
    let number : 1 + length before ≡ length before + 1 = omega arith in
    let last : last_literal_line (before ++ line ∷ []) ≡ cond (list_any is_literal zs) (length before + 1) (last_literal_line before) =
    ap (fold (λ (last : ℕ) (l : ℕ × List (List ℕ)). cond (list_any is_literal (line_numbers l.1)) l.0 last) 0) (enumerate_from-push 1 before line)
    ∙ (fold_push (λ (last : ℕ) (l : ℕ × List (List ℕ)). cond (list_any is_literal (line_numbers l.1)) l.0 last) 0 (enumerate_from 1 before) (1 + length before, line)
    ∙ (ap (λ (all : List ℤ). cond (list_any is_literal all) (1 + length before) (last_literal_line before)) k
    ∙ ap (λ (n : ℕ). cond (list_any is_literal zs) n (last_literal_line before)) number)) in
    rw (said, numbers, last) h

-- a line that is skipped leaves what is seen
skipped : (before : List (List (List ℕ))) (line : List (List ℕ)) → IsSoundOf before → line_statement line ≡ None → line_numbers line ≡ [] → Next before line (seen_of before)
skipped before line sound e k =
    shown before line None [] e k (seen_of before)
    (rw (append-nil (statements_of before), append-nil (numbers_of before)) (refl, sound))

-- ---- one line

abbrev Reads : List (List (List ℕ)) → List (List ℕ) → Type 0
Reads before line = SameOutcome (Next before line) (line_fault before line) (read_tokens (length before + 1) (seen_of before) line)

module _ (before : List (List (List ℕ))) (t : List ℕ) (ts : List (List ℕ)) (sound : IsSoundOf before) where
  reads_comment : is_comment t ≡ true → Reads before (t ∷ ts)
  reads_comment h =
      SameOutcome-along (Next before (t ∷ ts)) (line_fault before (t ∷ ts)) None (read_tokens (length before + 1) (seen_of before) (t ∷ ts)) (Ok (seen_of before))
      (rw h refl) (rw h refl)
      (skipped before (t ∷ ts) sound (rw h refl) (rw h refl))

  reads_numbers : is_comment t ≡ false → is_number_token t ≡ true → Reads before (t ∷ ts)
  reads_numbers h k =
      let read = numbers-read (headers (statements_of before)) (graphs (statements_of before)) (edges (statements_of before)) (atoms (statements_of before)) (length before + 1) (numbers_of before) (last_literal_line before) (t ∷ ts) in
      let fault : Option GnfFault = number_fault (numbers_of before) (t ∷ ts) in
      let step : Result Seen GnfFault = read_numbers (length before + 1) (seen_of before) (t ∷ ts) in
      SameOutcome-along (Next before (t ∷ ts)) (line_fault before (t ∷ ts)) fault (read_tokens (length before + 1) (seen_of before) (t ∷ ts)) step
      (rw (h, k) refl) (rw (h, k) refl)
      (SameOutcome-weaker _ (Next before (t ∷ ts)) fault step
      (λ s seen. shown before (t ∷ ts) None (filter_map signed (t ∷ ts)) (rw (h, k) refl) (rw (h, k) refl) s
      (rw (append-nil (statements_of before)) (seen, sound)))
      read)

  -- what a word line says, by how its text is read
  reads_statement : (r : Result Statement GnfFault) → statement_of (t ∷ ts) ≡ r → is_comment t ≡ false → is_number_token t ≡ false
      → SameOutcome (Next before (t ∷ ts)) (or_unread r (statement_fault (statements_of before))) (r >>= put (seen_of before))
  reads_statement (Err f) e h k = refl
  reads_statement (Ok st) e h k =
      SameOutcome-weaker (Shows (statements_of before ++ st ∷ []) (numbers_of before) (last_literal_line before)) (Next before (t ∷ ts)) (statement_fault (statements_of before) st) (put (seen_of before) st)
      (λ s seen. shown before (t ∷ ts) (Some st) [] (rw (h, k, e) refl) (rw (h, k) refl) s (rw (append-nil (numbers_of before)) seen))
      (statement_put (statements_of before) (numbers_of before) (last_literal_line before) st sound)

  reads_word : is_comment t ≡ false → is_number_token t ≡ false → Reads before (t ∷ ts)
  reads_word h k =
      SameOutcome-along (Next before (t ∷ ts)) (line_fault before (t ∷ ts)) (word_fault before (t ∷ ts)) (read_tokens (length before + 1) (seen_of before) (t ∷ ts))
      (cond (is_within_clause (numbers_of before)) (Err fault.OpenClause) (statement_of (t ∷ ts) >>= put (seen_of before)))
      (rw (h, k) refl) (rw (h, k) refl)
      (one_check (Next before (t ∷ ts)) (is_within_clause (numbers_of before)) fault.OpenClause (or_unread (statement_of (t ∷ ts)) (statement_fault (statements_of before))) (statement_of (t ∷ ts) >>= put (seen_of before))
      (λ closed. reads_statement (statement_of (t ∷ ts)) refl h k))

  reads_tokens : Reads before (t ∷ ts)
  reads_tokens =
      (elim (is_comment t) as (λ b. is_comment t ≡ b → Reads before (t ∷ ts)) [
        | true ↦ λ h. reads_comment h
        | false ↦ λ h. (elim (is_number_token t) as (λ b. is_number_token t ≡ b → Reads before (t ∷ ts)) [ true ↦ λ k. reads_numbers h k | false ↦ λ k. reads_word h k ]) refl
      ]) refl

reads_line : (before : List (List (List ℕ))) (line : List (List ℕ)) → IsSoundOf before → Reads before line
reads_line before [] sound = skipped before [] sound refl refl
reads_line before (t ∷ ts) sound = reads_tokens before t ts sound

-- ---- all lines

and_later : (Q : Seen → Type 0) (n : ℕ) (o : Option GnfFault) (r : Result Seen GnfFault) (later : Option (ℕ × GnfFault)) (more : Seen → Result Instance (ℕ × GnfFault)) (p : Instance)
    → SameOutcome Q o r → ((s : Seen) → Q s → more s ≡ outcome later p) → at_line n r more ≡ outcome (option_or (option_map (λ f. (n, f)) o) later) p
and_later Q n None (Ok s) later more p h k = k s h
and_later Q n None (Err g) later more p h k = absurd h
and_later Q n (Some f) (Ok s) later more p h k = absurd h
and_later Q n (Some f) (Err g) later more p h k = ap (λ (f : GnfFault). Err (n, f)) (sym h)

at_end : (open_now : Bool) (e : ℕ × GnfFault) (p : Instance) → cond open_now (Err e) (Ok p) ≡ outcome (cond open_now (Some e) None) p
at_end true e p = refl
at_end false e p = refl

lines_read : (before lines : List (List (List ℕ))) → IsSoundOf before → read_all (length before + 1) (seen_of before) lines ≡ outcome (fault_after before lines) (instance_of (before ++ lines))
lines_read before [] sound =
    at_end (is_within_clause (numbers_of before)) (last_literal_line before, fault.UnfinishedClause) (instance_of before)
    ∙ ap (λ (all : List (List (List ℕ))). outcome (fault_after before []) (instance_of all)) (sym (append-nil before))
lines_read before (l ∷ ls) sound =
    let next : List (List (List ℕ)) = before ++ l ∷ [] in
    let number : length next + 1 ≡ length before + 1 + 1 = omega (arith, length-append before (l ∷ [])) in
    and_later (Next before l) (length before + 1) (line_fault before l) (read_tokens (length before + 1) (seen_of before) l) (fault_after next ls) (λ s. read_all (length before + 1 + 1) s ls) (instance_of (before ++ l ∷ ls))
    (reads_line before l sound)
    (λ s h.
    ap (λ (s : Seen). read_all (length before + 1 + 1) s ls) h.0
    ∙ (ap (λ (n : ℕ). read_all n (seen_of next) ls) (sym number)
    ∙ (lines_read next ls h.1
    ∙ ap (λ (all : List (List (List ℕ))). outcome (fault_after next ls) (instance_of all)) (append_assoc before (l ∷ []) ls))))

pub reading-is : (text : List ℕ) → reading text ≡ outcome (first_fault text) (instance_of (token_lines text))
reading-is text = read_lines-all 1 nothing_seen (lines_of text) ∙ lines_read [] (token_lines text) nothing_sound

-- ---- what is read, in the words of first faults and problems

outcome-problem : (o : Option (ℕ × GnfFault)) (q p : Instance) → outcome o q ≡ Ok p → (o ≡ None) × (p ≡ q)
outcome-problem None q p h = (refl, cc)
outcome-problem (Some e) q p h = absurd cc

outcome-fault : (o : Option (ℕ × GnfFault)) (q : Instance) (e : ℕ × GnfFault) → outcome o q ≡ Err e → o ≡ Some e
outcome-fault None q e h = absurd cc
outcome-fault (Some d) q e h = cc

pub stands_from : (text : List ℕ) (p : Instance) → reading text ≡ Ok p → Stands text p
stands_from text p h = outcome-problem (first_fault text) (instance_of (token_lines text)) p (sym (reading-is text) ∙ h)

pub first_fault_from : (text : List ℕ) (line : ℕ) (f : GnfFault) → reading text ≡ Err (line, f) → first_fault text ≡ Some (line, f)
first_fault_from text line f h = outcome-fault (first_fault text) (instance_of (token_lines text)) (line, f) (sym (reading-is text) ∙ h)
