-- The problem that is read is well-formed: each line keeps it so.
use Rattle.std.proofs.Common.{◌≡◌, ◌≢◌, ℕ, zero, suc, ◌+◌, ◌<◌, ◌≤◌, Bool, true, false, cond, List, [], ◌∷◌, ◌++◌, length, length-append, map, max, Option, Some, None, Result, Ok, Err, All, refl, ap, sym, subst, ◌∙◌, arith, ℤ, pos, negsuc, nat_abs, ◌==◌, ◌||◌}
use Rattle.std.specs.Prelude.{not, ◌&&◌, nat_le, nat_lt, is_some}
use Rattle.std.specs.Ordering.{int_eq}
use Rattle.std.proofs.lemmas.Bool.{and_parts}
use Rattle.std.proofs.lemmas.Bool.Decides.{nat_tests}
use Rattle.std.proofs.lemmas.List.Sums.{sum_by_push}
use Rattle.std.proofs.lemmas.List.Quantifiers.{position-Some}
use Rattle.std.proofs.lemmas.List.Elements.{All-nil, All-cons, All-push, All-head, All-tail}
use Rattle.mono_text.specs.Text.{lines_of, numbered_from, tokens_of, is_comment}
use Rattle.mono_text.specs.Numbers.{signed, signed_within}
use Rattle.mono_text.specs.declared.number.NumberRefusal.TheVariants as refusal
use Rattle.mono_graph.specs.declared.edge.Edge.{Edge}
use Rattle.mono_graph.specs.Digraph.{Digraph}
use Rattle.mono_problem.specs.declared.atom.Predicate.{Predicate}
use Rattle.mono_problem.specs.declared.atom.Predicate.TheVariants as kind
use Rattle.mono_problem.specs.Instance.{Instance, graph_at, place_named, nodes_total, edges_total, literals_total}
use Rattle.mono_problem.specs.WellFormed.{IsInstance, IsOver}
use Rattle.mono_base.specs.Literal.{IsLitWithin}
use Rattle.mono_problem.specs.Growth.{with_graph, with_edge, with_atom, with_clause, greatest_var}
use Rattle.mono_problem.proofs.Wider.{IsInstance-wider, IsInstance-atom, IsInstance-clause}
use Rattle.mono_problem.proofs.Declared.{IsInstance-graph}
use Rattle.mono_problem.proofs.Added.{IsInstance-edge}
use Rattle.mono_gnf.specs.declared.fault.GnfFault.{GnfFault}
use Rattle.mono_gnf.specs.declared.fault.GnfFault.TheVariants as fault
use Rattle.mono_gnf.specs.declared.statement.Statement.{Statement}
use Rattle.mono_gnf.specs.declared.statement.Statement.TheVariants as says
use Rattle.mono_gnf.specs.Statements.{statement_of, number_of, has_ends, has_same_ends}
use Rattle.mono_gnf.specs.Lines.{is_number_token}
use Rattle.mono_gnf.specs.Within.{IsWithin, IsBounded}
use Rattle.mono_gnf.specs.Reading.{Seen, nothing_seen, put_header, put_graph, put_edge_at, put_atom_at, at_graph, put, put_number, read_number, read_numbers, is_open, read_tokens, at_line, read_lines, reading, ◌>>=◌}
use Rattle.mono_gnf.specs.Stands.{Stands}
use Rattle.mono_gnf.proofs.Meaning.{reading-is}
use Rattle.mono_gnf.proofs.FieldLimits.{statement_within}
use Rattle.mono_base.specs.declared.limits.TheConstants.{MAX_VARS, MAX_NODES, MAX_EDGES, MAX_GRAPHS, MAX_ATOMS, MAX_CLAUSES, MAX_LITERALS}

-- what the lines so far say is well-formed, and the open clause can be added
pub record IsSound (s : Seen) : Type 0 where
  pub problem : IsInstance s.problem
  pub lits : All (IsLitWithin MAX_VARS) s.row
  pub room : literals_total s.problem + length s.row ≤ MAX_LITERALS

-- ---- steps that found no fault

passes : (b : Bool) (e : GnfFault) (r : Result Seen GnfFault) (t : Seen) → cond b (Err e) r ≡ Ok t → (b ≡ false) × (r ≡ Ok t)
passes true e r t h = absurd cc
passes false e r t h = (refl, h)

then_ok : {A : Type 0} (r : Result A GnfFault) (f : A → Result Seen GnfFault) (t : Seen) → (r >>= f) ≡ Ok t → (x : A) × (r ≡ Ok x) × (f x ≡ Ok t)
then_ok (Ok x) f t h = (x, refl, h)
then_ok (Err e) f t h = absurd cc

at_known : (o : Option ℕ) (f : ℕ → Result Seen GnfFault) (t : Seen) → at_graph o f ≡ Ok t → (k : ℕ) × (o ≡ Some k) × (f k ≡ Ok t)
at_known None f t h = absurd cc
at_known (Some k) f t h = (k, refl, h)

ok_is : (s t : Seen) → ◌≡◌ {A = Result Seen GnfFault} (Ok s) (Ok t) → s ≡ t
ok_is s t h = cc

-- the problem grows, and the open clause stays
grown : (s : Seen) (p : Instance) → IsSound s → IsInstance p → literals_total p ≡ literals_total s.problem → IsSound (record s { problem = p })
grown s p h good same = record { problem = good; lits = h.lits; room = omega (arith, h.room, same) }

length_names : (gs : List (ℕ × Digraph)) → length (map (λ (g : ℕ × Digraph). g.0) gs) ≡ length gs
length_names [] = refl
length_names (g ∷ gs) = ap suc (length_names gs)

named_low : (p : Instance) (id k : ℕ) → place_named p.graphs id ≡ Some k → k < length p.graphs
named_low p id k h =
    let first = position-Some (λ (j : ℕ). id == j) (map (λ (g : ℕ × Digraph). g.0) p.graphs) k 0 h in
    omega (arith, first.0, length_names p.graphs)

not_some : (o : Option ℕ) → is_some o ≡ false → o ≡ None
not_some None h = refl
not_some (Some k) h = absurd cc

neither : (a b : Bool) → (a || b) ≡ false → (a ≡ false) × (b ≡ false)
neither true b e = absurd cc
neither false b e = (refl, e)

-- ---- the forms

header_sound : (s t : Seen) (vars : ℕ) → IsSound s → vars ≤ MAX_VARS → put_header s vars ≡ Ok t → IsSound t
header_sound s t vars h low e =
    let step = passes s.header fault.SecondHeader _ t e in
    let good = IsInstance-wider s.problem (max s.problem.vars vars) (omega arith) (omega (arith, h.problem.vars)) h.problem in
    subst IsSound (ok_is _ t step.1) (record { problem = good; lits = h.lits; room = h.room })

graph_sound : (s t : Seen) (id nodes : ℕ) → IsSound s → IsWithin (says.Graph id nodes) → put_graph s id nodes ≡ Ok t → IsSound t
graph_sound s t id nodes h low e =
    let unknown = passes (is_some (place_named s.problem.graphs id)) fault.DuplicateGraph _ t e in
    let some = passes (nodes == 0) fault.NodeOutOfRange _ t unknown.1 in
    let room = passes (nat_le MAX_GRAPHS (length s.problem.graphs) || nat_lt MAX_NODES (nodes_total s.problem + nodes)) fault.TooMany _ t some.1 in
    let few = neither (nat_le MAX_GRAPHS (length s.problem.graphs)) (nat_lt MAX_NODES (nodes_total s.problem + nodes)) room.0 in
    let least : 0 < nodes = grind (arith, nat_tests, some.0) in
    let graphs : length s.problem.graphs < MAX_GRAPHS = grind (arith, nat_tests, few.0) in
    let nodes_low : nodes_total s.problem + nodes ≤ MAX_NODES = grind (arith, nat_tests, few.1) in
    let good = IsInstance-graph s.problem id nodes h.problem (not_some (place_named s.problem.graphs id) unknown.0) (omega (arith, low.0)) least nodes_low graphs in
    subst IsSound (ok_is _ t room.1) (grown s (with_graph s.problem id nodes) h good refl)

edge_sound : (s t : Seen) (k from to var weight : ℕ) → IsSound s → k < length s.problem.graphs → IsWithin (says.Edge 0 from to var weight) → put_edge_at s k from to var weight ≡ Ok t → IsSound t
edge_sound s t k from to var weight h held low e =
    let n = (graph_at s.problem k).nodes in
    let ends = passes (nat_le n from || nat_le n to) fault.NodeOutOfRange _ t e in
    let both = neither (nat_le n from) (nat_le n to) ends.0 in
    let some = passes (var == 0) fault.BadVariable _ t ends.1 in
    let room = passes (nat_le MAX_EDGES (edges_total s.problem)) fault.TooMany _ t some.1 in
    let new : Edge = record { number = edges_total s.problem + 1; from = from; to = to; var = var; weight = weight } in
    let from_low : from < n = grind (arith, nat_tests, both.0) in
    let to_low : to < n = grind (arith, nat_tests, both.1) in
    let least : 0 < var = grind (arith, nat_tests, some.0) in
    let few : edges_total s.problem < MAX_EDGES = grind (arith, nat_tests, room.0) in
    let good = IsInstance-edge s.problem k new h.problem (record { graph = held; from = from_low; to = to_low; low = least; high = omega (arith, low.0); weight = omega (arith, low.1); number = refl; room = few }) in
    subst IsSound (ok_is _ t room.1) (grown s (with_edge s.problem k new) h good refl)

both_low : (n u v : ℕ) → (nat_lt u n && nat_lt v n) ≡ true → (u < n) × (v < n)
both_low n u v e =
    let parts = and_parts (nat_lt u n) (nat_lt v n) e in
    (grind (arith, nat_tests, parts.0), grind (arith, nat_tests, parts.1))

not_false : (b : Bool) → not b ≡ false → b ≡ true
not_false true e = refl
not_false false e = absurd cc

-- an atom whose ends are nodes of its graph, and differ where they have to
over : (p : Instance) (k : ℕ) (q : Predicate) → has_ends (graph_at p k).nodes q ≡ true → has_same_ends q ≡ false → IsBounded q → IsOver (graph_at p k) q
over p k (kind.Reach u v) ends apart b = both_low (graph_at p k).nodes u v ends
over p k (kind.Steps u v most) ends apart b = let low = both_low (graph_at p k).nodes u v ends in (low.0, low.1, b)
over p k (kind.Distance u v most) ends apart b = let low = both_low (graph_at p k).nodes u v ends in (low.0, low.1, b)
over p k (kind.Flow u v least) ends apart b =
    let low = both_low (graph_at p k).nodes u v ends in
    let other : u ≢ v = grind (arith, nat_tests, apart) in
    (low.0, low.1, other, b)
over p k (kind.Tree most) ends apart b = b
over p k kind.Acyclic ends apart b = tt

atom_sound : (s t : Seen) (k var : ℕ) (q : Predicate) → IsSound s → k < length s.problem.graphs → IsWithin (says.Atom 0 var q) → put_atom_at s k var q ≡ Ok t → IsSound t
atom_sound s t k var q h held low e =
    let p = s.problem in
    let ends = passes (not (has_ends (graph_at p k).nodes q)) fault.NodeOutOfRange _ t e in
    let some = passes (var == 0) fault.BadVariable _ t ends.1 in
    let apart = passes (has_same_ends q) fault.SameEnds _ t some.1 in
    let room = passes (nat_le MAX_ATOMS (length p.atoms)) fault.TooMany _ t apart.1 in
    let least : 0 < var = grind (arith, nat_tests, some.0) in
    let few : length p.atoms < MAX_ATOMS = grind (arith, nat_tests, room.0) in
    let wide = record p { vars = max p.vars var } in
    let wider = IsInstance-wider p (max p.vars var) (omega arith) (omega (arith, h.problem.vars, low.0)) h.problem in
    let good = IsInstance-atom wide (record { number = length p.atoms + 1; graph = k; var = var; predicate = q }) wider few (record { number = refl; graph = held; over = over p k q (not_false (has_ends (graph_at p k).nodes q) ends.0) apart.0 low.1; low = least; high = omega arith }) in
    subst IsSound (ok_is _ t room.1) (grown s (with_atom p (record { number = length p.atoms + 1; graph = k; var = var; predicate = q })) h good refl)

put_sound : (s t : Seen) (says : Statement) → IsSound s → IsWithin says → put s says ≡ Ok t → IsSound t
put_sound s t (says.Header vars) h low e = header_sound s t vars h low e
put_sound s t (says.Graph id nodes) h low e = graph_sound s t id nodes h low e
put_sound s t (says.Edge id from to var weight) h low e =
    let (k, named, step) = at_known (place_named s.problem.graphs id) _ t e in
    edge_sound s t k from to var weight h (named_low s.problem id k named) low step
put_sound s t (says.Atom id var q) h low e =
    let (k, named, step) = at_known (place_named s.problem.graphs id) _ t e in
    atom_sound s t k var q h (named_low s.problem id k named) low step

-- ---- numbers

var-up : (v : ℕ) (c : List ℤ) → v ≤ greatest_var v c
var-up v [] = omega arith
var-up v (z ∷ zs) = omega (arith, var-up (max v (nat_abs z)) zs)

var-within : (v : ℕ) (c : List ℤ) → v ≤ MAX_VARS → All (IsLitWithin MAX_VARS) c → greatest_var v c ≤ MAX_VARS
var-within v [] low h = low
var-within v (z ∷ zs) low h =
    let first = All-head (IsLitWithin MAX_VARS) z zs h in
    var-within (max v (nat_abs z)) zs (omega (arith, first.1)) (All-tail (IsLitWithin MAX_VARS) z zs h)

lits-within : (v : ℕ) (c : List ℤ) → All (IsLitWithin MAX_VARS) c → All (IsLitWithin (greatest_var v c)) c
lits-within v [] h = All-nil (IsLitWithin v)
lits-within v (z ∷ zs) h =
    let first = All-head (IsLitWithin MAX_VARS) z zs h in
    All-cons (IsLitWithin (greatest_var v (z ∷ zs))) z zs (first.0, omega (arith, var-up (max v (nat_abs z)) zs)) (lits-within (max v (nat_abs z)) zs (All-tail (IsLitWithin MAX_VARS) z zs h))

clause_sound : (s t : Seen) → IsSound s → length s.problem.clauses < MAX_CLAUSES → record s { problem = with_clause s.problem s.row; row = [] } ≡ t → IsSound t
clause_sound s t h few e =
    let p = s.problem in
    let v = greatest_var p.vars s.row in
    let wider = IsInstance-wider p v (var-up p.vars s.row) (omega (arith, var-within p.vars s.row (omega (arith, h.problem.vars)) h.lits)) h.problem in
    let good = IsInstance-clause (record p { vars = v }) s.row wider few (omega (arith, h.room)) (lits-within p.vars s.row h.lits) in
    subst IsSound e (record {
      problem = good;
      lits = All-nil (IsLitWithin MAX_VARS);
      room = omega (arith, h.room, sum_by_push (λ (c : List ℤ). length c) p.clauses s.row);
    })

literal_sound : (n : ℕ) (s t : Seen) (z : ℤ) → IsSound s → nat_abs z ≤ MAX_VARS → int_eq z (pos 0) ≡ false → literals_total s.problem + length s.row < MAX_LITERALS → record s { row = s.row ++ z ∷ []; last = n } ≡ t → IsSound t
literal_sound n s t z h low other few e =
    subst IsSound e (record {
      problem = h.problem;
      lits = All-push (IsLitWithin MAX_VARS) s.row z h.lits (positive z other, low);
      room = omega (arith, few, length-append s.row (z ∷ []));
    })
  where
    positive : (z : ℤ) → int_eq z (pos 0) ≡ false → 0 < nat_abs z
    positive (pos zero) e = absurd cc
    positive (pos (suc k)) e = omega arith
    positive (negsuc k) e = omega arith

number_sound : (n : ℕ) (s t : Seen) (z : ℤ) → IsSound s → nat_abs z ≤ MAX_VARS → put_number n s z ≡ Ok t → IsSound t
number_sound n s t z h low e = go (int_eq z (pos 0)) refl e where
  go : (b : Bool) → int_eq z (pos 0) ≡ b → cond b
      (cond (nat_le MAX_CLAUSES (length s.problem.clauses)) (Err fault.TooMany) (Ok (record s { problem = with_clause s.problem s.row; row = [] })))
      (cond (nat_le MAX_LITERALS (literals_total s.problem + length s.row)) (Err fault.TooMany) (Ok (record s { row = s.row ++ z ∷ []; last = n }))) ≡ Ok t → IsSound t
  go true test e =
      let room = passes (nat_le MAX_CLAUSES (length s.problem.clauses)) fault.TooMany _ t e in
      let few : length s.problem.clauses < MAX_CLAUSES = grind (arith, nat_tests, room.0) in
      clause_sound s t h few (ok_is _ t room.1)
  go false test e =
      let room = passes (nat_le MAX_LITERALS (literals_total s.problem + length s.row)) fault.TooMany _ t e in
      let few : literals_total s.problem + length s.row < MAX_LITERALS = grind (arith, nat_tests, room.0) in
      literal_sound n s t z h low test few (ok_is _ t room.1)

signed_low : (o : Option ℤ) (z : ℤ) → number_of (signed_within MAX_VARS o) ≡ Ok z → nat_abs z ≤ MAX_VARS
signed_low None z e = absurd cc
signed_low (Some y) z e = go (nat_lt MAX_VARS (nat_abs y)) refl e where
  go : (b : Bool) → nat_lt MAX_VARS (nat_abs y) ≡ b → number_of (cond b (Err refusal.TooLarge) (Ok y)) ≡ Ok z → nat_abs z ≤ MAX_VARS
  go true test e = absurd cc
  go false test e =
      let same : y ≡ z = cc in
      let low : nat_abs y ≤ MAX_VARS = grind (arith, nat_tests, test) in
      subst (λ z. nat_abs z ≤ MAX_VARS) same low

token_sound : (n : ℕ) (s t : Seen) (w : List ℕ) → IsSound s → read_number n s w ≡ Ok t → IsSound t
unfolding read_number
token_sound n s t w h e =
    let (z, is, step) = then_ok (number_of (signed_within MAX_VARS (signed w))) (put_number n s) t e in
    number_sound n s t z h (signed_low (signed w) z is) step

numbers_sound : (n : ℕ) (s t : Seen) (ws : List (List ℕ)) → IsSound s → read_numbers n s ws ≡ Ok t → IsSound t
numbers_sound n s t [] h e = subst IsSound (ok_is s t e) h
numbers_sound n s t (w ∷ ws) h e =
    let (next, is, more) = then_ok (read_number n s w) (λ next. read_numbers n next ws) t e in
    numbers_sound n next t ws (token_sound n s next w h is) more

-- ---- lines

line_sound : (n : ℕ) (s t : Seen) (line : List (List ℕ)) → IsSound s → read_tokens n s line ≡ Ok t → IsSound t
line_sound n s t [] h e = subst IsSound (ok_is s t e) h
line_sound n s t (w ∷ ws) h e = go (is_comment w) (is_number_token w) e where
  says_sound : (statement_of (w ∷ ws) >>= put s) ≡ Ok t → IsSound t
  says_sound e =
      let (st, is, step) = then_ok (statement_of (w ∷ ws)) (put s) t e in
      put_sound s t st h (statement_within (w ∷ ws) st is) step

  go : (a b : Bool) → cond a (Ok s) (cond b (read_numbers n s (w ∷ ws)) (cond (is_open s) (Err fault.OpenClause) (statement_of (w ∷ ws) >>= put s))) ≡ Ok t → IsSound t
  go true b e = subst IsSound (ok_is s t e) h
  go false true e = numbers_sound n s t (w ∷ ws) h e
  go false false e = says_sound (passes (is_open s) fault.OpenClause _ t e).1

ended : (s : Seen) (p : Instance) (b : Bool) → IsSound s → cond {A = Result Instance (ℕ × GnfFault)} b (Err (s.last, fault.UnfinishedClause)) (Ok s.problem) ≡ Ok p → IsInstance p
ended s p true h e = absurd cc
ended s p false h e = let same : s.problem ≡ p = cc in subst IsInstance same h.problem

after_line : (n : ℕ) (r : Result Seen GnfFault) (more : Seen → Result Instance (ℕ × GnfFault)) (p : Instance) → ((next : Seen) → r ≡ Ok next → more next ≡ Ok p → IsInstance p) → at_line n r more ≡ Ok p → IsInstance p
after_line n (Ok s) more p next e = next s refl e
after_line n (Err f) more p next e = absurd cc

lines_sound : (s : Seen) (lines : List (ℕ × List ℕ)) (p : Instance) → IsSound s → read_lines s lines ≡ Ok p → IsInstance p
lines_sound s [] p h e = ended s p (is_open s) h e
lines_sound s (line ∷ lines) p h e =
    after_line line.0 (read_tokens line.0 s (tokens_of line.1)) (λ next. read_lines next lines) p
    (λ next is more. lines_sound next lines p (line_sound line.0 s next (tokens_of line.1) h is) more) e

nothing_sound : IsSound nothing_seen
nothing_sound = record {
  problem = record {
    vars = omega arith;
    few_graphs = omega arith;
    few_nodes = omega arith;
    few_edges = omega arith;
    few_atoms = omega arith;
    few_clauses = omega arith;
    few_literals = omega arith;
    identities = λ k low. absurd (omega arith);
    graphs = All-nil _;
    numbers = λ n low high. absurd (omega arith);
    atoms = λ k d low. absurd (omega arith);
    clauses = All-nil _;
  };
  lits = All-nil (IsLitWithin MAX_VARS);
  room = omega arith;
}

pub read_well_formed : (text : List ℕ) (p : Instance) → reading text ≡ Ok p → IsInstance p
read_well_formed text p e = lines_sound nothing_seen (numbered_from 1 (lines_of text)) p nothing_sound e

pub stands_well_formed : (text : List ℕ) (p : Instance) → Stands text p → IsInstance p
stands_well_formed text p h = read_well_formed text p (reading-is text ∙ rw h.0 (ap Ok (sym h.1)))
