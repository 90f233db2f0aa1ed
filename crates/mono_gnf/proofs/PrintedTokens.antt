-- A printed form is made of tokens.
use Rattle.std.proofs.Common.{◌≡◌, ◌+◌, ℕ, ◌-◌, ◌<◌, ◌≤◌, ◌^◌, Bool, true, false, cond, not, ◌&&◌, List, [], ◌∷◌, ◌++◌, length, map, refl, arith, ℤ, pos, negsuc, ltb, codes, decimal}
use Rattle.mono_text.proofs.Spaced.{IsWord, IsToken, AreTokens, AreTokenLines}
use Rattle.mono_text.specs.Text.{is_blank, is_line_feed}
use Rattle.std.proofs.lemmas.Bool.{false≢true}
use Rattle.mono_text.proofs.Decimals.{token_decimal, token_signed}
use Rattle.mono_graph.specs.Digraph.{Digraph}
use Rattle.mono_graph.specs.declared.edge.Edge.{Edge}
use Rattle.mono_problem.specs.declared.atom.Atom.{Atom}
use Rattle.mono_problem.specs.declared.atom.Predicate.{Predicate}
use Rattle.mono_problem.specs.declared.atom.Predicate.TheVariants as kind
use Rattle.mono_problem.specs.Instance.{Instance, identity_at}
use Rattle.mono_problem.specs.Growth.{with_graph, with_edge, with_atom}
use Rattle.mono_gnf.specs.Printed.{header_line, graph_line, edge_line, atom_line, predicate_line, clause_line}
use Rattle.mono_gnf.proofs.PrintedClauses.{AreLits, AreClauses}
use Rattle.mono_gnf.proofs.PrintedForms.{AddsGraphs, AddsEdges, AddsAtoms, IsFitting, most_within, least_within, least_positive}
use Rattle.mono_base.specs.declared.limits.TheConstants.{MAX_VARS, MAX_BOUND}
use Rattle.mono_gnf.specs.Statements.{MAX_WIDE}

pub lines-append : (xs ys : List (List (List ℕ))) → AreTokenLines xs → AreTokenLines ys → AreTokenLines (xs ++ ys)
lines-append [] ys h k = k
lines-append (x ∷ xs) ys h k = (h.0, lines-append xs ys h.1 k)

pub AreSmall : List ℕ → Type 0
AreSmall [] = Unit {0}
AreSmall (n ∷ ns) = (n < 2 ^ 64) × AreSmall ns

decimals : (ns : List ℕ) → AreSmall ns → AreTokens (map decimal ns)
unfolding AreSmall
decimals [] h = tt
decimals (n ∷ ns) h = (token_decimal n h.0, decimals ns h.1)

clause_tokens : (vars : ℕ) (c : List ℤ) → vars ≤ MAX_VARS → AreLits vars c → AreTokens (clause_line c)
clause_tokens vars [] h lits = ((refl, refl, tt), tt)
clause_tokens vars (z ∷ zs) h lits = (token_signed z (omega (arith, lits.1)), clause_tokens vars zs h lits.2)

pub clause_lines : (vars : ℕ) (cs : List (List ℤ)) → vars ≤ MAX_VARS → AreClauses vars cs → AreTokenLines (map clause_line cs)
clause_lines vars [] h k = tt
clause_lines vars (c ∷ cs) h k = (clause_tokens vars c h k.0, clause_lines vars cs h k.1)

-- a word is a token, by a test
abbrev all_word : List ℕ → Bool
all_word [] = true
all_word (b ∷ bs) = not (is_blank b) && (not (is_line_feed b) && all_word bs)

word_from : (t : List ℕ) → all_word t ≡ true → IsWord t
word_from [] h = tt
word_from (b ∷ bs) h =
    (elim (is_blank b) as (λ x. is_blank b ≡ x → (not x && (not (is_line_feed b) && all_word bs)) ≡ true → IsWord (b ∷ bs)) [
      | true ↦ λ e k. absurd (false≢true k)
      | false ↦ λ e k.
          (elim (is_line_feed b) as (λ y. is_line_feed b ≡ y → (not y && all_word bs) ≡ true → IsWord (b ∷ bs)) [
            | true ↦ λ f l. absurd (false≢true l)
            | false ↦ λ f l. (e, f, word_from bs l)
          ]) refl k
    ]) refl h

abbrev is_token : List ℕ → Bool
is_token [] = false
is_token (b ∷ bs) = all_word (b ∷ bs)

token_from : (t : List ℕ) → is_token t ≡ true → IsToken t
token_from [] h = absurd (false≢true h)
token_from (b ∷ bs) h = word_from (b ∷ bs) h

pub header_tokens : (p : Instance) → p.vars < 2 ^ 64 → length p.clauses < 2 ^ 64 → AreTokens (header_line p)
unfolding AreSmall
header_tokens p h k = (token_from (codes "p") refl, (token_from (codes "gnf") refl, decimals (p.vars ∷ length p.clauses ∷ []) (h, (k, tt))))

pub graph_lines : (p q : Instance) (gs : List (ℕ × Digraph)) → AddsGraphs p gs q → AreTokenLines (map graph_line gs)
unfolding AreSmall
graph_lines p q [] h = tt
graph_lines p q (g ∷ gs) h =
    let nodes : g.1.nodes < 2 ^ 64 = omega (arith, h.0.room) in
    let edges : length g.1.edges < 2 ^ 64 = omega (arith, h.0.edges) in
    let identity : g.0 < 2 ^ 64 = omega (arith, h.0.identity) in
    ((token_from (codes "digraph") refl, (token_from (codes "int") refl, decimals (g.1.nodes ∷ length g.1.edges ∷ g.0 ∷ []) (nodes, (edges, (identity, tt))))), graph_lines (with_graph p g.0 g.1.nodes) q gs h.1)

pub edge_lines : (p q : Instance) (es : List (ℕ × Edge)) → AddsEdges p es q → AreTokenLines (map edge_line es)
unfolding AreSmall
edge_lines p q [] h = tt
edge_lines p q (e ∷ es) h =
    let can = h.1 in
    let id : e.0 < 2 ^ 64 = omega (arith, can.identity) in
    let from : e.1.from < 2 ^ 64 = omega (arith, can.from, can.nodes) in
    let to : e.1.to < 2 ^ 64 = omega (arith, can.to, can.nodes) in
    let var : e.1.var < 2 ^ 64 = omega (arith, can.var) in
    let weight : e.1.weight < 2 ^ 64 = omega (arith, can.weight) in
    ((token_from (codes "edge") refl, decimals (e.0 ∷ e.1.from ∷ e.1.to ∷ e.1.var ∷ e.1.weight ∷ []) (id, (from, (to, (var, (weight, tt)))))), edge_lines (with_edge p h.0 e.1) q es h.2)

walk_numbers : (a b c d : ℕ) → a ≤ MAX_WIDE → b ≤ MAX_WIDE → c ≤ MAX_WIDE → d ≤ MAX_VARS → (e : ℕ) → e ≤ MAX_BOUND + 1 → AreTokens (map decimal (a ∷ b ∷ c ∷ d ∷ e ∷ []))
unfolding AreSmall
walk_numbers a b c d ha hb hc hd e he = decimals (a ∷ b ∷ c ∷ d ∷ e ∷ []) (omega arith, (omega arith, (omega arith, (omega arith, (omega arith, tt)))))

flow_tokens : (id s t x f : ℕ) (b : Bool) → id ≤ MAX_WIDE → s ≤ MAX_WIDE → t ≤ MAX_WIDE → x ≤ MAX_VARS → f ≤ MAX_BOUND + 1 → AreTokens (cond b (codes "maximum_flow_gt") (codes "maximum_flow_geq") ∷ decimal id ∷ decimal s ∷ decimal t ∷ decimal x ∷ decimal (cond b (f - 1) f) ∷ [])
flow_tokens id s t x f true a b c d e = (token_from (codes "maximum_flow_gt") refl, walk_numbers id s t x a b c d (f - 1) (omega arith))
flow_tokens id s t x f false a b c d e = (token_from (codes "maximum_flow_geq") refl, walk_numbers id s t x a b c d f e)

predicate_tokens : (id x : ℕ) (k : Predicate) → id ≤ MAX_WIDE → x ≤ MAX_VARS → IsFitting k → AreTokens (predicate_line id x k)
unfolding AreSmall
predicate_tokens id x (kind.Reach u v) a d h = (token_from (codes "reach") refl, decimals (id ∷ u ∷ v ∷ x ∷ []) (omega arith, (omega (arith, h.0), (omega (arith, h.1), (omega arith, tt)))))
predicate_tokens id x (kind.Steps u v (pos k)) a d h = (token_from (codes "distance_leq") refl, walk_numbers id u v x a h.0 h.1 d k (omega (arith, most_within k h.2)))
predicate_tokens id x (kind.Steps u v (negsuc k)) a d h = (token_from (codes "distance_lt") refl, walk_numbers id u v x a h.0 h.1 d 0 (omega arith))
predicate_tokens id x (kind.Distance u v (pos k)) a d h = (token_from (codes "weighted_distance_leq") refl, walk_numbers id u v x a h.0 h.1 d k (omega (arith, most_within k h.2)))
predicate_tokens id x (kind.Distance u v (negsuc k)) a d h = (token_from (codes "weighted_distance_lt") refl, walk_numbers id u v x a h.0 h.1 d 0 (omega arith))
predicate_tokens id x (kind.Flow s t (pos f)) a d h = flow_tokens id s t x f (ltb MAX_BOUND f) a h.0 h.1 d (least_within f h.2)
predicate_tokens id x (kind.Flow s t (negsuc f)) a d h = absurd (least_positive f h.2)
predicate_tokens id x (kind.Tree (pos k)) a d h = (token_from (codes "mst_weight_leq") refl, decimals (id ∷ x ∷ k ∷ []) (omega arith, (omega arith, (omega (arith, most_within k h), tt))))
predicate_tokens id x (kind.Tree (negsuc k)) a d h = (token_from (codes "mst_weight_lt") refl, decimals (id ∷ x ∷ 0 ∷ []) (omega arith, (omega arith, (omega arith, tt))))
predicate_tokens id x kind.Acyclic a d h = (token_from (codes "acyclic") refl, decimals (id ∷ x ∷ []) (omega arith, (omega arith, tt)))

pub atom_lines : (w p q : Instance) (xs : List Atom) → AddsAtoms w p xs q → AreTokenLines (map (atom_line w) xs)
atom_lines w p q [] h = tt
atom_lines w p q (x ∷ xs) h = (predicate_tokens (identity_at w x.graph) x.var x.predicate h.0.identity h.0.var h.0.bounded, atom_lines w (with_atom p x) q xs h.1)
