-- The problem of lists, as one item after the other comes.
use Rattle.std.proofs.Common.{◌≡◌, ℕ, zero, suc, ◌+◌, ◌==◌, max, true, false, cond, ℤ, nat_abs, List, [], ◌∷◌, ◌++◌, length, map, filter, flat_map, fold, get_or, set, refl, sym, ap, ◌∙◌, arith, append-nil, Option, Some, None, sum_by}
use Rattle.std.specs.List.{enumerate_from}
use Rattle.std.specs.Option.{unwrap_or}
use Rattle.std.proofs.lemmas.Bool.{ne_eqb, eq-eqb}
use Rattle.std.proofs.lemmas.List.{map-append}
use Rattle.std.proofs.lemmas.List.Concat.{flat_map-append}
use Rattle.std.proofs.lemmas.List.Elements.{filter-append}
use Rattle.std.proofs.lemmas.List.Sums.{fold-append, sum_by-cons}
use Rattle.mono_graph.specs.declared.edge.Edge.{Edge}
use Rattle.mono_graph.specs.Digraph.{Digraph}
use Rattle.mono_problem.specs.declared.atom.Atom.{Atom}
use Rattle.mono_problem.specs.Instance.{place_named, no_graph}
use Rattle.mono_problem.specs.Growth.{graph_with}
use Rattle.mono_problem.specs.Growth.{greatest_var}
use Rattle.mono_gnf.specs.Declarations.{EdgeLine, AtomLine, nodes_at}
use Rattle.mono_gnf.specs.Stands.{numbered_edge, numbered_atom, edges_named, declared_graph, greatest}
use Rattle.mono_gnf.proofs.Identities.{Lacks, IsOnlyAt, AreNamed, place_named-push}

pub enumerate_from-push : {A : Type 0} (n : ℕ) (xs : List A) (x : A) → enumerate_from n (xs ++ x ∷ []) ≡ enumerate_from n xs ++ (n + length xs, x) ∷ []
enumerate_from-push {A} n [] x = let e : n ≡ n + 0 = omega arith in ap (λ (k : ℕ). (k, x) ∷ []) e
enumerate_from-push {A} n (y ∷ ys) x =
    let e : n + 1 + length ys ≡ n + suc (length ys) = omega arith in
    ap (λ (l : List (ℕ × A)). (n, y) ∷ l) (enumerate_from-push (n + 1) ys x ∙ ap (λ (k : ℕ). enumerate_from (n + 1) ys ++ (k, x) ∷ []) e)

-- ---- the greatest number

max_from : (a : ℕ) (xs : List ℕ) → fold max a xs ≡ max a (greatest xs)
max_from a [] = omega arith
max_from a (x ∷ xs) =
    let here = max_from (max a x) xs in
    let rest = max_from (max 0 x) xs in
    omega (arith, here, rest)

pub greatest-append : (xs ys : List ℕ) → greatest (xs ++ ys) ≡ max (greatest xs) (greatest ys)
greatest-append xs ys = fold-append max 0 xs ys ∙ max_from (greatest xs) ys

pub greatest-push : (xs : List ℕ) (x : ℕ) → greatest (xs ++ x ∷ []) ≡ max (greatest xs) x
greatest-push xs x = fold-append max 0 xs (x ∷ [])

pub greatest-four : (a b c d : List ℕ) → greatest (a ++ b ++ c ++ d) ≡ max (max (max (greatest a) (greatest b)) (greatest c)) (greatest d)
greatest-four a b c d =
    greatest-append (a ++ b ++ c) d ∙ ap (λ m. max m (greatest d)) (greatest-append (a ++ b) c ∙ ap (λ m. max m (greatest c)) (greatest-append a b))

greatest_var-is : (v : ℕ) (c : List ℤ) → greatest_var v c ≡ max v (greatest (map nat_abs c))
greatest_var-is v [] = omega arith
greatest_var-is v (z ∷ zs) =
    let here = greatest_var-is (max v (nat_abs z)) zs in
    let rest = max_from (max 0 (nat_abs z)) (map nat_abs zs) in
    omega (arith, here, rest)

-- the variables of one clause more
pub greatest-clause : (cs : List (List ℤ)) (c : List ℤ) (v : ℕ) → greatest_var (max v (greatest (flat_map (λ (c : List ℤ). map nat_abs c) cs))) c ≡ max v (greatest (flat_map (λ (c : List ℤ). map nat_abs c) (cs ++ c ∷ [])))
greatest-clause cs c v =
    let one = greatest_var-is (max v (greatest (flat_map (λ (c : List ℤ). map nat_abs c) cs))) c in
    let split = ap greatest (flat_map-append (λ (c : List ℤ). map nat_abs c) cs (c ∷ [])) in
    let both = greatest-append (flat_map (λ (c : List ℤ). map nat_abs c) cs) (map nat_abs c ++ []) in
    let nil = ap greatest (append-nil (map nat_abs c)) in
    omega (arith, one, split, both, nil)

-- ---- graphs

pub names-graphs : (es : List EdgeLine) (gs : List (ℕ × ℕ)) → map (λ (g : ℕ × Digraph). g.0) (map (declared_graph es) gs) ≡ map (λ (g : ℕ × ℕ). g.0) gs
names-graphs es [] = refl
names-graphs es (g ∷ gs) = ap (λ (ids : List ℕ). g.0 ∷ ids) (names-graphs es gs)

pub length-graphs : (es : List EdgeLine) (gs : List (ℕ × ℕ)) → length (map (declared_graph es) gs) ≡ length gs
length-graphs es [] = refl
length-graphs es (g ∷ gs) = ap suc (length-graphs es gs)

pub nodes-graphs : (es : List EdgeLine) (gs : List (ℕ × ℕ)) → sum_by (λ (g : ℕ × Digraph). g.1.nodes) (map (declared_graph es) gs) ≡ sum_by (λ (g : ℕ × ℕ). g.1) gs
nodes-graphs es [] = refl
nodes-graphs es (g ∷ gs) =
    omega (arith, nodes-graphs es gs, sum_by-cons (λ (g : ℕ × Digraph). g.1.nodes) (declared_graph es g) (map (declared_graph es) gs), sum_by-cons (λ (g : ℕ × ℕ). g.1) g gs)

pub nodes_at-graphs : (es : List EdgeLine) (gs : List (ℕ × ℕ)) (k : ℕ) → (get_or (map (declared_graph es) gs) k no_graph).1.nodes ≡ nodes_at gs k
nodes_at-graphs es [] k = refl
nodes_at-graphs es (g ∷ gs) zero = refl
nodes_at-graphs es (g ∷ gs) (suc k) = nodes_at-graphs es gs k

-- ---- one edge more

edges_named-push : (es : List EdgeLine) (e : EdgeLine) (id : ℕ) → edges_named (es ++ e ∷ []) id ≡ edges_named es id ++ cond (e.graph == id) (numbered_edge (1 + length es, e) ∷ []) []
edges_named-push es e id =
    ap (λ (l : List (ℕ × EdgeLine)). map numbered_edge (filter (λ (l : ℕ × EdgeLine). l.1.graph == id) l)) (enumerate_from-push 1 es e)
    ∙ (ap (map numbered_edge) (filter-append (λ (l : ℕ × EdgeLine). l.1.graph == id) (enumerate_from 1 es) ((1 + length es, e) ∷ []))
    ∙ (map-append numbered_edge (filter (λ (l : ℕ × EdgeLine). l.1.graph == id) (enumerate_from 1 es)) _
    ∙ (elim (e.graph == id) as (λ b. edges_named es id ++ map numbered_edge (cond b ((1 + length es, e) ∷ []) []) ≡ edges_named es id ++ cond b (numbered_edge (1 + length es, e) ∷ []) []) [ true ↦ refl | false ↦ refl ])))

declared_graph-other : (es : List EdgeLine) (e : EdgeLine) (g : ℕ × ℕ) → (g.0 ≡ e.graph → ⊥) → declared_graph (es ++ e ∷ []) g ≡ declared_graph es g
declared_graph-other es e g apart =
    let test : (e.graph == g.0) ≡ false = ne_eqb e.graph g.0 (λ same. apart (sym same)) in
    ap (λ (es : List Edge). (g.0, record { nodes = g.1; edges = es })) (edges_named-push es e g.0 ∙ rw test (append-nil (edges_named es g.0)))

declared_graph-same : (es : List EdgeLine) (e : EdgeLine) (g : ℕ × ℕ) → g.0 ≡ e.graph → declared_graph (es ++ e ∷ []) g ≡ graph_with (declared_graph es g) (numbered_edge (1 + length es, e))
declared_graph-same es e g same =
    let test : (e.graph == g.0) ≡ true = eq-eqb e.graph g.0 (sym same) in
    ap (λ (es : List Edge). (g.0, record { nodes = g.1; edges = es })) (edges_named-push es e g.0 ∙ rw test refl)

graphs-others : (es : List EdgeLine) (e : EdgeLine) (gs : List (ℕ × ℕ)) → Lacks e.graph gs → map (declared_graph (es ++ e ∷ [])) gs ≡ map (declared_graph es) gs
graphs-others es e [] h = refl
graphs-others es e (g ∷ gs) h =
    ap (λ (x : ℕ × Digraph). x ∷ map (declared_graph (es ++ e ∷ [])) gs) (declared_graph-other es e g h.0)
    ∙ ap (λ (l : List (ℕ × Digraph)). declared_graph es g ∷ l) (graphs-others es e gs h.1)

pub graphs-edge : (es : List EdgeLine) (e : EdgeLine) (gs : List (ℕ × ℕ)) (k : ℕ) → IsOnlyAt e.graph k gs
    → map (declared_graph (es ++ e ∷ [])) gs ≡ set (map (declared_graph es) gs) k (graph_with (get_or (map (declared_graph es) gs) k no_graph) (numbered_edge (1 + length es, e)))
graphs-edge es e [] k at = absurd at
graphs-edge es e (g ∷ gs) zero at =
    ap (λ (x : ℕ × Digraph). x ∷ map (declared_graph (es ++ e ∷ [])) gs) (declared_graph-same es e g at.0)
    ∙ ap (λ (l : List (ℕ × Digraph)). graph_with (declared_graph es g) (numbered_edge (1 + length es, e)) ∷ l) (graphs-others es e gs at.1)
graphs-edge es e (g ∷ gs) (suc k) at =
    ap (λ (x : ℕ × Digraph). x ∷ map (declared_graph (es ++ e ∷ [])) gs) (declared_graph-other es e g at.0)
    ∙ ap (λ (l : List (ℕ × Digraph)). declared_graph es g ∷ l) (graphs-edge es e gs k at.1)

-- ---- one graph more

none_named : (n : ℕ) (gs : List (ℕ × ℕ)) (id : ℕ) (es : List EdgeLine) → place_named gs id ≡ None → AreNamed gs (map (λ (e : EdgeLine). e.graph) es) → filter (λ (l : ℕ × EdgeLine). l.1.graph == id) (enumerate_from n es) ≡ []
none_named n gs id [] absent h = refl
none_named n gs id (e ∷ es) absent h =
    let other : (e.graph == id) ≡ false = ne_eqb e.graph id (λ same. let here = sym (ap (place_named gs) same) ∙ h.0.1 in absurd (cc)) in
    rw other (none_named (n + 1) gs id es absent h.1)

pub graphs-graph : (es : List EdgeLine) (gs : List (ℕ × ℕ)) (id nodes : ℕ) → place_named gs id ≡ None → AreNamed gs (map (λ (e : EdgeLine). e.graph) es)
    → map (declared_graph es) (gs ++ (id, nodes) ∷ []) ≡ map (declared_graph es) gs ++ (id, record { nodes = nodes; edges = [] }) ∷ []
graphs-graph es gs id nodes absent named =
    map-append (declared_graph es) gs ((id, nodes) ∷ [])
    ∙ ap (λ (l : List (ℕ × EdgeLine)). map (declared_graph es) gs ++ (id, record { nodes = nodes; edges = map numbered_edge l }) ∷ []) (none_named 1 gs id es absent named)

pub atoms-graph : (n : ℕ) (gs : List (ℕ × ℕ)) (g : ℕ × ℕ) (xs : List AtomLine) → AreNamed gs (map (λ (x : AtomLine). x.graph) xs)
    → map (numbered_atom (gs ++ g ∷ [])) (enumerate_from n xs) ≡ map (numbered_atom gs) (enumerate_from n xs)
atoms-graph n gs g [] h = refl
atoms-graph n gs g (x ∷ xs) h =
    let same : place_named (gs ++ g ∷ []) x.graph ≡ place_named gs x.graph = place_named-push gs g x.graph h.0.0 h.0.1 ∙ sym h.0.1 in
    ap (λ (o : Option ℕ). record { number = n; graph = unwrap_or o 0; var = x.var; predicate = x.predicate } ∷ map (numbered_atom (gs ++ g ∷ [])) (enumerate_from (n + 1) xs)) same
    ∙ ap (λ (l : List Atom). numbered_atom gs (n, x) ∷ l) (atoms-graph (n + 1) gs g xs h.1)

-- ---- one predicate more

pub length-atoms : (n : ℕ) (gs : List (ℕ × ℕ)) (xs : List AtomLine) → length (map (numbered_atom gs) (enumerate_from n xs)) ≡ length xs
length-atoms n gs [] = refl
length-atoms n gs (x ∷ xs) = ap suc (length-atoms (n + 1) gs xs)

pub atoms-atom : (gs : List (ℕ × ℕ)) (xs : List AtomLine) (x : AtomLine) (k : ℕ) → place_named gs x.graph ≡ Some k
    → map (numbered_atom gs) (enumerate_from 1 (xs ++ x ∷ [])) ≡ map (numbered_atom gs) (enumerate_from 1 xs) ++ record { number = 1 + length xs; graph = k; var = x.var; predicate = x.predicate } ∷ []
atoms-atom gs xs x k found =
    ap (map (numbered_atom gs)) (enumerate_from-push 1 xs x)
    ∙ (map-append (numbered_atom gs) (enumerate_from 1 xs) ((1 + length xs, x) ∷ [])
    ∙ ap (λ (o : Option ℕ). map (numbered_atom gs) (enumerate_from 1 xs) ++ record { number = 1 + length xs; graph = unwrap_or o 0; var = x.var; predicate = x.predicate } ∷ []) found)
