-- The edges of a graph that a variable switches are those that have it.
use Rattle.std.proofs.Common.{◌≡◌, ◌≢◌, ◌⊎◌, ℕ, zero, suc, ◌+◌, ◌<◌, ◌≤◌, Bool, true, false, ◌&&◌, ◌||◌, ◌==◌, cond, List, [], ◌∷◌, length, map, filter, refl, sym, ap, ◌∙◌, inl, inr, arith}
use Rattle.std.specs.Prelude.{IsTrue, flat_map, slice_index_or}
use Rattle.std.specs.List.{list_any, range_with_len}
use Rattle.std.proofs.lemmas.Bool.{cases_eq, cases_lt, eq-eqb, ne_eqb, both_ways}
use Rattle.std.proofs.lemmas.List.Concat.{flat_map-cons}
use Rattle.std.proofs.lemmas.List.Folds.{list_any-append}
use Rattle.mono_graph.specs.Digraph.{Digraph, edge_at}
use Rattle.mono_problem.specs.declared.atom.Atom.{Atom}
use Rattle.mono_problem.specs.declared.uses.Use.{Use}
use Rattle.mono_problem.specs.declared.uses.VarUse.{VarUse}
use Rattle.mono_problem.specs.Instance.{Instance, graph_at, no_graph}
use Rattle.mono_problem.specs.Uses.{edge_use, graph_uses, atom_use, edges_used, all_uses, picked, uses_of, is_edge_use, has_edge_use}

-- ---- what some item of a list passes

any_same : {X : Type 0} (p q : X → Bool) → ((x : X) → p x ≡ q x) → (xs : List X) → list_any p xs ≡ list_any q xs
any_same p q same [] = refl
any_same p q same (x ∷ xs) = rw (same x, any_same p q same xs) refl

any_none : {X : Type 0} (p : X → Bool) → ((x : X) → p x ≡ false) → (xs : List X) → list_any p xs ≡ false
any_none p off [] = refl
any_none p off (x ∷ xs) = rw (off x) (any_none p off xs)

any_map : {X Y : Type 0} (p : Y → Bool) (f : X → Y) (xs : List X) → list_any p (map f xs) ≡ list_any (λ x. p (f x)) xs
any_map p f [] = refl
any_map p f (x ∷ xs) = ap (λ (b : Bool). p (f x) || b) (any_map p f xs)

any_flat : {X Y : Type 0} (p : Y → Bool) (f : X → List Y) (xs : List X) → list_any p (flat_map f xs) ≡ list_any (λ x. list_any p (f x)) xs
any_flat p f [] = refl
any_flat {X} {Y} p f (x ∷ xs) = ap (λ (ys : List Y). list_any p ys) (flat_map-cons f x xs) ∙ list_any-append p (f x) (flat_map f xs) ∙ ap (λ (b : Bool). list_any p (f x) || b) (any_flat p f xs)

any_picked : (t : Use → Bool) (x : ℕ) (us : List VarUse) → list_any t (picked x us) ≡ list_any (λ u. u.var == x && t u.at) us
any_picked t x [] = refl
any_picked t x (u ∷ us) = by_test (u.var == x) (any_picked t x us)
  where
    rest : List VarUse
    rest = filter (λ (v : VarUse). v.var == x) us

    by_test : (b : Bool) → list_any t (map (λ (v : VarUse). v.at) rest) ≡ list_any (λ (v : VarUse). v.var == x && t v.at) us
        → list_any t (map (λ (v : VarUse). v.at) (cond b (u ∷ rest) rest)) ≡ ((b && t u.at) || list_any (λ (v : VarUse). v.var == x && t v.at) us)
    by_test true e = ap (λ (b : Bool). t u.at || b) e
    by_test false e = e

-- ---- one number of a range

and_true : (b : Bool) → (b && true) ≡ b
and_true true = refl
and_true false = refl

and_false : (b : Bool) → (b && false) ≡ false
and_false true = refl
and_false false = refl

or_false : (b : Bool) → (b || false) ≡ b
or_false true = refl
or_false false = refl

-- the number isn't in the range
any_off : (f : ℕ → Bool) (a n j : ℕ) → (j < a) ⊎ (a + n ≤ j) → list_any (λ i. f i && (i == j)) (range_with_len a n) ≡ false
any_off f a zero j out = refl
any_off f a (suc n) j out =
    let rest : Bool = list_any (λ i. f i && (i == j)) (range_with_len (a + 1) n) in
    ap (λ (b : Bool). (f a && b) || rest) (ne_eqb a j (λ e. apart e out)) ∙ ap (λ (b : Bool). b || rest) (and_false (f a)) ∙ any_off f (a + 1) n j (further out)
  where
    apart : a ≡ j → (j < a) ⊎ (a + suc n ≤ j) → ⊥
    apart e (inl low) = omega arith
    apart e (inr high) = omega arith

    further : (j < a) ⊎ (a + suc n ≤ j) → (j < a + 1) ⊎ (a + 1 + n ≤ j)
    further (inl low) = inl (omega arith)
    further (inr high) = inr (omega arith)

any_at : (f : ℕ → Bool) (a n j : ℕ) → a ≤ j → j < a + n → list_any (λ i. f i && (i == j)) (range_with_len a n) ≡ f j
any_at f a zero j low high = absurd (omega arith)
any_at f a (suc n) j low high = by_case (cases_eq a j) (λ ne. any_at f (a + 1) n j (omega (arith, ne)) (omega arith))
  where
    rest : Bool
    rest = list_any (λ i. f i && (i == j)) (range_with_len (a + 1) n)

    by_case : (a ≡ j) ⊎ (a ≢ j) → (a ≢ j → list_any (λ i. f i && (i == j)) (range_with_len (a + 1) n) ≡ f j) → ((f a && (a == j)) || rest) ≡ f j
    by_case (inl e) later =
        ap (λ (b : Bool). (f a && b) || rest) (eq-eqb a j e) ∙ ap (λ (b : Bool). (f a && true) || b) (any_off f (a + 1) n j (inl (omega arith))) ∙ or_false (f a && true) ∙ and_true (f a) ∙ ap f e
    by_case (inr ne) later = ap (λ (b : Bool). (f a && b) || rest) (ne_eqb a j ne) ∙ ap (λ (b : Bool). b || rest) (and_false (f a)) ∙ later ne

-- ---- the uses of a variable

-- whether a use is that of the edge at the place j of the graph k, and of the variable x
abbrev is_use : ℕ → ℕ → ℕ → VarUse → Bool
is_use k j x u = u.var == x && is_edge_use k j u.at

-- the graph at the place i has such an edge
abbrev has_edge : ℕ → ℕ → ℕ → Digraph → Bool
has_edge k j x g = list_any (λ e. ((edge_at g e).var == x) && (e == j)) (range_with_len 0 (length g.edges))

in_graph : (k j x i : ℕ) (g : Digraph) → list_any (is_use k j x) (graph_uses i g) ≡ (has_edge k j x g && (i == k))
in_graph k j x i g = any_map (is_use k j x) (edge_use i g) (range_with_len 0 (length g.edges)) ∙ by_graph (i == k)
  where
    by_graph : (b : Bool) → list_any (λ e. ((edge_at g e).var == x) && (b && (e == j))) (range_with_len 0 (length g.edges)) ≡ (has_edge k j x g && b)
    by_graph true = sym (and_true (has_edge k j x g))
    by_graph false = any_none (λ e. ((edge_at g e).var == x) && false) (λ e. and_false ((edge_at g e).var == x)) (range_with_len 0 (length g.edges)) ∙ sym (and_false (has_edge k j x g))

-- the graph at a place of the list
abbrev nth : List (ℕ × Digraph) → ℕ → Digraph
nth gs i = (slice_index_or gs i no_graph).1

used : (p : Instance) (k j x : ℕ) → has_edge_use k j (uses_of p x) ≡ list_any (λ i. has_edge k j x (nth p.graphs i) && (i == k)) (range_with_len 0 (length p.graphs))
used p k j x =
    any_picked (is_edge_use k j) x (all_uses p) ∙ list_any-append (is_use k j x) (edges_used p.graphs (length p.graphs)) (map atom_use p.atoms)
    ∙ ap (λ (b : Bool). list_any (is_use k j x) (edges_used p.graphs (length p.graphs)) || b) no_atom
    ∙ or_false (list_any (is_use k j x) (edges_used p.graphs (length p.graphs)))
    ∙ any_flat (is_use k j x) (λ i. graph_uses i (nth p.graphs i)) (range_with_len 0 (length p.graphs))
    ∙ any_same (λ i. list_any (is_use k j x) (graph_uses i (nth p.graphs i))) (λ i. has_edge k j x (nth p.graphs i) && (i == k)) (λ i. in_graph k j x i (nth p.graphs i)) (range_with_len 0 (length p.graphs))
  where
    no_atom : list_any (is_use k j x) (map atom_use p.atoms) ≡ false
    no_atom = any_map (is_use k j x) atom_use p.atoms ∙ any_none (λ y. (y.var == x) && false) (λ (y : Atom). and_false (y.var == x)) p.atoms

-- the variable switches an edge exactly where the edge has it
pub switches_its_edges : (p : Instance) (k j x : ℕ) → k < length p.graphs → j < length (graph_at p k).edges → has_edge_use k j (uses_of p x) ≡ ((edge_at (graph_at p k) j).var == x)
switches_its_edges p k j x held within =
    used p k j x ∙ any_at (λ i. has_edge k j x (nth p.graphs i)) 0 (length p.graphs) k (omega arith) (omega arith)
    ∙ any_at (λ e. (edge_at (graph_at p k) e).var == x) 0 (length (graph_at p k).edges) j (omega arith) (omega arith)

-- and it switches no edge that isn't there
pub switches_places : (p : Instance) (k j x : ℕ) → k < length p.graphs → IsTrue (has_edge_use k j (uses_of p x)) → j < length (graph_at p k).edges
switches_places p k j x held h = elim (cases_lt j (length (graph_at p k).edges)) [
  | inl low ↦ low
  | inr high ↦ absurd (both_ways (has_edge_use k j (uses_of p x))
      (used p k j x ∙ any_at (λ i. has_edge k j x (nth p.graphs i)) 0 (length p.graphs) k (omega arith) (omega arith)
      ∙ any_off (λ e. (edge_at (graph_at p k) e).var == x) 0 (length (graph_at p k).edges) j (inr (omega arith))) h)
]
