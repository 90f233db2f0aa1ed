-- The edge of a number stands in the one graph that has the number.
use Rattle.std.proofs.Common.{◌≡◌, ℕ, zero, suc, ◌+◌, ◌<◌, ◌≤◌, ◌==◌, true, false, cond, not, ltb, List, [], ◌∷◌, ◌++◌, length, map, get_or, find, flat_map, Option, Some, None, refl, sym, ap, ◌∙◌, arith, eq-eqb}
use Rattle.std.specs.Prelude.{IsTrue, count_by, unwrap_or, ◌||◌}
use Rattle.std.specs.List.{list_any, position_or_len}
use Rattle.std.proofs.lemmas.List.Elements.{All-get_or}
use Rattle.std.proofs.lemmas.List.Sums.{sum_by-cons}
use Rattle.std.proofs.lemmas.Bool.{false≢true}
use Rattle.std.proofs.lemmas.Bool.Decides.{nat_tests}
use Rattle.mono_graph.specs.declared.edge.Edge.{Edge}
use Rattle.mono_graph.specs.Digraph.{Digraph, IsGraph, no_edge, edge_at, place_of}
use Rattle.mono_problem.specs.Instance.{Instance, no_graph, graph_at, identity_at, has_number, edges_total}
use Rattle.mono_problem.specs.WellFormed.{IsInstance, IsDeclared, count_numbered}
use Rattle.mono_gnf.specs.Printed.{edges_beside, edge_numbered}
use Rattle.mono_gnf.proofs.Numbered.{of_number, IsOnly}

abbrev first : ℕ → List Edge → ℕ
first n es = position_or_len (λ (e : Edge). e.number == n) es

abbrev count : ℕ → List Edge → ℕ
count n es = count_by (λ (e : Edge). e.number == n) es

abbrev found_in : ℕ → List (ℕ × Edge) → Option (ℕ × Edge)
found_in n es = find (λ (e : ℕ × Edge). e.1.number == n) es

-- ---- in the edges of one graph

found_first : (n id : ℕ) (es : List Edge) (rest : List (ℕ × Edge)) → first n es < length es → found_in n (map (λ (e : Edge). (id, e)) es ++ rest) ≡ Some (id, get_or es (first n es) no_edge)
found_first n id [] rest h = absurd (omega (arith, h))
found_first n id (x ∷ xs) rest h =
    (elim (x.number == n) as (λ b. cond (not b) (1 + first n xs) 0 < suc (length xs) → cond b (Some (id, x)) (found_in n (map (λ (e : Edge). (id, e)) xs ++ rest)) ≡ Some (id, get_or (x ∷ xs) (cond (not b) (1 + first n xs) 0) no_edge)) [
      | true ↦ λ k. refl
      | false ↦ λ k. let up : 1 + first n xs ≡ suc (first n xs) = omega arith in rw up (found_first n id xs rest (omega (arith, k)))
    ]) h

passed : (n id : ℕ) (es : List Edge) (rest : List (ℕ × Edge)) → count n es ≡ 0 → found_in n (map (λ (e : Edge). (id, e)) es ++ rest) ≡ found_in n rest
passed n id [] rest h = refl
passed n id (x ∷ xs) rest h =
    let split = sum_by-cons (λ (e : Edge). cond (e.number == n) 1 0) x xs in
    (elim (x.number == n) as (λ b. cond b 1 0 + count n xs ≡ 0 → cond b (Some (id, x)) (found_in n (map (λ (e : Edge). (id, e)) xs ++ rest)) ≡ found_in n rest) [
      | true ↦ λ k. absurd (omega (arith, k))
      | false ↦ λ k. passed n id xs rest (omega (arith, k))
    ]) (omega (arith, h, split))

counted : (n : ℕ) (es : List Edge) → first n es < length es → 0 < count n es
counted n [] h = absurd (omega (arith, h))
counted n (x ∷ xs) h =
    let split = sum_by-cons (λ (e : Edge). cond (e.number == n) 1 0) x xs in
    let more : 0 < cond (x.number == n) 1 0 + count n xs =
    (elim (x.number == n) as (λ b. cond (not b) (1 + first n xs) 0 < suc (length xs) → 0 < cond b 1 0 + count n xs) [
      | true ↦ λ k. omega arith
      | false ↦ λ k. let later = counted n xs (omega (arith, k)) in omega (arith, later)
    ]) h in
    omega (arith, more, split)

first_within : (n : ℕ) (es : List Edge) → IsTrue (list_any (λ (e : Edge). e.number == n) es) → first n es < length es
first_within n [] h = absurd (false≢true h)
first_within n (x ∷ xs) h =
    (elim (x.number == n) as (λ b. IsTrue (b || list_any (λ (e : Edge). e.number == n) xs) → cond (not b) (1 + first n xs) 0 < suc (length xs)) [
      | true ↦ λ k. omega arith
      | false ↦ λ k. let rest = first_within n xs k in omega (arith, rest)
    ]) h

first_is : (n : ℕ) (e : Edge) (es rest : List Edge) → of_number n es ≡ e ∷ rest → (first n es < length es) × (get_or es (first n es) no_edge ≡ e)
first_is n e [] rest h = absurd (cc)
first_is n e (x ∷ xs) rest h =
    (elim (x.number == n) as (λ b. cond b (x ∷ of_number n xs) (of_number n xs) ≡ e ∷ rest → (cond (not b) (1 + first n xs) 0 < suc (length xs)) × (get_or (x ∷ xs) (cond (not b) (1 + first n xs) 0) no_edge ≡ e)) [
      | true ↦ λ k. (omega arith, cc)
      | false ↦ λ k. let later = first_is n e xs rest k in let up : 1 + first n xs ≡ suc (first n xs) = omega arith in rw up (omega (arith, later.0), later.1)
    ]) h

only_at : (n : ℕ) (e : Edge) (k : ℕ) (gs : List (ℕ × Digraph)) → IsOnly n e k gs → of_number n (get_or gs k no_graph).1.edges ≡ e ∷ []
only_at n e k [] o = absurd o
only_at n e zero (g ∷ gs) o = o.0
only_at n e (suc k) (g ∷ gs) o = only_at n e k gs o.1

-- ---- in all graphs

found_graph : (n k : ℕ) (gs : List (ℕ × Digraph)) → k < length gs → count_numbered n gs ≤ 1 → first n (get_or gs k no_graph).1.edges < length (get_or gs k no_graph).1.edges
    → (found_in n (flat_map edges_beside gs) ≡ Some ((get_or gs k no_graph).0, edge_at (get_or gs k no_graph).1 (first n (get_or gs k no_graph).1.edges))) × (0 < count_numbered n gs)
found_graph n k [] held once h = absurd (omega (arith, held))
found_graph n zero (g ∷ gs) held once h =
    let split = sum_by-cons (λ (g : ℕ × Digraph). count n g.1.edges) g gs in
    let here = counted n g.1.edges h in
    (found_first n g.0 g.1.edges (flat_map edges_beside gs) h, omega (arith, split, here))
found_graph n (suc k) (g ∷ gs) held once h =
    let split = sum_by-cons (λ (g : ℕ × Digraph). count n g.1.edges) g gs in
    let later = found_graph n k gs (omega (arith, held)) (omega (arith, split, once)) h in
    let none : count n g.1.edges ≡ 0 = omega (arith, split, once, later.1) in
    (passed n g.0 g.1.edges (flat_map edges_beside gs) none ∙ later.0, omega (arith, split, later.1))

module _ (p : Instance) (h : IsInstance p) (k n : ℕ) (held : k < length p.graphs) (low : 0 < n) (high : n ≤ edges_total p) where
  abbrev edges_there : List Edge
  edges_there = (graph_at p k).edges

  -- the edge at the first place with the number is the one of the number
  edge_known : first n edges_there < length edges_there → edge_numbered p n ≡ (identity_at p k, edge_at (graph_at p k) (first n edges_there))
  edge_known within = ap (λ (o : Option (ℕ × Edge)). unwrap_or o (0, no_edge)) (found_graph n k p.graphs held (omega (arith, h.numbers n low high)) within).0

  module _ (has : IsTrue (has_number (graph_at p k) n)) where
    place_known : place_of (graph_at p k) n ≡ Some (first n edges_there)
    place_known =
        let within = first_within n edges_there has in
        let test : ltb (first n edges_there) (length edges_there) ≡ true = grind (arith, nat_tests) in
        rw test refl

    pub edge_at_place : (j : ℕ) → place_of (graph_at p k) n ≡ Some j → edge_numbered p n ≡ (identity_at p k, edge_at (graph_at p k) j)
    edge_at_place j at =
        let same : Some (first n edges_there) ≡ Some j = sym place_known ∙ at in
        let is : first n edges_there ≡ j = cc in
        edge_known (first_within n edges_there has) ∙ ap (λ j. (identity_at p k, edge_at (graph_at p k) j)) is

    pub some_place : place_of (graph_at p k) n ≡ None → ⊥
    some_place none = let wrong : Some (first n edges_there) ≡ None = sym place_known ∙ none in absurd (cc)

  -- the one edge with the number is that edge
  pub found_only : (e : Edge) → IsOnly n e k p.graphs → edge_numbered p n ≡ (identity_at p k, e)
  found_only e o =
      let is = first_is n e edges_there [] (only_at n e k p.graphs o) in
      edge_known is.0 ∙ ap (λ (e : Edge). (identity_at p k, e)) is.1

-- a graph of the problem is a graph
pub graph_known : (p : Instance) (k : ℕ) → IsInstance p → k < length p.graphs → IsGraph (graph_at p k)
graph_known p k h held = (All-get_or (IsDeclared p.vars (edges_total p)) p.graphs k no_graph held h.graphs).graph

-- the one graph that has the number has it
pub home_has : (p : Instance) (k n : ℕ) → ((j : ℕ) → j < length p.graphs → has_number (graph_at p j) n ≡ (j == k)) → k < length p.graphs → IsTrue (has_number (graph_at p k) n)
home_has p k n exact held = exact k held ∙ eq-eqb k k refl
