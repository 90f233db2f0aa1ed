-- Rows of whole problems.
use Rattle.std.proofs.Common.{◌≡◌, ℕ, zero, suc, ◌+◌, ◌<◌, ◌≤◌, [], ◌∷◌, get_or, refl, pos, arith}
use Rattle.std.specs.Prelude.{All, Some}
use Rattle.std.proofs.lemmas.List.Elements.{All-nil, All-cons, All-head}
use Rattle.mono_base.specs.declared.limits.TheConstants.{MAX_NODES, MAX_EDGES, MAX_LITERALS, MAX_VARS, MAX_WEIGHT}
use Rattle.mono_graph.specs.declared.edge.Edge.{Edge}
use Rattle.mono_graph.specs.Digraph.{IsGraph, IsRising}
use Rattle.mono_graph.specs.Worked.{edge, edge_of, pipe, single}
use Rattle.mono_problem.specs.declared.atom.Atom.{Atom}
use Rattle.mono_problem.specs.declared.atom.Predicate.TheVariants as kind
use Rattle.mono_problem.specs.Instance.{identity_at, place_named}
use Rattle.mono_problem.specs.WellFormed.{IsAtomAt, IsDeclared, IsInstance, IsLitWithin, count_numbered}
use Rattle.mono_problem.specs.Worked.{minus, reaches_2}
use Rattle.mono_rows.specs.TwoGraphs.{asks_only, of_clauses, of_graphs, over_second, two_graphs}
use Rattle.mono_rows.proofs.GraphRows.{two_numbers_rise}

one_item : {X : Type 0} (P : X → Type 0) → (x : X) → P x → All P (x ∷ [])
one_item P x px = All-cons P x [] px (All-nil P)

two_items : {X : Type 0} (P : X → Type 0) → (x y : X) → P x → P y → All P (x ∷ y ∷ [])
two_items P x y px py = All-cons P x (y ∷ []) px (one_item P y py)

-- ---- a problem of two graphs

is_pipe : IsGraph (pipe 3 2)
is_pipe = record {
  some_node = omega arith;
  few_nodes = omega arith;
  few_edges = omega arith;
  ends = two_items (λ (e : Edge). (e.from < 3) × (e.to < 3)) (edge 1 0 1 3) (edge 2 1 2 2) (omega arith, omega arith) (omega arith, omega arith);
  rising = two_numbers_rise 3 (edge 1 0 1 3) (edge 2 1 2 2) (omega arith);
  numbers = two_items (λ (e : Edge). 1 ≤ e.number) (edge 1 0 1 3) (edge 2 1 2 2) (omega arith) (omega arith);
  vars = two_items (λ (e : Edge). (1 ≤ e.var) × (e.var ≤ MAX_VARS)) (edge 1 0 1 3) (edge 2 1 2 2) (omega arith, omega arith) (omega arith, omega arith);
  weights = two_items (λ (e : Edge). e.weight ≤ MAX_WEIGHT) (edge 1 0 1 3) (edge 2 1 2 2) (omega arith) (omega arith);
}

rises_alone : (e : Edge) → IsRising (single e)
rises_alone e i j lt within = absurd (omega (arith, lt, within))

is_single : IsGraph (single (edge_of 3 0 1 4 7))
is_single = record {
  some_node = omega arith;
  few_nodes = omega arith;
  few_edges = omega arith;
  ends = one_item (λ (e : Edge). (e.from < 2) × (e.to < 2)) (edge_of 3 0 1 4 7) (omega arith, omega arith);
  rising = rises_alone (edge_of 3 0 1 4 7);
  numbers = one_item (λ (e : Edge). 1 ≤ e.number) (edge_of 3 0 1 4 7) (omega arith);
  vars = one_item (λ (e : Edge). (1 ≤ e.var) × (e.var ≤ MAX_VARS)) (edge_of 3 0 1 4 7) (omega arith, omega arith);
  weights = one_item (λ (e : Edge). e.weight ≤ MAX_WEIGHT) (edge_of 3 0 1 4 7) (omega arith);
}

pub both_graphs : IsInstance two_graphs
both_graphs = record {
  vars = omega arith;
  few_graphs = omega arith;
  few_nodes = let few : 5 ≤ MAX_NODES = omega arith in few;
  few_edges = let few : 3 ≤ MAX_EDGES = omega arith in few;
  few_atoms = omega arith;
  few_clauses = omega arith;
  few_literals = let few : 2 ≤ MAX_LITERALS = omega arith in few;
  identities = identities;
  graphs = two_items (IsDeclared 6 3) (8, pipe 3 2) (5, single (edge_of 3 0 1 4 7))
      (record { identity = omega arith; graph = is_pipe; within = two_items (λ (e : Edge). (e.var ≤ 6) × (e.number ≤ 3)) (edge 1 0 1 3) (edge 2 1 2 2) (omega arith, omega arith) (omega arith, omega arith) })
      (record { identity = omega arith; graph = is_single; within = one_item (λ (e : Edge). (e.var ≤ 6) × (e.number ≤ 3)) (edge_of 3 0 1 4 7) (omega arith, omega arith) });
  numbers = numbers;
  atoms = atoms;
  clauses = two_items (All (IsLitWithin 6)) (pos 1 ∷ minus 6 ∷ []) [] (two_items (IsLitWithin 6) (pos 1) (minus 6) (omega arith, omega arith) (omega arith, omega arith)) (All-nil (IsLitWithin 6));
}
  where
    identities : (k : ℕ) → k < 2 → place_named two_graphs.graphs (identity_at two_graphs k) ≡ Some k
    identities zero lt = refl
    identities (suc zero) lt = refl
    identities (suc (suc k)) lt = absurd (omega (arith, lt))

    numbers : (n : ℕ) → 0 < n → n ≤ 3 → count_numbered n two_graphs.graphs ≡ 1
    numbers zero low high = absurd (omega (arith, low))
    numbers (suc zero) low high = refl
    numbers (suc (suc zero)) low high = refl
    numbers (suc (suc (suc zero))) low high = refl
    numbers (suc (suc (suc (suc n)))) low high = absurd (omega (arith, high))

    atoms : (k : ℕ) (d : Atom) → k < 2 → IsAtomAt two_graphs k (get_or two_graphs.atoms k d)
    atoms zero d lt = record { number = refl; graph = omega arith; over = (omega arith, omega arith); low = omega arith; high = omega arith }
    atoms (suc zero) d lt = record { number = refl; graph = omega arith; over = (omega arith, omega arith); low = omega arith; high = omega arith }
    atoms (suc (suc k)) d lt = absurd (omega (arith, lt))

-- ---- what is none

same_place : (n m : ℕ) → Some n ≡ Some m → n ≡ m
same_place n m e = cc

pub none_of_one_identity : IsInstance (of_graphs ((8, pipe 3 2) ∷ (8, single (edge_of 3 0 1 4 7)) ∷ [])) → ⊥
none_of_one_identity p = omega (arith, same_place 0 1 (p.identities 1 (omega arith)))

-- two is not one, and neither is zero
not_two : (n : ℕ) → n ≡ 2 → n ≡ 1 → ⊥
not_two n e f = omega (arith, e, f)

pub none_of_a_number_twice : IsInstance (of_graphs ((8, pipe 3 2) ∷ (5, single (edge_of 2 0 1 4 7)) ∷ [])) → ⊥
none_of_a_number_twice p =
    let some : 2 ≤ 3 = omega arith in
    not_two (count_numbered 2 ((8, pipe 3 2) ∷ (5, single (edge_of 2 0 1 4 7)) ∷ [])) refl (p.numbers 2 (omega arith) some)

pub none_of_a_number_beyond : IsInstance (of_graphs ((5, single (edge_of 2 0 1 4 7)) ∷ [])) → ⊥
none_of_a_number_beyond p =
    let g = All-head (IsDeclared 6 1) (5, single (edge_of 2 0 1 4 7)) [] p.graphs in
    let high : 2 ≤ 1 = (All-head (λ (e : Edge). (e.var ≤ 6) × (e.number ≤ 1)) (edge_of 2 0 1 4 7) [] g.within).1 in
    omega (arith, high)

pub none_of_a_variable_beyond : IsInstance (of_graphs ((5, single (edge_of 1 0 1 7 7)) ∷ [])) → ⊥
none_of_a_variable_beyond p =
    let g = All-head (IsDeclared 6 1) (5, single (edge_of 1 0 1 7 7)) [] p.graphs in
    let high : 7 ≤ 6 = (All-head (λ (e : Edge). (e.var ≤ 6) × (e.number ≤ 1)) (edge_of 1 0 1 7 7) [] g.within).0 in
    omega (arith, high)

pub none_of_a_great_identity : IsInstance (of_graphs ((4294967296, single (edge_of 1 0 1 4 7)) ∷ [])) → ⊥
none_of_a_great_identity p =
    let low : 4294967296 < 4294967296 = (All-head (IsDeclared 6 1) (4294967296, single (edge_of 1 0 1 4 7)) [] p.graphs).identity in
    omega (arith, low)

pub none_of_an_edge_beyond : IsInstance (of_graphs ((5, single (edge_of 1 0 7 4 7)) ∷ [])) → ⊥
none_of_an_edge_beyond p =
    let g = All-head (IsDeclared 6 1) (5, single (edge_of 1 0 7 4 7)) [] p.graphs in
    let low : 7 < 2 = (All-head (λ (e : Edge). (e.from < 2) × (e.to < 2)) (edge_of 1 0 7 4 7) [] g.graph.ends).1 in
    omega (arith, low)

pub none_of_a_second_predicate : IsInstance (asks_only over_second) → ⊥
none_of_a_second_predicate p = let e : 2 ≡ 0 + 1 = (p.atoms 0 over_second (omega arith)).number in omega (arith, e)

pub none_of_a_missing_graph : IsInstance (asks_only (record reaches_2 { graph = 2 })) → ⊥
none_of_a_missing_graph p = let low : 2 < 2 = (p.atoms 0 over_second (omega arith)).graph in omega (arith, low)

pub none_of_a_tree_of_no_graph : IsInstance (asks_only (record reaches_2 { graph = 2; predicate = kind.Tree (pos 9) })) → ⊥
none_of_a_tree_of_no_graph p = let low : 2 < 2 = (p.atoms 0 over_second (omega arith)).graph in omega (arith, low)

pub none_of_a_node_beyond : IsInstance (asks_only (record reaches_2 { graph = 1 })) → ⊥
none_of_a_node_beyond p = let low : 2 < 2 = (p.atoms 0 over_second (omega arith)).over.1 in omega (arith, low)

pub none_of_variable_0 : IsInstance (asks_only (record reaches_2 { var = 0 })) → ⊥
none_of_variable_0 p = let low : 0 < 0 = (p.atoms 0 over_second (omega arith)).low in omega (arith, low)

pub none_of_variable_7 : IsInstance (asks_only (record reaches_2 { var = 7 })) → ⊥
none_of_variable_7 p = let high : 7 ≤ 6 = (p.atoms 0 over_second (omega arith)).high in omega (arith, high)

pub none_of_literal_0 : IsInstance (of_clauses ((pos 0 ∷ []) ∷ [])) → ⊥
none_of_literal_0 p =
    let low : 0 < 0 = (All-head (IsLitWithin 6) (pos 0) [] (All-head (All (IsLitWithin 6)) (pos 0 ∷ []) [] p.clauses)).0 in
    omega (arith, low)

pub none_of_literal_7 : IsInstance (of_clauses ((minus 7 ∷ []) ∷ [])) → ⊥
none_of_literal_7 p =
    let high : 7 ≤ 6 = (All-head (IsLitWithin 6) (minus 7) [] (All-head (All (IsLitWithin 6)) (minus 7 ∷ []) [] p.clauses)).1 in
    omega (arith, high)
