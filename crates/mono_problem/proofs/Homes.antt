-- Each number of an edge is on the edges of one graph alone.
use Rattle.std.proofs.Common.{◌≡◌, ℕ, ◌+◌, ◌-◌, ◌<◌, ◌≤◌, ◌==◌, true, cond, List, [], ◌∷◌, length, get_or, set, refl, sym, ap, subst, ◌∙◌, inl, inr, arith, length-set}
use Rattle.std.specs.Prelude.{count_by}
use Rattle.std.specs.List.{list_any}
use Rattle.std.proofs.lemmas.Bool.{cases_eq, cases_Bool, eq-eqb, ne_eqb, false_from_ne_true}
use Rattle.std.proofs.lemmas.List.{get_or-set_other}
use Rattle.std.proofs.lemmas.List.Sums.{sum_by-set, sum_by-cons, get_or-le-sum_by}
use Rattle.mono_graph.specs.declared.edge.Edge.{Edge}
use Rattle.mono_graph.specs.Digraph.{Digraph}
use Rattle.mono_problem.specs.Instance.{Instance, no_graph, graph_at, has_number, edges_total}
use Rattle.mono_problem.specs.WellFormed.{IsInstance, count_numbered}
use Rattle.mono_problem.specs.Kept.{AreHomes}

-- an edge with the number counts
counted : (n : ℕ) (es : List Edge) → list_any (λ e. e.number == n) es ≡ true → 1 ≤ count_by (λ e. e.number == n) es
counted n [] h = absurd cc
counted n (e ∷ es) h = elim (cases_Bool (e.number == n)) [
  | inl here ↦
      let one : ◌≡◌ {A = ℕ} (cond (e.number == n) 1 0) 1 = rw here refl in
      omega (arith, one, sum_by-cons (λ (e : Edge). cond (e.number == n) 1 0) e es)
  | inr other ↦
      let later : list_any (λ e. e.number == n) es ≡ true = rw other at h in
      omega (arith, counted n es later, sum_by-cons (λ (e : Edge). cond (e.number == n) 1 0) e es)
]

-- a number that stands once is on the edges of one graph
one_home : (n : ℕ) (gs : List (ℕ × Digraph)) (j k : ℕ) → count_numbered n gs ≡ 1 → j < length gs → k < length gs
    → has_number (get_or gs j no_graph).1 n ≡ true → has_number (get_or gs k no_graph).1 n ≡ true → j ≡ k
one_home n gs j k once low low' here there = elim (cases_eq j k) [
  | inl same ↦ same
  | inr apart ↦
      let f : ℕ × Digraph → ℕ = λ g. count_by (λ (e : Edge). e.number == n) g.1.edges in
      let rest = sum_by-set f gs j no_graph no_graph low in
      let other = get_or-set_other gs j k no_graph no_graph (λ e. apart (sym e)) in
      let less = get_or-le-sum_by f (set gs j no_graph) k no_graph (omega (arith, low', length-set gs j no_graph)) in
      let kept : f (get_or (set gs j no_graph) k no_graph) ≡ f (get_or gs k no_graph) = ap f other in
      let first = counted n (get_or gs j no_graph).1.edges here in
      let second = counted n (get_or gs k no_graph).1.edges there in
      absurd (omega (arith, once, rest, less, kept, first, second))
]

-- the graph of a number is the one that the table tells
pub home_is : (p : Instance) (homes : List ℕ) (n : ℕ) → IsInstance p → AreHomes p homes → 0 < n → n ≤ edges_total p
    → (k : ℕ) → k < length p.graphs → has_number (graph_at p k) n ≡ (k == get_or homes (n - 1) 0)
home_is p homes n h a low high k lt = elim (cases_eq k home) [
  | inl same ↦ subst (λ (i : ℕ). has_number (graph_at p i) n ≡ true) (sym same) here ∙ sym (eq-eqb k home same)
  | inr apart ↦ false_from_ne_true (has_number (graph_at p k) n) (λ there. apart (one_home n p.graphs k home (h.numbers n low high) lt (a.held (n - 1) within) there here)) ∙ sym (ne_eqb k home apart)
]
  where
    home : ℕ
    home = get_or homes (n - 1) 0

    within : n - 1 < length homes
    within = omega (arith, low, high, a.len)

    here : has_number (graph_at p home) n ≡ true
    here =
        let number : n - 1 + 1 ≡ n = omega (arith, low) in
        subst (λ (m : ℕ). has_number (graph_at p home) m ≡ true) number (a.each (n - 1) within)
