-- The entries of the map of graphs, after one is added or written.
use Rattle.std.proofs.Common.{◌≡◌, ℕ, zero, suc, ◌+◌, ◌<◌, ◌≤◌, Bool, true, false, cond, not, ltb, List, [], ◌∷◌, ◌++◌, length, get_or, set, slice_get, Some, None, IsNone, position, sum_by, refl, sym, ap, ◌∙◌, arith, nat_eq}
use Rattle.std.specs.List.{position_or_len}
use Rattle.std.specs.Map.{keys_of, values_of}
use Rattle.std.proofs.lemmas.Bool.{false≢true}
use Rattle.std.proofs.lemmas.Bool.Decides.{nat_tests}
use Rattle.std.proofs.lemmas.List.Sums.{sum_by-set}
use Rattle.std.proofs.Common.{length-append}
use Rattle.mono_graph.specs.Digraph.{Digraph}
use Rattle.mono_graph.specs.declared.edge.Edge.{Edge}
use Rattle.mono_problem.specs.Instance.{no_graph}
use Rattle.mono_problem.specs.Growth.{graph_with}
use Rattle.indexmap.specs.IndexMap.{insert_entry, set_value_at}

module _ {K V : Type 0} where
  pub set_value_at-is : (es : List (K × V)) (k : ℕ) (w : V) (d : K × V) → k < length es → set_value_at es k w ≡ set es k ((get_or es k d).0, w)
  set_value_at-is [] k w d h = absurd (omega arith)
  set_value_at-is (e ∷ es) zero w d h = refl
  set_value_at-is (e ∷ es) (suc k) w d h = ap (λ xs. e ∷ xs) (set_value_at-is es k w d (omega arith))

  pub value_at : (es : List (K × V)) (k : ℕ) (g : V) (d : K × V) → slice_get (values_of es) k ≡ Some g → (get_or es k d).1 ≡ g
  value_at [] k g d h = absurd (cc)
  value_at (e ∷ es) zero g d h = cc
  value_at (e ∷ es) (suc k) g d h = value_at es k g d h

  pub set-same : (es : List (K × V)) (k : ℕ) (d : K × V) → set es k (get_or es k d) ≡ es
  set-same [] k d = refl
  set-same (e ∷ es) zero d = refl
  set-same (e ∷ es) (suc k) d = ap (λ xs. e ∷ xs) (set-same es k d)

no_place : (p : ℕ → Bool) (ks : List ℕ) → IsNone (position p ks) → length ks ≤ position_or_len p ks
no_place p ks h =
    (elim (ltb (position_or_len p ks) (length ks)) as (λ b. ltb (position_or_len p ks) (length ks) ≡ b → IsNone (cond b (Some (position_or_len p ks)) None) → length ks ≤ position_or_len p ks) [
      | true ↦ λ e some. absurd (false≢true (sym some))
      | false ↦ λ e none. grind (arith, nat_tests)
    ]) refl h

-- a graph that isn't declared goes last
module _ {V : Type 0} where
  absent_entry : (id : ℕ) (g : V) (es : List (ℕ × V)) → length es ≤ position_or_len (λ k. nat_eq id k) (keys_of es) → insert_entry nat_eq es id g ≡ es ++ (id, g) ∷ []
  absent_entry id g [] h = refl
  absent_entry id g (e ∷ es) h =
      (elim (nat_eq id e.0) as (λ b. suc (length es) ≤ cond (not b) (1 + position_or_len (λ k. nat_eq id k) (keys_of es)) 0 → cond b ((e.0, g) ∷ es) (e ∷ insert_entry nat_eq es id g) ≡ e ∷ (es ++ (id, g) ∷ [])) [
        | true ↦ λ less. absurd (omega (arith, less))
        | false ↦ λ less. ap (λ xs. e ∷ xs) (absent_entry id g es (omega (arith, less)))
      ]) h

  length-keys_of : (es : List (ℕ × V)) → length (keys_of es) ≡ length es
  length-keys_of [] = refl
  length-keys_of (e ∷ es) = ap suc (length-keys_of es)

  pub insert_entry-undeclared : (id : ℕ) (g : V) (es : List (ℕ × V)) → IsNone (position (λ k. nat_eq id k) (keys_of es)) → insert_entry nat_eq es id g ≡ es ++ (id, g) ∷ []
  insert_entry-undeclared id g es h =
      let past = no_place (λ k. nat_eq id k) (keys_of es) h in
      absent_entry id g es (omega (arith, past, length-keys_of es))

-- ---- a write to the graph at a place

module _ (es : List (ℕ × Digraph)) (k : ℕ) (held : k < length es) where
  pub unchanged_entry : (g new : Digraph) → slice_get (values_of es) k ≡ Some g → new ≡ g → set_value_at es k new ≡ es
  unchanged_entry g new at same =
      set_value_at-is es k new no_graph held ∙ (ap (λ w. set es k ((get_or es k no_graph).0, w)) (same ∙ sym (value_at es k g no_graph at)) ∙ set-same es k no_graph)

  pub grown_entry : (g new : Digraph) (e : Edge) → slice_get (values_of es) k ≡ Some g → new ≡ record g { edges = g.edges ++ e ∷ [] } → set_value_at es k new ≡ set es k (graph_with (get_or es k no_graph) e)
  grown_entry g new e at grown =
      set_value_at-is es k new no_graph held ∙ ap (λ w. set es k ((get_or es k no_graph).0, w)) (grown ∙ ap (λ (h : Digraph). record h { edges = h.edges ++ e ∷ [] }) (sym (value_at es k g no_graph at)))

  pub nodes-grown : (e : Edge) → sum_by (λ (g : ℕ × Digraph). g.1.nodes) (set es k (graph_with (get_or es k no_graph) e)) ≡ sum_by (λ (g : ℕ × Digraph). g.1.nodes) es
  nodes-grown e = omega (arith, sum_by-set (λ (g : ℕ × Digraph). g.1.nodes) es k (graph_with (get_or es k no_graph) e) no_graph held)

  pub edges-grown : (e : Edge) → sum_by (λ (g : ℕ × Digraph). length g.1.edges) (set es k (graph_with (get_or es k no_graph) e)) ≡ sum_by (λ (g : ℕ × Digraph). length g.1.edges) es + 1
  edges-grown e =
      let more = length-append ((get_or es k no_graph).1.edges) (e ∷ []) in
      omega (arith, more, sum_by-set (λ (g : ℕ × Digraph). length g.1.edges) es k (graph_with (get_or es k no_graph) e) no_graph held)
