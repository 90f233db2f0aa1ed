-- The edges that an assignment enables, told place by place.
use Rattle.std.proofs.Common.{◌≡◌, ℕ, ◌<◌, Bool, false, ◌&&◌, List, length, sym, ap, ◌∙◌, arith}
use Rattle.std.specs.Prelude.{nat_lt}
use Rattle.std.proofs.lemmas.Bool.{lt-ltb}
use Rattle.std.proofs.lemmas.List.{ext_get_or, get_or-map}
use Rattle.mono_graph.specs.declared.edge.Edge.{Edge}
use Rattle.mono_graph.specs.Digraph.{Digraph, edge_at, enabled, no_edge, present}
use Rattle.mono_graph.proofs.Parts.{length-part_by}

-- the places below this one are told
pub record AreTold (a : ℕ → Bool) (g : Digraph) (k : ℕ) (P : List Bool) : Type 0 where
  pub size : length P ≡ length g.edges
  pub at : (j : ℕ) → present P j ≡ (nat_lt j k && a (edge_at g j).var)

pub all_told : (a : ℕ → Bool) (g : Digraph) (k : ℕ) (P : List Bool) → AreTold a g k P → k ≡ length g.edges → P ≡ enabled a g
all_told a g k P so e = ext_get_or false P (enabled a g) (so.size ∙ sym (length-part_by (λ d. a d.var) g)) (λ i low.
    let inside : i < length g.edges = omega (arith, so.size, low) in
    let below : i < k = omega (arith, e, inside) in
    so.at i ∙ ap (λ (b : Bool). b && a (edge_at g i).var) (lt-ltb i k below) ∙ sym (get_or-map (λ (d : Edge). a d.var) g.edges i no_edge false inside))
