-- The uses of all edges, one more at a time.
use Rattle.std.proofs.Common.{◌≡◌, ℕ, ◌+◌, List, [], ◌∷◌, ◌++◌, map, ap, ◌∙◌, append-nil, arith}
use Rattle.std.specs.Prelude.{flat_map, slice_index_or}
use Rattle.std.specs.List.{range_with_len}
use Rattle.std.proofs.Math.Numerals.{add-one}
use Rattle.std.proofs.lemmas.List.{map-append}
use Rattle.std.proofs.lemmas.Grind.{flat_map-append}
use Rattle.mono_graph.specs.Digraph.{Digraph}
use Rattle.mono_graph.proofs.Ranges.{range_push}
use Rattle.mono_problem.specs.Instance.{no_graph}
use Rattle.mono_problem.specs.Uses.{graph_uses, edges_used}
use Rattle.mono_problem.specs.declared.uses.VarUse.{VarUse}

range_more : (n : ℕ) → range_with_len 0 (n + 1) ≡ range_with_len 0 n ++ n ∷ []
range_more n = rw add-one (range_push 0 n ∙ ap (λ (k : ℕ). range_with_len 0 n ++ k ∷ []) (omega arith))

pub map_range_more : (f : ℕ → VarUse) (n : ℕ) → map f (range_with_len 0 (n + 1)) ≡ map f (range_with_len 0 n) ++ f n ∷ []
map_range_more f n = ap (map f) (range_more n) ∙ map-append f (range_with_len 0 n) (n ∷ [])

pub edges_used-more : (gs : List (ℕ × Digraph)) (n : ℕ) → edges_used gs (n + 1) ≡ edges_used gs n ++ graph_uses n (slice_index_or gs n no_graph).1
edges_used-more gs n =
    let f : ℕ → List VarUse = λ k. graph_uses k (slice_index_or gs k no_graph).1 in
    ap (flat_map f) (range_more n) ∙ (flat_map-append f (range_with_len 0 n) (n ∷ []) ∙ ap (λ (us : List VarUse). edges_used gs n ++ us) (append-nil (graph_uses n (slice_index_or gs n no_graph).1)))
