-- Rows of reached nodes that grew, and went back.
use Rattle.std.proofs.Common.{◌≡◌, ℕ, ◌+◌, ◌<◌, ◌≤◌, Bool, List, length, get_or, sym, ap, subst, ◌∙◌, inl, inr, arith}
use Rattle.std.specs.List.{AllZip}
use Rattle.std.proofs.lemmas.List.Elements.{length_all_zip, AllZip-get_or}
use Rattle.mono_graph.specs.Digraph.{Digraph}
use Rattle.mono_dynamic.specs.declared.arrival.Arrival.{Arrival}
use Rattle.mono_dynamic.specs.Arrivals.{within, AreReachedAlong, GrowsAfter}
use Rattle.mono_dynamic.specs.BySource.{OrSame}
use Rattle.mono_dynamic.specs.Reached.{Reached}
use Rattle.mono_dynamic.specs.Rows.{no_row, row_at, back_to, AreAllReached, IsGrownRow, IsRow}
use Rattle.mono_dynamic.proofs.Exact.{along_undone}
use Rattle.mono_dynamic.proofs.Listed.{within_all}

abbrev row_of : ℕ → ℕ → List Arrival → Reached
row_of n u xs = record { nodes = n; source = u; arrivals = xs }

-- a row that has nothing later stays as it is
back_same : (looked : ℕ) (r : Reached) → ((i : ℕ) (d : Arrival) → i < length r.arrivals → (get_or r.arrivals i d).stamp ≤ looked) → back_to looked r ≡ r
back_same looked r fits = ap (λ (xs : List Arrival). let new : Reached = record { nodes = r.nodes; source = r.source; arrivals = xs } in new) (within_all looked r.arrivals fits)

pub reached_restored : (g : Digraph) (Q : List Bool) (ks : List ℕ) (looked : ℕ) (old mid new : Reached) → IsRow g.nodes looked old → OrSame (IsGrownRow g Q ks (looked + 1)) old mid → new ≡ back_to looked mid → new ≡ old
reached_restored g Q ks looked old mid new fits (inl same) back = back ∙ (ap (back_to looked) same ∙ back_same looked old fits.stamps)
reached_restored g Q ks looked old mid new fits (inr grown) back =
    back
    ∙ (row_by mid.nodes old.nodes mid.source old.source (within looked mid.arrivals) (within looked old.arrivals) grown.nodes grown.source (grown.earlier looked (omega arith))
    ∙ back_same looked old fits.stamps)
  where
    row_by : (n m u v : ℕ) (xs ys : List Arrival) → n ≡ m → u ≡ v → xs ≡ ys → row_of n u xs ≡ row_of m v ys
    row_by n m u v xs ys same_nodes same_source same = cc

pub all_grown : (g : Digraph) (Q : List Bool) (ks : List ℕ) (stamp : ℕ) (olds news : List Reached) → AllZip (IsGrownRow g Q ks stamp) olds news
    → (parts : ℕ → List Bool) (n : ℕ) → AreAllReached g parts n olds → GrowsAfter parts n stamp Q ks → AreAllReached g parts stamp news
all_grown g Q ks stamp olds news r parts n all grows = record {
  each = λ i lt.
      let there : i < length olds = (let len = length_all_zip (IsGrownRow g Q ks stamp) olds news r in omega arith) in
      let row = AllZip-get_or (IsGrownRow g Q ks stamp) olds news i no_row no_row r there in
      subst (λ (u : ℕ). AreReachedAlong g parts stamp u (row_at news i).arrivals) (sym row.source) (row.along parts n (all.each i there) grows);
}

pub all_undone : (kept : ℕ) (olds news : List Reached) → AllZip (λ old new. new ≡ back_to kept old) olds news
    → (g : Digraph) (parts : ℕ → List Bool) (n : ℕ) → kept ≤ n → AreAllReached g parts n olds → AreAllReached g parts kept news
all_undone kept olds news is g parts n le all = record {
  each = λ i lt.
      let there : i < length olds = (let len = length_all_zip (λ old new. new ≡ back_to kept old) olds news is in omega arith) in
      subst (λ (r : Reached). AreReachedAlong g parts kept r.source r.arrivals) (sym (AllZip-get_or (λ old new. new ≡ back_to kept old) olds news i no_row no_row is there))
      (along_undone g parts kept n (row_at olds i).source (row_at olds i).arrivals le (all.each i there));
}
