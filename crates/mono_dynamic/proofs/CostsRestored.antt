-- A row of least costs that grew by one step is what it was once that step is taken back.
use Rattle.std.proofs.Common.{◌≡◌, ℕ, ◌+◌, ◌-◌, ◌<◌, ◌≤◌, Bool, List, length, drop, refl, sym, ap, subst, ◌∙◌, inl, inr, arith}
use Rattle.std.specs.Prelude.{All}
use Rattle.std.proofs.lemmas.List.{length-append, get_or_append_left, get_or-append_right}
use Rattle.mono_graph.specs.Digraph.{Digraph}
use Rattle.mono_dynamic.specs.declared.change.Change.{Change}
use Rattle.mono_dynamic.specs.BySource.{OrSame}
use Rattle.mono_dynamic.specs.Costs.{Costs, no_change, change_at, made_by, unwound, IsLater}
use Rattle.mono_dynamic.specs.LeastRows.{costs_back, IsCostRow, IsGrownCosts, IsBackCosts}
use Rattle.mono_dynamic.proofs.CostLists.{later_none, later_undone, split_at}

-- what was added is taken back
one_back : (kept stamp : ℕ) (old now : Costs) → kept < stamp → All (λ (c : Change). c.stamp ≤ kept) old.changes → IsLater stamp old now → costs_back kept now ≡ old
one_back kept stamp old now less early later =
    let n : ℕ = length old.changes in
    let parts = split_at kept n now.changes
    (λ i lt here.
    subst (λ (c : Change). c.stamp ≤ kept) (sym (ap (λ (cs : List Change). change_at cs i) later.changes ∙ get_or_append_left old.changes later.added no_change i lt)) (early i no_change lt))
    (λ i le here.
    let size : length now.changes ≡ length old.changes + length later.added = ap (λ (cs : List Change). length cs) later.changes ∙ length-append old.changes later.added in
    let at : change_at now.changes i ≡ change_at later.added (i - n) = ap (λ (cs : List Change). change_at cs i) later.changes ∙ get_or-append_right old.changes later.added n i no_change refl le in
    let late : (change_at later.added (i - n)).stamp ≡ stamp = later.stamps (i - n) no_change (omega arith) in
    subst (λ (c : Change). kept < c.stamp) (sym at) (omega arith))
    in
    later_undone stamp n old now (costs_back kept now) refl later
    (ap (λ (cs : List Change). let t : Costs = record { limit = now.limit; cap = now.cap; labels = unwound now.labels cs; changes = made_by kept now.changes } in t) (sym parts.1)
    ∙ ap (λ (cs : List Change). let t : Costs = record { limit = now.limit; cap = now.cap; labels = unwound now.labels (drop n now.changes); changes = cs } in t) (sym parts.0))

pub costs_restored : (g : Digraph) (Q : List Bool) (ks : List ℕ) (looked : ℕ) (old mid new : Costs) → IsCostRow g.nodes looked old → OrSame (IsGrownCosts g Q ks (looked + 1)) old mid → IsBackCosts looked mid new → new ≡ old
costs_restored g Q ks looked old mid new fits (inr grown) back = back.is ∙ one_back looked (looked + 1) old mid (omega arith) fits.stamps grown.later
costs_restored g Q ks looked old mid new fits (inl same) back = back.is ∙ (ap (costs_back looked) same ∙ one_back looked (looked + 1) old old (omega arith) fits.stamps (later_none (looked + 1) old))
