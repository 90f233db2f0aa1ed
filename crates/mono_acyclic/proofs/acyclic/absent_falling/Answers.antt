use Rattle.std.proofs.Common.{ℕ, Bool, ◌∷◌, [], ◌++◌, not, ◌&&◌, sym, ◌∙◌, ap, rules}
use Rattle.std.specs.Prelude.{slice_index}
use Rattle.mono_graph.specs.Digraph.{edge_at, present}
use Rattle.mono_graph.proofs.Ranges.{filter_range_yes, filter_range_no}
use Rattle.mono_graph.specs.Cycles.{rises}
use Rattle.mono_acyclic.proofs.acyclic.absent_falling.Goals as goal
use Rattle.mono_acyclic.proofs.acyclic.absent_falling.Goals.{then-is_absent_falling+in_ok-push, else-is_absent_falling}

pub loop-place-preserved : goal.loop-place-preserved
loop-place-preserved c =
    let test : ℕ → Bool = λ k. not (present c.args.part.now k) && not (rises (λ u. slice_index c.args.ranks.now u) (edge_at c.args.graph.now k)) in
    let n = c.loop-place.place in
    elim c.if-is_absent_falling.branch [
      | then-is_absent_falling+in_ok-push w ↦ ap (λ v. v.items) w.edges-is ∙ w.in_ok-push.ensures.items ∙ ap (λ ks. ks ++ n ∷ []) c.loop-place.invariant ∙ sym (filter_range_yes test n (sym w.if-is_absent_falling.ensures))
      | else-is_absent_falling w ↦ ap (λ v. v.items) w.edges-is ∙ c.loop-place.invariant ∙ sym (filter_range_no test n (sym w.if-is_absent_falling.ensures))
    ]

pub loop-place-init : goal.loop-place-init
loop-place-init c = search rules
