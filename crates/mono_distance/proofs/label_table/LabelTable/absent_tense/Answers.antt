use Rattle.std.proofs.Common.{◌≡◌, sym, ◌∙◌, subst, length, ap}
use Rattle.std.proofs.lemmas.Result.{IfOk-weaker}
use Rattle.mono_graph.specs.Walks.{bound_of, label_at, is_tense}
use Rattle.mono_theory.specs.Resting.{AreAbsent}
use Rattle.mono_distance.specs.Labels.{absent_tense}
use Rattle.mono_distance.proofs.TableLabels.{IsTableOf, labels_small, tense_are_absent}
use Rattle.mono_distance.proofs.label_table.LabelTable.absent_tense.Goals as goal

pub invariant_of-labelled : goal.invariant_of-labelled
invariant_of-labelled c = record {
  part_of_graph = c.requires.part;
  sized = ap length c.as_slice.ensures.value ∙ c.enter.ensures.len ∙ c.self.view_is ∙ c.requires.size;
  small = rw c.as_slice.ensures.value (labels_small c.args.labels.now c.enter.new.entries.items c.others_of-others.result (λ i d lt. (c.requires.labels i d lt).1) c.others_of-others.ensures.small c.enter.ensures.entered);
}

pub returns-clause-edges : goal.returns-clause-edges
returns-clause-edges c =
    let g = c.args.graph.now in
    let P = c.args.part.now in
    let ls = c.args.labels.now in
    let entries = c.enter.new.entries.items in
    let others = c.others_of-others.result in
    let table : IsTableOf ls c.args.limit entries others = record { others_is = c.others_of-others.ensures.value; each = c.enter.ensures.entered } in
    IfOk-weaker c.absent_tense-found.result (λ edges. edges.items ≡ absent_tense g P entries others c.args.limit ls) _
    (λ edges is. subst (AreAbsent (is_tense (label_at ls (bound_of c.args.limit)) c.args.limit) g P) (sym is) (tense_are_absent g P table)) (rw c.as_slice.ensures.value at c.absent_tense-found.ensures)
