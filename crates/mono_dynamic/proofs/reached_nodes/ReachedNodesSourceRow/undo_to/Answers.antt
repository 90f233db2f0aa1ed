use Rattle.mono_dynamic.proofs.RowsUndone.{reached_restored}
use Rattle.mono_dynamic.proofs.reached_nodes.ReachedNodesSourceRow.undo_to.Goals as goal

pub returns : goal.returns
returns c = record {
  is = c.undo_to.ensures.arrivals;
  restored = λ g Q ks row fits grown. reached_restored g Q ks c.args.kept row c.args.self.now c.undo_to.new.self fits grown c.undo_to.ensures.arrivals;
}
