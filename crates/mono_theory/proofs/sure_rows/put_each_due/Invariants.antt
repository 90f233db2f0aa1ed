use Rattle.std.proofs.Common.{◌≡◌, length, map}
use Rattle.mono_bounds.specs.DueNodes.{PutsRows}
use Rattle.mono_theory.proofs.sure_rows.put_each_due.Given as goal

abbrev pub invariant-loop-i : goal.invariant-loop-i
invariant-loop-i g l = record {
  end : l.i-end ≡ length l.rows;
  puts : PutsRows l.lasts.keys (λ r. map g.R.Change.AtNode.node (g.R.SourceRow.changed_after l.looked r)) l.rows l.i l.fn.due.listed l.due.listed;
}
