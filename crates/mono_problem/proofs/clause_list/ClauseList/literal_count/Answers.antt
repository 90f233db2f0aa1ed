use Rattle.std.proofs.Common.{length, ap, arith}
use Rattle.mono_problem.proofs.FlatLists.{total-lists_from}
use Rattle.mono_problem.proofs.clause_list.ClauseList.literal_count.Goals as goal

pub returns : goal.returns
returns c =
    let counted = total-lists_from 0 c.self.inside.lits.items c.self.inside.ends.items c.self.invariant in
    rw (← c.self.view_is) (omega (arith, counted, ap length c.as_slice.ensures.value))
