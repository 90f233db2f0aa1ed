use Rattle.std.proofs.Common.{length, sym, ap, ◌∙◌}
use Rattle.mono_problem.proofs.FlatLists.{length-lists_from}
use Rattle.mono_problem.proofs.clause_list.ClauseList.len.Goals as goal

pub returns : goal.returns
returns c =
    let counted = length-lists_from 0 c.self.inside.lits.items c.self.inside.ends.items in
    rw (← c.self.view_is) (ap length c.as_slice.ensures.value ∙ sym counted)
