use Rattle.std.proofs.Common.{◌<◌, length, arith, ap}
use Rattle.mono_problem.proofs.FlatLists.{length-lists_from}
use Rattle.mono_problem.proofs.clause_list.ClauseList.get.Goals as goal

pub clause_at-requires-clause-place : goal.clause_at-requires-clause-place
clause_at-requires-clause-place c =
    let counted = length-lists_from 0 c.self.inside.lits.items c.self.inside.ends.items in
    let held : c.args.place < length c.args.self.now = c.requires in
    omega (arith, counted, ap length c.self.view_is, ap length c.as_slice-2.ensures.value)
