use Rattle.std.proofs.Common.{sym}
use Rattle.mono_problem.proofs.FlatLists.{list_at}
use Rattle.mono_problem.proofs.clause_list.clause_at.Goals as goal

pub returns : goal.returns
returns c =
    let at = list_at 0 c.args.lits.now c.args.ends.now c.args.place c.requires.place in
    rw (c.bounds_of-start.ensures.start, c.bounds_of-start.ensures.end) (sym at)
