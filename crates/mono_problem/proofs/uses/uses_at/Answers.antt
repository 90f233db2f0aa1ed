use Rattle.mono_problem.proofs.SortedUses.{range-is}
use Rattle.mono_problem.proofs.uses.uses_at.Goals as goal

pub returns : goal.returns
returns c = range-is c.args.vars.now c.args.uses.now c.args.var c.range_of-start.result.0 c.range_of-start.result.1 c.requires.same c.range_of-start.ensures.rises c.range_of-start.ensures.within c.range_of-start.ensures.range
