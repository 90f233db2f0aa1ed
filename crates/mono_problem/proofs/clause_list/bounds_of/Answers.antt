use Rattle.std.proofs.Common.{◌≡◌, ◌<◌, arith, slice_index, ◌-◌}
use Rattle.mono_problem.specs.Flat.{start_at}
use Rattle.mono_problem.proofs.FlatLists.{bounds_at, start_at-later}
use Rattle.mono_problem.proofs.clause_list.bounds_of.Goals as goal

pub returns-then-place-eq0-clause-within : goal.returns-then-place-eq0-clause-within
returns-then-place-eq0-clause-within c = (bounds_at 0 c.args.ends.now c.args.place c.args.len c.requires.ends c.requires.place).within

pub returns-else-place-eq0-clause-rises : goal.returns-else-place-eq0-clause-rises
returns-else-place-eq0-clause-rises c =
    let some : 0 < c.args.place = omega arith in
    let later : start_at 0 c.args.ends.now c.args.place ≡ slice_index c.args.ends.now (c.args.place - 1) = start_at-later 0 c.args.ends.now c.args.place some in
    rw (← later) ((bounds_at 0 c.args.ends.now c.args.place c.args.len c.requires.ends c.requires.place).rises)

pub returns-else-place-eq0-clause-within : goal.returns-else-place-eq0-clause-within
returns-else-place-eq0-clause-within c = (bounds_at 0 c.args.ends.now c.args.place c.args.len c.requires.ends c.requires.place).within
