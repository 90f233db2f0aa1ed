use Rattle.mono_bounds.proofs.BoundsStay.{assigned_is_bound, unassigned_is_bound}
use Rattle.mono_theory.proofs.FramesStay.{under_is, over_is}
use Rattle.mono_theory.proofs.laws.bounds_are_those_of_the_list.Goals as goal

pub returns-clause-assigned : goal.returns-clause-assigned
returns-clause-assigned c = assigned_is_bound

pub returns-clause-undone : goal.returns-clause-undone
returns-clause-undone c = unassigned_is_bound

pub returns-clause-under : goal.returns-clause-under
returns-clause-under c = under_is

pub returns-clause-over : goal.returns-clause-over
returns-clause-over c = over_is
