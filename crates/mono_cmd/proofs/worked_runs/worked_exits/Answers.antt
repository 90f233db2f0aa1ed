use Rattle.std.proofs.Common.{None}
use Rattle.mono_cmd.proofs.ExitNumbers.{not_2, not_3, not_5, not_8}
use Rattle.mono_cmd.proofs.worked_runs.worked_exits.Goals as goal

pub returns-clause-other_number : goal.returns-clause-other_number
returns-clause-other_number c = not_3

pub returns-clause-no_number : goal.returns-clause-no_number
returns-clause-no_number c = not_8 None

pub returns-clause-write_fault_without_a_failure : goal.returns-clause-write_fault_without_a_failure
returns-clause-write_fault_without_a_failure c = not_5 None

pub returns-clause-failure_without_a_write_fault : goal.returns-clause-failure_without_a_write_fault
returns-clause-failure_without_a_write_fault c = not_2 None
