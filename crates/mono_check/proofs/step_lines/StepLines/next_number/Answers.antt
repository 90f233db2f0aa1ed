use Rattle.std.proofs.Common.{rules}
use Rattle.mono_check.proofs.step_lines.StepLines.next_number.Goals as goal

pub returns : goal.returns
returns c = search rules
