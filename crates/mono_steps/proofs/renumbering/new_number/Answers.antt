use Rattle.std.proofs.Common.{rules}
use Rattle.mono_steps.proofs.renumbering.new_number.Goals as goal

pub returns-else-number-count : goal.returns-else-number-count
returns-else-number-count c = search rules
