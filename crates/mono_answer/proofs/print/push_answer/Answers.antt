use Rattle.std.proofs.Common.{rules}
use Rattle.mono_answer.proofs.print.push_answer.Goals as goal

pub returns-in-Progress : goal.returns-in-Progress
returns-in-Progress c = search rules
