use Rattle.std.proofs.Common.{arith}
use Rattle.std.proofs.lemmas.Grind.{common_steps}
use Rattle.mono_text.proofs.lines.split_at_line_feed.Goals as goal

pub returns-else-end-text-clause-before : goal.returns-else-end-text-clause-before
returns-else-end-text-clause-before c = grind (arith, common_steps)
