use Rattle.std.proofs.Common.{rules}
use Rattle.mono_flow.proofs.flow.slack_of.Goals as goal

pub returns : goal.returns
returns c = search rules
