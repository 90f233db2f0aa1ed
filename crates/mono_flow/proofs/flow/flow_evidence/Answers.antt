use Rattle.std.proofs.Common.{rules}
use Rattle.mono_flow.proofs.flow.flow_evidence.Goals as goal

pub returns : goal.returns
returns c = search rules
