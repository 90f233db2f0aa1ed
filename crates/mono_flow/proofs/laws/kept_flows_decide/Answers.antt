use Rattle.mono_flow.proofs.KeptFlowsDecide.{over_decided, under_decided}
use Rattle.mono_flow.proofs.laws.kept_flows_decide.Goals as goal

pub returns : goal.returns
returns c = record { under = under_decided; over = over_decided }
