use Rattle.mono_flow.proofs.KeptFlowsStay.{over_stays, over_stays_back, under_stays}
use Rattle.mono_flow.proofs.laws.kept_flows_stay.Goals as goal

pub returns : goal.returns
returns c = record { assign_under = under_stays; assign_over = over_stays; undo_over = over_stays_back }
