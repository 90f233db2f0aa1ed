use Rattle.mono_flows.proofs.Decides.{full_value}
use Rattle.mono_flows.proofs.laws.full_cut_is_the_value.Goals as goal

pub returns : goal.returns
returns c = full_value
