use Rattle.mono_dynamic.proofs.Exact.{along_first}
use Rattle.mono_dynamic.proofs.laws.source_alone_is_reached.Goals as goal

pub returns : goal.returns
returns c = along_first
