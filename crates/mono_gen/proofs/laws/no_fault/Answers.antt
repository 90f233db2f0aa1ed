use Rattle.mono_gen.proofs.NoFault.{no_fault as never}
use Rattle.mono_gen.proofs.laws.no_fault.Goals as goal

pub returns : goal.returns
returns c = never
