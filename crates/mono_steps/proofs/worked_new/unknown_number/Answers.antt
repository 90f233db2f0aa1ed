use Rattle.std.proofs.Common.{refl}
use Rattle.mono_steps.proofs.worked_new.unknown_number.Goals as goal

pub returns : goal.returns
returns c = λ h. let e = (h.chains.0 refl).exact.named in cc
