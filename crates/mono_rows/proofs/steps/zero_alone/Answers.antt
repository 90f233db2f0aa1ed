use Rattle.std.proofs.Common.{refl}
use Rattle.mono_steps.proofs.LeftOpen.{no_opposites}
use Rattle.mono_rows.proofs.steps.zero_alone.Goals as goal

pub returns : goal.returns
returns c = λ h. let e = no_opposites _ _ (h.chains.0 refl).new in cc
