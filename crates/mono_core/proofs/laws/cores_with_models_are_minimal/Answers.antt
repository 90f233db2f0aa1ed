use Rattle.mono_core.proofs.Minimal.{minimal_core}
use Rattle.mono_core.proofs.laws.cores_with_models_are_minimal.Goals as goal

pub returns : goal.returns
returns c = minimal_core
