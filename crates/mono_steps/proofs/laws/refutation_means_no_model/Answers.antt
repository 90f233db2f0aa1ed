use Rattle.mono_steps.proofs.StepTruth.{refutation_excludes}
use Rattle.mono_steps.proofs.laws.refutation_means_no_model.Goals as goal

pub returns : goal.returns
returns c = refutation_excludes
