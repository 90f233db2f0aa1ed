use Rattle.std.proofs.Common.{subst}
use Rattle.mono_search.specs.Solving.{IsSolved}
use Rattle.mono_forms.proofs.Solutions.{model_solves, refutation_solves, progress_solves}
use Rattle.mono_forms.proofs.solving.answer_of.Goals as goal

pub returns-in-Model : goal.returns-in-Model
returns-in-Model c = λ p budget ok h. model_solves p budget c.in-Model.values ok (subst (IsSolved p budget) c.in-Model.is h)

pub returns-in-Refutation : goal.returns-in-Refutation
returns-in-Refutation c = λ p budget ok h. refutation_solves p budget c.in-Refutation.steps ok (subst (IsSolved p budget) c.in-Refutation.is h)

pub returns-in-Progress : goal.returns-in-Progress
returns-in-Progress c = λ p budget ok h. progress_solves p budget c.in-Progress.steps ok (subst (IsSolved p budget) c.in-Progress.is h)
