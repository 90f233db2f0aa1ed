use Rattle.std.proofs.Common.{refl, []}
use Rattle.mono_answer.specs.declared.answer.Answer.TheVariants as answer
use Rattle.mono_check.specs.declared.verdict.Verdict.TheVariants as verdict
use Rattle.mono_check.proofs.worked.worked_migrations.Goals as goal

pub returns-clause-progress : goal.returns-clause-progress
returns-clause-progress c = record {
  verdict = verdict.Progress 0;
  judged = refl;
  accepted = refl;
  answer = answer.Progress [];
  stands = ([], (2, refl), refl);
  is = refl;
}
