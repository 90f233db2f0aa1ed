use Rattle.std.proofs.Common.{arith}
use Rattle.mono_rows.proofs.judged.verdicts_that_values_lack.Goals as goal

pub returns : goal.returns
returns c = record {
  model = λ k d lt. absurd (omega (arith, lt));
  refutation = λ v. v;
  progress = λ v. v;
  clause_false = λ v. v;
}
