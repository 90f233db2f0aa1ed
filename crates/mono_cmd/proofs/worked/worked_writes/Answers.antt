use Rattle.std.proofs.Common.{codes, refl, arith}
use Rattle.mono_cmd.proofs.worked.worked_writes.Goals as goal

pub returns-clause-prefix : goal.returns-clause-prefix
returns-clause-prefix c = record { count = 3; within = omega arith; appended = refl }

pub returns-clause-wrote : goal.returns-clause-wrote
returns-clause-wrote c = record {
  file = codes "f";
  answer = codes "a";
  is = refl;
  text = codes "";
  told = refl;
  stands = (refl, refl);
  there = codes "x";
  held = refl;
  wrote = refl;
}
