use Rattle.std.proofs.Common.{arith}
use Rattle.mono_check.proofs.checker.Checker.unfed.Goals as goal

pub invariant_of-result : goal.invariant_of-result
invariant_of-result c = record {
  within = omega arith;
  kept = λ live. c.new.ensures.kept c.args.problem.now;
  few = λ live. omega (arith, c.new.ensures.size);
}
