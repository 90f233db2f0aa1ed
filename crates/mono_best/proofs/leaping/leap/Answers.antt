use Rattle.std.proofs.Common.{subst}
use Rattle.mono_best.specs.Best.{IsReply}
use Rattle.mono_best.specs.declared.questions.Reply.{Reply}
use Rattle.mono_best.proofs.leaping.leap.Goals as goal

pub returns-in-Met : goal.returns-in-Met
returns-in-Met g c = subst (λ (r : Reply). IsReply c.args.problem.now c.args.atom 200 c.args.number r) c.in-Met.is c.in_ok-steps.ensures
