use Rattle.std.proofs.Common.{subst, Option}
use Rattle.std.specs.Prelude.{IfSome}
use Rattle.mono_best.specs.Leaps.{IsFound}
use Rattle.mono_best.specs.declared.gap.Found.{Found}
use Rattle.mono_best.proofs.leaping.met_or.Goals as goal

pub returns-in-Some : goal.returns-in-Some
returns-in-Some c = λ p n budget k met first. subst (λ (o : Option Found). IfSome o (IsFound p n k)) c.in-Some.is met
