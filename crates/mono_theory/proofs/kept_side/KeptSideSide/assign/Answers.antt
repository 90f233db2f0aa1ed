use Rattle.std.proofs.Common.{ap, ◌∙◌}
use Rattle.mono_theory.specs.Supports.{SideView}
use Rattle.mono_theory.proofs.kept_side.KeptSideSide.assign.Goals as goal

pub returns-clause-right : goal.returns-clause-right
returns-clause-right g c = record { side = c.assign.ensures.side; thorough = ap (λ (x : SideView). x.thorough) c.assign.ensures.kept.same ∙ c.requires.right.thorough }
