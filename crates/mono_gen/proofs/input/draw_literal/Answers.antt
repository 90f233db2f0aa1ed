use Rattle.std.proofs.Common.{◌∙◌, ap}
use Rattle.rand_pcg.specs.Lcg.{Lcg}
use Rattle.mono_gen.specs.Draws.{after}
use Rattle.mono_gen.proofs.Joining.{after_second}
use Rattle.mono_gen.proofs.input.draw_literal.Goals as goal

pub returns-then-draw-eq1-clause-next : goal.returns-then-draw-eq1-clause-next
returns-then-draw-eq1-clause-next c = c.draw.ensures.next ∙ (ap (λ (g : Lcg). after 1 g) c.draw_variable-variable.ensures.next ∙ after_second c.args.words.now)

pub returns-else-draw-eq1-clause-next : goal.returns-else-draw-eq1-clause-next
returns-else-draw-eq1-clause-next c = c.draw.ensures.next ∙ (ap (λ (g : Lcg). after 1 g) c.draw_variable-variable.ensures.next ∙ after_second c.args.words.now)
