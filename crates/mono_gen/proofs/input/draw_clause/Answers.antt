use Rattle.std.proofs.Common.{◌∙◌, ap}
use Rattle.rand_pcg.specs.Lcg.{Lcg}
use Rattle.mono_gen.specs.Draws.{after}
use Rattle.mono_gen.proofs.Joining.{three_draws, after_fifth}
use Rattle.mono_gen.proofs.input.draw_clause.Goals as goal

pub returns-clause-value : goal.returns-clause-value
returns-clause-value c =
    c.three.ensures
    ∙ three_draws c.args.edges c.args.words.now c.draw_variable-first.new.words c.draw_literal-second.new.words
    c.draw_variable-first.result c.draw_literal-second.result c.draw_literal-third.result
    c.draw_variable-first.ensures.value c.draw_variable-first.ensures.next
    c.draw_literal-second.ensures.value c.draw_literal-second.ensures.next c.draw_literal-third.ensures.value

pub returns-clause-next : goal.returns-clause-next
returns-clause-next c =
    c.draw_literal-third.ensures.next
    ∙ (ap (λ (g : Lcg). after 2 g) (c.draw_literal-second.ensures.next ∙ ap (λ (g : Lcg). after 2 g) c.draw_variable-first.ensures.next)
    ∙ after_fifth c.args.words.now)
