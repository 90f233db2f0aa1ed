use Rattle.std.proofs.Common.{ℕ, ◌%◌, ap}
use Rattle.rand_pcg.specs.Lcg.{Lcg}
use Rattle.mono_gen.specs.Draws.{after, draw}
use Rattle.mono_gen.proofs.input.draw.Goals as goal

pub returns-clause-value : goal.returns-clause-value
unfolding draw
returns-clause-value c = ap (λ (p : ℕ × Lcg). p.0 % c.args.below) c.next_word.ensures

pub returns-clause-next : goal.returns-clause-next
unfolding after
returns-clause-next c = ap (λ (p : ℕ × Lcg). p.1) c.next_word.ensures
