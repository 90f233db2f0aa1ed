use Rattle.std.proofs.Common.{refl}
use Rattle.mono_gen.specs.Draws.{after, draw}
use Rattle.mono_gen.proofs.worked.worked_draws.Goals as goal

pub returns : goal.returns
unfolding after draw
returns c = record { first = refl; second = refl }
