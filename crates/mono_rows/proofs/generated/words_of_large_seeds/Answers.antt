use Rattle.std.proofs.Common.{refl}
use Rattle.mono_gen.specs.Draws.{draw}
use Rattle.mono_rows.proofs.generated.words_of_large_seeds.Goals as goal

pub returns : goal.returns
unfolding draw
returns c = record { beyond_32_bits = refl; greatest = refl }
