use Rattle.std.proofs.Common.{refl}
use Rattle.std.specs.Fmt.{digits}
use Rattle.mono_gen.specs.Joined.{joined}
use Rattle.mono_gen.specs.Draws.{after, draw}
use Rattle.mono_rows.proofs.generated.worked_wall_of_three.Goals as goal

pub returns : goal.returns
unfolding joined after draw digits
returns c = record { wall = refl }
