use Rattle.std.proofs.Common.{refl}
use Rattle.mono_gen.specs.Joined.{joined}
use Rattle.mono_gen.proofs.worked.worked_edges.Goals as goal

pub returns : goal.returns
unfolding joined
returns c = record { two = refl; two_count = refl; three_count = refl; ten = refl; hundred = refl }
