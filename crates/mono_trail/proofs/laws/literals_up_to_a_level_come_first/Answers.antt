use Rattle.std.proofs.Common.{arith}
use Rattle.mono_trail.proofs.Levels.{up_to_level}
use Rattle.mono_trail.proofs.laws.literals_up_to_a_level_come_first.Goals as goal

pub returns : goal.returns
returns c = λ t level k sound lt. up_to_level 0 t.marks t.level level k sound.climbs (omega (arith, lt, sound.as_many))
