use Rattle.std.proofs.Common.{arith}
use Rattle.mono_search.proofs.asking.any_prefers.Goals as goal

pub returns-then-prefers : goal.returns-then-prefers
returns-then-prefers g c = λ yes. omega (arith, c.requires c.loop-place.place-index 0 c.loop-place-test.true)
