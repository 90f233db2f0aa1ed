use Rattle.std.proofs.Common.{arith}
use Rattle.mono_theory.proofs.kept_side.KeptSide.take_up.Goals as goal

-- what stands on the side once its lists of watchers are short
pub watch-requires-clause-its : goal.watch-requires-clause-its
watch-requires-clause-its c =
    let side = c.renew.ensures.side in
    side.watched.each c.args.atom (let lt = c.requires.next.known in omega (arith, lt, c.requires.side.stages_len))
