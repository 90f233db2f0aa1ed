use Rattle.std.proofs.Common.{length, rules}
use Rattle.mono_learn.proofs.LitSets.{has_read}
use Rattle.mono_learn.proofs.PlacesOfLits.{is_var_false}
use Rattle.mono_learn.proofs.levels.highest.Goals as goal

pub level_of-requires : goal.level_of-requires
level_of-requires c = rw c.var.ensures.value (is_var_false c.args.trail.now (length c.args.trail.now.lits) c.lit-item.result c.requires.sound (c.requires.are_false.are c.lit-item.result (has_read c.args.lits.now c.loop-lit.lit-index c.lit-item.result c.loop-lit-test.true c.lit-item.is)))

pub loop-lit-init : goal.loop-lit-init
loop-lit-init c = search rules
