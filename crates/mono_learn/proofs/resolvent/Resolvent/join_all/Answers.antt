use Rattle.std.proofs.Common.{subst, arith, List}
use Rattle.std.specs.Prelude.{ℤ}
use Rattle.mono_learn.proofs.LitSets.{has-without, has_read, same_if, true_false}
use Rattle.mono_learn.specs.Joins.{Joins}
use Rattle.mono_learn.proofs.Joining.{without_all, joins_none, joins_step_other, joins_step_same}
use Rattle.mono_learn.proofs.resolvent.Resolvent.join_all.Goals as goal
use Rattle.mono_learn.proofs.resolvent.Resolvent.join_all.Goals.{then-is_other+in_ok-join, else-is_other}

pub loop-lit-init : goal.loop-lit-init
loop-lit-init c = joins_none c.args.trail.now.lits c.args.start c.args.self.now c.requires.counted

pub join-requires-clause-slots : goal.join-requires-clause-slots
join-requires-clause-slots c = omega (arith, c.loop-lit.invariant.slots, c.requires.slots)

pub join-requires-clause-counted : goal.join-requires-clause-counted
join-requires-clause-counted c = c.loop-lit.invariant.counted

pub join-requires-clause-is_false : goal.join-requires-clause-is_false
join-requires-clause-is_false c = c.requires.are_false.are c.lit-item.result (has-without c.args.clause.now c.args.skip c.lit-item.result (c.is_other.ensures.0 c.if-is_other.true) (has_read c.args.clause.now c.loop-lit.lit-index c.lit-item.result c.loop-lit-test.true c.lit-item.is))

pub loop-lit-preserved : goal.loop-lit-preserved
loop-lit-preserved c = elim c.if-is_other.branch [
  | then-is_other+in_ok-join w ↦ joins_step_other c.args.trail.now.lits c.args.start c.args.self.now c.loop-lit.self w.join.new.self c.if-is_other.self c.args.clause.now c.loop-lit.lit-index c.args.skip c.lit-item.result w.self-is c.loop-lit-test.true c.lit-item.is (c.is_other.ensures.0 w.if-is_other.true) c.loop-lit.invariant w.in_ok-join.ensures
  | else-is_other w ↦ joins_step_same c.args.trail.now.lits c.args.start c.args.self.now c.loop-lit.self c.if-is_other.self c.args.clause.now c.loop-lit.lit-index c.args.skip c.lit-item.result w.self-is c.loop-lit-test.true c.lit-item.is
      (same_if c.lit-item.result c.args.skip (λ n. let t = c.is_other.ensures.1 n in true_false c.is_other.result t w.if-is_other.false)) c.loop-lit.invariant
]

pub returns : goal.returns
returns c = subst (λ (d : List ℤ). Joins c.args.trail.now.lits c.args.start c.args.self.now c.loop-lit.self d) (without_all c.args.clause.now c.loop-lit.lit-index c.args.skip c.loop-lit-test.false) c.loop-lit.invariant
