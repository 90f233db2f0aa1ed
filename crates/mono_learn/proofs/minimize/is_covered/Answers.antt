use Rattle.std.proofs.Common.{◌≡◌, true, false}
use Rattle.mono_learn.proofs.LitSets.{has-without, has_read, same_if, true_false}
use Rattle.mono_learn.proofs.MinimizingSteps.{covered_more, covered_same}
use Rattle.mono_learn.proofs.minimize.is_covered.Goals as goal
use Rattle.mono_learn.proofs.minimize.is_covered.Goals.{then-is_other+else-not-is_seen, else-is_other}

pub is_seen-requires-clause-is_false : goal.is_seen-requires-clause-is_false
is_seen-requires-clause-is_false c = c.requires.are_false.are c.lit-item.result (has-without c.args.clause.now c.args.skip c.lit-item.result (c.is_other.ensures.0 c.if-is_other.true) (has_read c.args.clause.now c.loop-lit.lit-index c.lit-item.result c.loop-lit-test.true c.lit-item.is))

pub loop-lit-preserved : goal.loop-lit-preserved
loop-lit-preserved c = elim c.if-is_other.branch [
  | then-is_other+else-not-is_seen w ↦ covered_more c.args.trail.now.lits c.args.seen.now c.args.clause.now c.loop-lit.lit-index c.args.skip c.lit-item.result c.loop-lit-test.true c.lit-item.is (c.is_other.ensures.0 w.if-is_other.true) (w.is_seen.ensures.on w.if-not-is_seen.false) c.loop-lit.invariant
  | else-is_other w ↦ covered_same c.args.trail.now.lits c.args.seen.now c.args.clause.now c.loop-lit.lit-index c.args.skip c.lit-item.result c.loop-lit-test.true c.lit-item.is
      (same_if c.lit-item.result c.args.skip (λ n. let t = c.is_other.ensures.1 n in true_false c.is_other.result t w.if-is_other.false)) c.loop-lit.invariant
]

pub returns-then-not-is_seen : goal.returns-then-not-is_seen
returns-then-not-is_seen c =
    let n = c.is_other.ensures.0 c.if-is_other.true in
    record {
      covered = λ e. absurd (let f : false ≡ true = e in cc);
      uncovered = λ e. record {
        lit = c.lit-item.result;
        has = has-without c.args.clause.now c.args.skip c.lit-item.result n (has_read c.args.clause.now c.loop-lit.lit-index c.lit-item.result c.loop-lit-test.true c.lit-item.is);
        open_by = c.is_seen.ensures.off c.if-not-is_seen.true;
      };
    }
