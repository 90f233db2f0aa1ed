use Rattle.std.proofs.Common.{◌≤◌, ◌<ℤ◌, List, pos, take, All, subst, arith}
use Rattle.std.proofs.lemmas.List.{take_all}
use Rattle.std.proofs.lemmas.List.Elements.{All-more, All-weaker}
use Rattle.mono_paths.specs.declared.target.Target.{Target}
use Rattle.mono_paths.proofs.Reached.{raised}
use Rattle.mono_paths.proofs.asked.cap_above_all.Goals as goal
use Rattle.mono_paths.proofs.asked.cap_above_all.Goals.{then-cap-above, else-cap-above}

higher : (c : goal.Joined-cap-above) → (c.loop-target.cap ≤ c.if-cap-above.cap) × (c.cap_above-above.result ≤ c.if-cap-above.cap)
higher c = elim c.if-cap-above.branch [
  | then-cap-above w ↦ let low = w.if-cap-above.true in let is = w.cap-is in (omega arith, omega arith)
  | else-cap-above w ↦ let high = w.if-cap-above.false in let is = w.cap-is in (omega arith, omega arith)
]

pub loop-target-preserved : goal.loop-target-preserved
loop-target-preserved c =
    let up = higher c in
    record {
      some = let old = c.loop-target.invariant.some in let le = up.0 in omega arith;
      above =
          All-more (λ (t : Target). t.most <ℤ pos c.if-cap-above.cap) c.args.targets.now c.loop-target.target-index _ (omega arith)
          (All-weaker (λ (t : Target). t.most <ℤ pos c.loop-target.cap) (λ (t : Target). t.most <ℤ pos c.if-cap-above.cap) (λ t low. raised t.most c.loop-target.cap c.if-cap-above.cap low up.0) (take c.loop-target.target-index c.args.targets.now) c.loop-target.invariant.above)
          (raised _ c.cap_above-above.result c.if-cap-above.cap c.cap_above-above.ensures.above up.1);
    }

pub returns-clause-above : goal.returns-clause-above
returns-clause-above c =
    subst (λ (ts : List Target). All (λ (t : Target). t.most <ℤ pos c.loop-target.cap) ts) (take_all c.loop-target.target-index c.args.targets.now (omega arith)) c.loop-target.invariant.above
