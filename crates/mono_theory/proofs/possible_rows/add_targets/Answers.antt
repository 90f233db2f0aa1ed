use Rattle.std.proofs.Common.{◌≡◌, ◌<◌, ◌+◌, ℕ, List, length, get_or, set, refl, sym, ap, subst, ◌∙◌, arith}
use Rattle.mono_dynamic.specs.declared.walk_target.WalkTarget.{WalkTarget}
use Rattle.mono_dynamic.specs.Targets.{Targets, TargetRows, targets_at}
use Rattle.mono_dynamic.specs.Ways.{IsTarget}
use Rattle.mono_theory.specs.PossibleRows.{target_at, AreEach, IsFilledRow}
use Rattle.mono_theory.proofs.PossibleDue.{asked_more, filled_more, with_target}
use Rattle.mono_theory.proofs.possible_rows.add_targets.Goals as goal

pub loop-place-preserved : goal.loop-place-preserved
loop-place-preserved c =
    let olds = c.args.rows.now.rows in
    let nows = c.loop-place.rows.rows in
    let row_of = c.args.row_of.now in
    let targets = c.args.targets.now in
    let place : ℕ = c.loop-place.place in
    let r : ℕ = get_or row_of place 0 in
    let t : WalkTarget = target_at targets place in
    let inv = c.loop-place.invariant in
    let lt : r < length nows = (let low = c.requires.rows place c.loop-place-test.true in let len = inv.filled.len in omega (arith, low, len)) in
    let rows : c.add_target.new.self.rows ≡ set nows r (with_target (targets_at nows r) t) = ap (λ (x : TargetRows). x.rows) c.in_ok-add_target.ensures.added in
    record {
      end = refl;
      nodes = ap (λ (x : TargetRows). x.nodes) c.in_ok-add_target.ensures.added ∙ inv.nodes;
      filled = subst (λ (rs : List Targets). AreEach IsFilledRow olds rs) (sym rows) (filled_more olds nows r t lt inv.filled);
      asked =
          subst (λ (rs : List Targets). (j : ℕ) → j < place + 1 → IsTarget (targets_at rs (get_or row_of j 0)).targets (target_at targets j)) (sym rows)
          (asked_more nows row_of targets place lt inv.asked);
    }
