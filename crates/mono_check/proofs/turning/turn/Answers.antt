use Rattle.std.proofs.Common.{rules, ◌≡◌, ℕ, ◌-◌, get_or, ap, ◌∙◌}
use Rattle.std.proofs.lemmas.List.Edits.{map_over_more}
use Rattle.std.proofs.Math.ListN.{set}
use Rattle.mono_check.proofs.turning.turn.Goals as goal

pub loop-place-preserved : goal.loop-place-preserved
loop-place-preserved c =
    let k = c.loop-place.place in
    let xs = c.loop-place.numbers in
    let x = get_or xs k 0 in
    let same : x ≡ get_or xs k x = search rules in
    ap (λ (n : ℕ). set xs k n) c.saturating_sub.ensures ∙ map_over_more (λ (d : ℕ). c.args.own - d) c.args.numbers.now xs k x c.loop-place-test.true c.loop-place.invariant same
