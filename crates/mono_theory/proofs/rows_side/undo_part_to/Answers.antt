use Rattle.std.proofs.Common.{◌≡◌, ◌+◌, ◌-◌, take, arith, ap, ◌∙◌, ℕ}
use Rattle.mono_theory.specs.Supports.{part_of}
use Rattle.mono_theory.proofs.rows_side.undo_part_to.Goals as goal

pub follow_back-requires-clause-part : goal.follow_back-requires-clause-part
follow_back-requires-clause-part c =
    let more : c.back.at ≡ c.back.at - 1 + 1 = omega (arith, c.back-test.true) in
    c.back.invariant.part ∙ ap (λ (k : ℕ). part_of c.args.frame.now.graph (take k c.args.frame.now.seen) c.args.possible) more
