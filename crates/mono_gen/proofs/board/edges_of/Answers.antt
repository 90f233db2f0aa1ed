use Rattle.std.proofs.Common.{◌++◌, ◌∙◌, ap, List, [], ℕ}
use Rattle.mono_gen.specs.Joined.{joined}
use Rattle.mono_gen.specs.Board.{edges_of_row}
use Rattle.mono_gen.proofs.Joining.{joined_more}
use Rattle.mono_gen.proofs.board.edges_of.Goals as goal

pub loop-row-init : goal.loop-row-init
unfolding joined
loop-row-init c = c.new-edges.ensures.items

pub loop-row-preserved : goal.loop-row-preserved
loop-row-preserved c =
    c.in_ok-push_row.ensures
    ∙ (ap (λ (t : List (ℕ × ℕ)). t ++ edges_of_row c.args.size c.loop-row.row) c.loop-row.invariant
    ∙ joined_more [] (λ r. edges_of_row c.args.size r) c.loop-row.row)
