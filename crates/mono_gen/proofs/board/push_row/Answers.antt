use Rattle.std.proofs.Common.{◌++◌, ◌∙◌, ap, List, ℕ}
use Rattle.mono_gen.specs.Board.{edges_from}
use Rattle.mono_gen.proofs.Joining.{joined_more, joined_none}
use Rattle.mono_gen.proofs.board.push_row.Goals as goal

pub loop-column-init : goal.loop-column-init
loop-column-init c = joined_none c.args.edges.now.items (λ q. edges_from c.args.size c.args.row q)

pub loop-column-preserved : goal.loop-column-preserved
loop-column-preserved c =
    c.in_ok-push_edges_from.ensures
    ∙ (ap (λ (t : List (ℕ × ℕ)). t ++ edges_from c.args.size c.args.row c.loop-column.column) c.loop-column.invariant
    ∙ joined_more c.args.edges.now.items (λ q. edges_from c.args.size c.args.row q) c.loop-column.column)
