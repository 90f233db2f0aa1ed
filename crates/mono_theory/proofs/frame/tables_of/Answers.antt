use Rattle.std.proofs.Common.{arith}
use Rattle.mono_theory.proofs.FramesStay.{IsFrame-new}
use Rattle.mono_theory.proofs.frame.tables_of.Goals as goal

pub returns-clause-frame : goal.returns-clause-frame
returns-clause-frame c =
    IsFrame-new c.known.ensures.graph c.requires.known c.requires.few c.in_ok-edges.ensures.bounds c.in_ok-own.ensures.bounds c.in_ok-numbers.ensures c.in_ok-vars.ensures
    (omega (arith, c.in_ok-lits.ensures.exact, c.edge_count-count.ensures)) (omega (arith, c.in_ok-edges.ensures.cells, c.edge_count-count.ensures)) (omega (arith, c.in_ok-own.ensures.cells, c.edge_count-count.ensures))
