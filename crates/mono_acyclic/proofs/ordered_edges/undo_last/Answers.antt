use Rattle.std.proofs.Common.{sym, ◌∙◌, arith}
use Rattle.mono_theory.proofs.FramesStay.{lit_by}
use Rattle.mono_theory.proofs.SureEdges.{sure_still}
use Rattle.mono_acyclic.proofs.OrderStays.{AreItsEdges, edges_told, ordered_back, ordered_still_back}
use Rattle.mono_acyclic.proofs.ordered_edges.undo_last.Goals as goal

pub returns-then-is_positive : goal.returns-then-is_positive
returns-then-is_positive c =
    let f = c.args.frame.now in
    let ks = c.edges_at.result.now in
    let lit = c.literal_at-lit.result in
    let its : AreItsEdges f c.args.at lit ks = edges_told f c.args.at lit ks c.requires.at (sym c.literal_at-lit.ensures) c.known.ensures.partial (sym c.is_positive.ensures ∙ c.if-is_positive.true) c.edges_at.ensures in
    let out = c.remove_all.ensures in
    ordered_back f c.args.at lit ks c.args.ordered.now c.remove_all.new.ordered its c.requires.ordered out.size out.part_size out.part (out.order f.graph)

pub returns-else-is_positive : goal.returns-else-is_positive
returns-else-is_positive c =
    let f = c.args.frame.now in
    let lit = c.literal_at-lit.result in
    let same = sure_still f c.args.at lit c.requires.at (sym c.literal_at-lit.ensures) (lit_by lit (omega (arith, c.var.ensures.low, c.var.ensures.value))) (sym c.is_positive.ensures ∙ c.if-is_positive.false) in
    ordered_still_back f c.args.at c.args.ordered.now same c.requires.ordered
