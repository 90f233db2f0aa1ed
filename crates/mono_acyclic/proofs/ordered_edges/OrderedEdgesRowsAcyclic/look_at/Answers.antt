use Rattle.std.proofs.Common.{◌+◌, ap, sym, ◌∙◌, arith}
use Rattle.std.specs.Option.{is_some}
use Rattle.mono_theory.proofs.FramesStay.{lit_by}
use Rattle.mono_theory.proofs.SureEdges.{sure_still}
use Rattle.mono_acyclic.specs.Orders.{OrderedView}
use Rattle.mono_acyclic.proofs.OrderStays.{edges_cut, edges_in, edges_still}
use Rattle.mono_acyclic.proofs.ordered_edges.OrderedEdgesRowsAcyclic.look_at.Goals as goal

pub returns-then-not-is_positive-clause-looked : goal.returns-then-not-is_positive-clause-looked
returns-then-not-is_positive-clause-looked c =
    let f = c.args.frame.now in
    let n = c.args.looked in
    let h = edges_in f n (omega (arith, c.requires.more)) c.requires.right in
    let none = sym (c.is_some.ensures ∙ ap (λ (s : OrderedView). is_some s.closing) c.self.view_is) ∙ c.if-is_some.false in
    let same = sure_still f n c.args.lit c.requires.more c.requires.next (lit_by c.args.lit (omega (arith, c.var.ensures.low))) (sym c.is_positive.ensures ∙ c.if-not-is_positive.true) in
    edges_cut f (n + 1) (omega (arith, c.requires.more)) (edges_still f n c.args.self.now none same h)
