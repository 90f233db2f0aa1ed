use Rattle.std.proofs.Common.{Bool, ap, sym, subst, ◌∙◌}
use Rattle.std.specs.Option.{is_some}
use Rattle.mono_problem.specs.Read.{no_atom}
use Rattle.mono_theory.specs.Evidences.{Decides, shown_by}
use Rattle.mono_theory.specs.Supports.{atom_at}
use Rattle.mono_theory.specs.SureParts.{sure_parts}
use Rattle.mono_acyclic.specs.Orders.{OrderedView}
use Rattle.mono_acyclic.proofs.OrderStays.{edges_decide, edges_in}
use Rattle.mono_acyclic.proofs.ordered_edges.OrderedEdgesRowsAcyclic.shows.Goals as goal

pub returns-clause-decides : goal.returns-clause-decides
returns-clause-decides c = λ on.
    let f = c.args.frame.now in
    let q = (atom_at f.atoms c.args.place).predicate in
    let is = c.is_some.ensures ∙ ap (λ (s : OrderedView). is_some s.closing) c.self.view_is in
    subst (λ (b : Bool). Decides f.graph (sure_parts f c.args.looked) q (shown_by q b)) (sym is ∙ on)
    (edges_decide f c.args.looked c.args.self.now q (c.requires.covered.each c.args.place no_atom c.requires.place) (edges_in f c.args.looked c.requires.looked c.requires.right))
