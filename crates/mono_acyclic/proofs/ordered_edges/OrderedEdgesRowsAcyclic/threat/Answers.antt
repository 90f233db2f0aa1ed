use Rattle.std.proofs.Common.{ap, sym, ◌∙◌}
use Rattle.std.specs.Option.{is_some}
use Rattle.mono_acyclic.specs.Orders.{OrderedView}
use Rattle.mono_acyclic.proofs.Closers.{all_ordered, still_right}
use Rattle.mono_acyclic.proofs.ordered_edges.OrderedEdgesRowsAcyclic.threat.Goals as goal

pub find_threat-requires-clause-ordered : goal.find_threat-requires-clause-ordered
find_threat-requires-clause-ordered c =
    let s : OrderedView = record { ordered = c.self.inside.ordered; closing = c.self.inside.closing } in
    let none = sym c.is_some.ensures ∙ c.if-is_some.false in
    all_ordered c.args.frame.now c.args.looked s c.requires.all none (rw (← c.self.view_is) at c.requires.right)

pub returns-clause-right : goal.returns-clause-right
returns-clause-right c =
    let s : OrderedView = record { ordered = c.self.inside.ordered; closing = c.self.inside.closing } in
    let none = sym c.is_some.ensures ∙ c.if-is_some.false in
    still_right c.args.frame.now c.args.looked s c.find_threat.new.ordered c.requires.all none c.find_threat.ensures.ordered

pub returns-clause-shown : goal.returns-clause-shown
returns-clause-shown c = λ a. ap (λ (s : OrderedView). is_some s.closing) c.self.view_is
