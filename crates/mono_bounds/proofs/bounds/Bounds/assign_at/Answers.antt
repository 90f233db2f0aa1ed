use Rattle.std.proofs.Common.{sym, ◌∙◌}
use Rattle.mono_bounds.proofs.BoundsStay.{assigned_over, assigned_under}
use Rattle.mono_bounds.proofs.bounds.Bounds.assign_at.Goals as goal

pub returns-then-is_positive : goal.returns-then-is_positive
returns-then-is_positive c =
    let b = c.self.inside in
    let its = rw (← c.self.view_is) at c.requires in
    rw (← c.self.view_is) (assigned_under b.vars.keys b.vars.places b.under b.over c.args.lit c.switch.new.part (sym c.is_positive.ensures ∙ c.if-is_positive.true) (c.switch.ensures.part _ its.places))

pub returns-else-is_positive : goal.returns-else-is_positive
returns-else-is_positive c =
    let b = c.self.inside in
    let its = rw (← c.self.view_is) at c.requires in
    rw (← c.self.view_is)
    (assigned_over b.vars.keys b.vars.places b.under b.over c.args.lit c.switch-else-is_positive.new.part (sym c.is_positive.ensures ∙ c.if-is_positive.false) (c.switch-else-is_positive.ensures.part _ its.places))
