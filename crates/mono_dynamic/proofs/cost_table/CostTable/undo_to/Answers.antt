use Rattle.std.proofs.Common.{ℕ, List, drop, sym, subst}
use Rattle.mono_dynamic.specs.declared.change.Change.{Change}
use Rattle.mono_dynamic.specs.Costs.{AreKept, AreLinked, unwound}
use Rattle.mono_dynamic.proofs.CostLists.{kept_unwound}
use Rattle.mono_dynamic.proofs.cost_table.CostTable.undo_to.Goals as goal

pub invariant_of-self : goal.invariant_of-self
invariant_of-self c =
    let linked = c.undo_changes_to.ensures.linked in
    subst (λ (ls : List ℕ). AreLinked ls c.undo_changes_to.new.changes.items c.undo_changes_to.new.latest.items → AreKept c.self.inside.cap ls c.undo_changes_to.new.changes.items c.undo_changes_to.new.latest.items) (sym c.undo_changes_to.ensures.labels)
    (subst (λ (cs : List Change). AreLinked (unwound c.self.inside.labels.items (drop c.args.count c.self.inside.changes.items)) cs c.undo_changes_to.new.latest.items → AreKept c.self.inside.cap (unwound c.self.inside.labels.items (drop c.args.count c.self.inside.changes.items)) cs c.undo_changes_to.new.latest.items) (sym c.undo_changes_to.ensures.changes)
    (kept_unwound c.self.inside.cap c.self.inside.labels.items c.self.inside.changes.items c.self.inside.latest.items c.undo_changes_to.new.latest.items c.args.count c.self.invariant)) linked
