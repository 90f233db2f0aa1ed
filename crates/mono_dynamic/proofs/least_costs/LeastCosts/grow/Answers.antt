use Rattle.std.proofs.Common.{◌≡◌, ◌≤◌, ◌∙◌, ℕ, [], List, Bool, length, ap, sym, subst}
use Rattle.std.specs.Prelude.{All}
use Rattle.mono_graph.specs.Digraph.{no_edge}
use Rattle.mono_dynamic.specs.declared.change.Change.{Change}
use Rattle.mono_dynamic.specs.Costs.{Costs, label_of, labels_after, IsLater, AreRelaxed, AreLeast, AreLed}
use Rattle.mono_dynamic.specs.Arrivals.{IsGrown}
use Rattle.mono_dynamic.specs.LeastRows.{IsCostRow}
use Rattle.mono_dynamic.proofs.CostLists.{later_earlier, later_same, later_stamps, later_undone}
use Rattle.mono_dynamic.proofs.LeastExact.{HasNodes, least_relaxed, least_along_grown}
use Rattle.mono_dynamic.proofs.least_costs.LeastCosts.grow.Goals as goal

pub relax_from-requires-clause-row : goal.relax_from-requires-clause-row
relax_from-requires-clause-row c = subst (λ (t : Costs). IsCostRow c.args.graph.now.nodes c.args.stamp t) (sym c.self.view_is) (record { sized = c.requires.size; stamps = c.requires.stamps })

later : (c : goal.In-Ok) → IsLater c.args.stamp c.args.self.now c.relax_from.new.self.table
later c = subst (λ (t : Costs). IsLater c.args.stamp t c.relax_from.new.self.table) c.self.view_is c.in-Ok.ensures.later

least : (c : goal.In-Ok) → (u : ℕ) (P : List Bool) → AreLeast c.args.graph.now P c.args.self.now.limit u c.args.self.now.cap c.args.self.now.labels → IsGrown P c.args.part.now c.args.places.now
    → AreLeast c.args.graph.now c.args.part.now c.args.self.now.limit u c.args.self.now.cap c.relax_from.new.self.table.labels
least c u P l grown =
    let ends : HasNodes c.args.graph.now = record { from = λ k lt. (c.known.ensures.graph.ends k no_edge lt).0 } in
    least_relaxed c.args.graph.now P c.args.part.now u c.args.places.now c.args.self.now c.relax_from.new.self.table ends (later c).len grown
    (subst (λ (t : Costs). AreRelaxed c.args.graph.now c.args.part.now c.args.places.now [] t c.relax_from.new.self.table [] [] []) c.self.view_is c.in-Ok.ensures.relaxed) l

led : (c : goal.In-Ok) → (u : ℕ) → label_of c.args.self.now.labels u ≡ 0 → AreLed c.args.graph.now c.args.part.now u c.args.self.now → AreLed c.args.graph.now c.args.part.now u c.relax_from.new.self.table
led c u none l =
    (subst (λ (t : Costs). AreRelaxed c.args.graph.now c.args.part.now c.args.places.now [] t c.relax_from.new.self.table [] [] []) c.self.view_is c.in-Ok.ensures.relaxed).led u none l

pub returns-in-Ok-clause-earlier : goal.returns-in-Ok-clause-earlier
returns-in-Ok-clause-earlier c = λ m less. later_earlier c.args.stamp m c.args.self.now c.relax_from.new.self.table (later c) less

pub returns-in-Ok-clause-least : goal.returns-in-Ok-clause-least
returns-in-Ok-clause-least c = least c

pub returns-in-Ok-clause-along : goal.returns-in-Ok-clause-along
returns-in-Ok-clause-along c = λ parts n u r grows.
    least_along_grown c.args.graph.now parts n c.args.stamp u c.args.self.now c.relax_from.new.self.table c.args.part.now c.args.places.now r grows (later c)
    (later_stamps c.args.stamp c.args.self.now c.relax_from.new.self.table (later c) c.requires.stamps) (least c u) (led c u)

pub returns-in-Ok-clause-later : goal.returns-in-Ok-clause-later
returns-in-Ok-clause-later c = later c

pub returns-in-Ok-clause-stamps : goal.returns-in-Ok-clause-stamps
returns-in-Ok-clause-stamps c = later_stamps c.args.stamp c.args.self.now c.relax_from.new.self.table (later c) c.requires.stamps

-- what came is taken back
back : (c : goal.After-undo_to) → c.undo_to.new.self ≡ c.args.self.now
back c = later_undone c.args.stamp c.change_count-count.result c.args.self.now c.relax_from.new.self.table c.undo_to.new.self
    (c.change_count-count.ensures ∙ ap (λ (t : Costs). length t.changes) c.self.view_is)
    (subst (λ (t : Costs). IsLater c.args.stamp t c.relax_from.new.self.table) c.self.view_is c.in-Err.ensures.later) c.undo_to.ensures

pub returns-in-Err-clause-later : goal.returns-in-Err-clause-later
returns-in-Err-clause-later c = later_same c.args.stamp c.args.self.now c.undo_to.new.self (back c)

pub returns-in-Err-clause-unchanged : goal.returns-in-Err-clause-unchanged
returns-in-Err-clause-unchanged c = back c

pub returns-in-Err-clause-stamps : goal.returns-in-Err-clause-stamps
returns-in-Err-clause-stamps c = subst (λ (t : Costs). All (λ (d : Change). d.stamp ≤ c.args.stamp) t.changes) (sym (back c)) c.requires.stamps

pub returns-in-Err-clause-earlier : goal.returns-in-Err-clause-earlier
returns-in-Err-clause-earlier c = λ m less. ap (labels_after m) (back c)
