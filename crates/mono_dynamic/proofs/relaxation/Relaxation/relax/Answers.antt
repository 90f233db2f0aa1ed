use Rattle.std.proofs.Common.{◌+◌, ℕ, length, refl, sym, subst, ◌∙◌, arith, rules}
use Rattle.std.proofs.lemmas.Bool.{both_ways}
use Rattle.std.specs.BinaryHeap.{heap_items}
use Rattle.mono_dynamic.specs.declared.change.Change.{Change}
use Rattle.mono_dynamic.specs.Costs.{IsLast}
use Rattle.mono_dynamic.proofs.CostLists.{later_none, later_one, later_same}
use Rattle.mono_dynamic.proofs.Tight.{relaxed_lower, relaxed_pass}
use Rattle.mono_dynamic.proofs.relaxation.Relaxation.relax.Goals as goal

pub returns-clause-relaxed : goal.returns-clause-relaxed
returns-clause-relaxed c = λ ks.
    let x = c.edge-edge.result in
    let change : Change = record { node = x.to; place = c.args.place; before = c.last.result; previous = c.last-2.result; old = c.label-old.result; label = c.label-start.result + c.cost_of-cost.result; stamp = c.args.step.now.stamp } in
    relaxed_lower c.args.step.now.graph.now c.args.step.now.part.now c.args.place c.cost_of-cost.result ks x change c.args.self.now.table c.lower.new.self
    (heap_items c.args.self.now.queue) (heap_items c.push.new.self) c.left.result c.requires.place c.edge-edge.ensures.edge (sym c.has.ensures ∙ c.if-not-has.false) c.edge-edge.ensures.from c.edge-edge.ensures.to c.requires.row.sized
    c.cost_of-cost.ensures refl refl c.label-old.ensures.label (let e = c.label-start.ensures.label in omega arith)
    (let e = c.label-old.ensures.label in let more = c.if-old-start.false in let b = c.if-old-start-2.false in omega arith) (let e = c.label-old.ensures.label in let m = c.label-old.ensures.most in omega arith)
    c.last.ensures c.in_ok-lower.ensures.lowered c.left.ensures c.in_ok-push.ensures.permutation

pub returns-clause-later : goal.returns-clause-later
returns-clause-later c = later_one c.args.step.now.stamp _ _ _ refl c.label-old.ensures.label c.in_ok-lower.ensures.lowered

pub returns-in_err-push-clause-later : goal.returns-in_err-push-clause-later
returns-in_err-push-clause-later c = later_one c.args.step.now.stamp _ _ _ refl c.label-old.ensures.label c.in_ok-lower.ensures.lowered

pub returns-in_err-lower-clause-later : goal.returns-in_err-lower-clause-later
returns-in_err-lower-clause-later c = later_same c.args.step.now.stamp _ _ c.in_err-lower.ensures.unchanged

pub returns-then-not-has-clause-later : goal.returns-then-not-has-clause-later
returns-then-not-has-clause-later c = later_none c.args.step.now.stamp c.args.self.now.table

pub returns-then-not-has-clause-relaxed : goal.returns-then-not-has-clause-relaxed
returns-then-not-has-clause-relaxed c = λ ks. relaxed_pass _ _ _ ks _ _ (λ here. absurd (both_ways _ (sym c.has.ensures ∙ c.if-not-has.true) here))

pub returns-then-old-start-clause-later : goal.returns-then-old-start-clause-later
returns-then-old-start-clause-later c = later_none c.args.step.now.stamp c.args.self.now.table

pub lower-requires-clause-below : goal.lower-requires-clause-below
lower-requires-clause-below c = omega (arith, c.if-old-start.false, c.if-old-start-2.false)

pub lower-requires-clause-before : goal.lower-requires-clause-before
lower-requires-clause-before c = c.last.ensures.held

pub lower-requires-clause-previous : goal.lower-requires-clause-previous
lower-requires-clause-previous c =
    subst (λ (l : ℕ). IsLast c.args.self.now.table.changes (length c.args.self.now.table.changes) c.edge-edge.result.to l c.last-2.result) (sym c.label-old.ensures.label) c.last-2.ensures

pub lower-requires-clause-stamps : goal.lower-requires-clause-stamps
lower-requires-clause-stamps c = c.requires.row.stamps

pub returns-then-old-start-clause-relaxed : goal.returns-then-old-start-clause-relaxed
returns-then-old-start-clause-relaxed c = search rules
