use Rattle.std.proofs.Common.{◌≡◌, ℕ, ◌-◌, ◌<◌, ◌≤◌, List, length, sym, subst, inl, inr, arith}
use Rattle.std.proofs.lemmas.List.{get_or_read}
use Rattle.mono_dynamic.specs.declared.change.Change.{Change}
use Rattle.mono_dynamic.specs.Costs.{Costs, no_change, label_of, IsGiven}
use Rattle.mono_dynamic.proofs.CostLinks.{IsBackAt, back_start, back_more, given_back}
use Rattle.mono_dynamic.proofs.cost_table.CostTable.given_after.Goals as goal

pub loop-last-init : goal.loop-last-init
loop-last-init c =
    let labels : List ℕ = c.self.inside.labels.items in
    let latest : List ℕ = c.self.inside.latest.items in
    let lt : c.args.node < length labels = subst (λ (t : Costs). c.args.node < length t.labels) (sym c.self.view_is) c.requires in
    let len : length latest ≡ length labels = c.self.invariant.linked.len in
    subst (λ (l : ℕ). IsBackAt labels c.self.inside.changes.items c.args.kept c.args.node l c.index-last.result.now) (sym (get_or_read labels c.args.node c.index-label.result.now lt c.index-label.ensures 0))
    (subst (λ (i : ℕ). IsBackAt labels c.self.inside.changes.items c.args.kept c.args.node (label_of labels c.args.node) i) (sym (get_or_read latest c.args.node c.index-last.result.now (omega arith) c.index-last.ensures 0))
    (back_start labels c.self.inside.changes.items latest c.args.kept c.args.node c.self.invariant.linked lt))

pub loop-last-preserved : goal.loop-last-preserved
loop-last-preserved c =
    let labels : List ℕ = c.self.inside.labels.items in
    let cs : List Change = c.self.inside.changes.items in
    let lt : c.args.node < length labels = subst (λ (t : Costs). c.args.node < length t.labels) (sym c.self.view_is) c.requires in
    let some = c.loop-last-test.true in
    let held = c.loop-last.invariant.own.held in
    let low = c.loop-last.invariant.low in
    let top : c.loop-last.last - 1 < length cs = omega arith in
    let past = subst (λ (x : Change). c.args.kept < x.stamp) (get_or_read cs (c.loop-last.last - 1) c.index.result.now top c.index.ensures no_change) c.if-index-kept.true in
    subst (λ (x : Change). IsBackAt labels cs c.args.kept c.args.node x.old x.previous) (sym (get_or_read cs (c.loop-last.last - 1) c.index-change.result.now top c.index-change.ensures no_change))
    (back_more labels cs c.self.inside.latest.items c.args.kept c.args.node c.loop-last.label c.loop-last.last c.self.invariant.linked c.self.invariant.rising lt some past c.loop-last.invariant)

pub returns-else-index-kept : goal.returns-else-index-kept
returns-else-index-kept c =
    let cs : List Change = c.self.inside.changes.items in
    let some = c.loop-last-test.true in
    let held = c.loop-last.invariant.own.held in
    let low = c.loop-last.invariant.low in
    let top : c.loop-last.last - 1 < length cs = omega arith in
    let t : Costs = record { limit = c.self.inside.limit; cap = c.self.inside.cap; labels = c.self.inside.labels.items; changes = cs } in
    subst (λ (s : Costs). IsGiven s c.args.kept c.args.node c.loop-last.label c.loop-last.last) c.self.view_is
    (given_back t c.args.kept c.args.node c.loop-last.label c.loop-last.last c.self.invariant.rising
    (inr (subst (λ (x : Change). x.stamp ≤ c.args.kept) (get_or_read cs (c.loop-last.last - 1) c.index.result.now top c.index.ensures no_change) c.if-index-kept.false))
    c.loop-last.invariant)

pub returns-after-loop-last : goal.returns-after-loop-last
returns-after-loop-last c =
    let none = c.loop-last-test.false in
    let t : Costs = record { limit = c.self.inside.limit; cap = c.self.inside.cap; labels = c.self.inside.labels.items; changes = c.self.inside.changes.items } in
    subst (λ (s : Costs). IsGiven s c.args.kept c.args.node c.loop-last.label c.loop-last.last) c.self.view_is
    (given_back t c.args.kept c.args.node c.loop-last.label c.loop-last.last c.self.invariant.rising (inl (omega arith)) c.loop-last.invariant)
