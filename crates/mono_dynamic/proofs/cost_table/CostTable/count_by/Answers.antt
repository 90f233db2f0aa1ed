use Rattle.std.proofs.Common.{◌≡◌, ◌<◌, ◌≤◌, ◌-◌, take, drop, length, subst, arith, inl, inr}
use Rattle.std.proofs.lemmas.List.{get_or_read}
use Rattle.mono_dynamic.specs.declared.change.Change.{Change}
use Rattle.mono_dynamic.specs.Costs.{Costs, no_change, made_by, made_after}
use Rattle.mono_dynamic.proofs.CostLists.{split_by}
use Rattle.mono_dynamic.proofs.cost_table.CostTable.count_by.Goals as goal

at_stamp : (c : goal.Else-index-kept) → (take c.loop-count.count c.args.self.now.changes ≡ made_by c.args.kept c.args.self.now.changes) × (drop c.loop-count.count c.args.self.now.changes ≡ made_after c.args.kept c.args.self.now.changes)
at_stamp c =
    let top : c.loop-count.count - 1 < length c.self.inside.changes.items = (let some = c.loop-count-test.true in let held = c.loop-count.invariant.held in omega arith) in
    subst (λ (t : Costs). (take c.loop-count.count t.changes ≡ made_by c.args.kept t.changes) × (drop c.loop-count.count t.changes ≡ made_after c.args.kept t.changes)) c.self.view_is
    (split_by c.args.kept c.loop-count.count c.self.inside.changes.items c.self.invariant.rising c.loop-count.invariant.held
    (inr (subst (λ (a : Change). a.stamp ≤ c.args.kept) (get_or_read c.self.inside.changes.items (c.loop-count.count - 1) c.index.result.now top c.index.ensures no_change) c.if-index-kept.false))
    c.loop-count.invariant.later)

pub returns-else-index-kept-clause-first : goal.returns-else-index-kept-clause-first
returns-else-index-kept-clause-first c = (at_stamp c).0

pub returns-else-index-kept-clause-rest : goal.returns-else-index-kept-clause-rest
returns-else-index-kept-clause-rest c = (at_stamp c).1

at_start : (c : goal.After-loop-count) → (take c.loop-count.count c.args.self.now.changes ≡ made_by c.args.kept c.args.self.now.changes) × (drop c.loop-count.count c.args.self.now.changes ≡ made_after c.args.kept c.args.self.now.changes)
at_start c =
    subst (λ (t : Costs). (take c.loop-count.count t.changes ≡ made_by c.args.kept t.changes) × (drop c.loop-count.count t.changes ≡ made_after c.args.kept t.changes)) c.self.view_is
    (split_by c.args.kept c.loop-count.count c.self.inside.changes.items c.self.invariant.rising c.loop-count.invariant.held
    (inl (let none = c.loop-count-test.false in omega arith))
    c.loop-count.invariant.later)

pub returns-after-loop-count-clause-first : goal.returns-after-loop-count-clause-first
returns-after-loop-count-clause-first c = (at_start c).0

pub returns-after-loop-count-clause-rest : goal.returns-after-loop-count-clause-rest
returns-after-loop-count-clause-rest c = (at_start c).1
