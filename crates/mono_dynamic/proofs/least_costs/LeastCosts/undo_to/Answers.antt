use Rattle.std.proofs.Common.{◌≡◌, ℕ, List, take, drop, ◌∙◌, ap, subst}
use Rattle.mono_dynamic.specs.declared.change.Change.{Change}
use Rattle.mono_dynamic.specs.Costs.{Costs, labels_after, made_by, made_after, unwound}
use Rattle.mono_dynamic.proofs.LeastExact.{least_along_undone}
use Rattle.mono_dynamic.proofs.least_costs.LeastCosts.undo_to.Goals as goal

pub returns-clause-along : goal.returns-clause-along
returns-clause-along c = λ g parts n u le r.
    let t : Costs = c.args.self.now in
    let count : ℕ = c.count_by-count.result in
    let first : take count t.changes ≡ made_by c.args.kept t.changes = subst (λ (s : Costs). take count s.changes ≡ made_by c.args.kept s.changes) c.self.view_is c.count_by-count.ensures.first in
    let rest : drop count t.changes ≡ made_after c.args.kept t.changes = subst (λ (s : Costs). drop count s.changes ≡ made_after c.args.kept s.changes) c.self.view_is c.count_by-count.ensures.rest in
    let undone : c.undo_to.new.self ≡ record t { labels = unwound t.labels (drop count t.changes); changes = take count t.changes } =
    subst (λ (s : Costs). c.undo_to.new.self ≡ record s { labels = unwound s.labels (drop count s.changes); changes = take count s.changes }) c.self.view_is c.undo_to.ensures in
    let is : c.undo_to.new.self ≡ record t { labels = labels_after c.args.kept t; changes = made_by c.args.kept t.changes } =
    undone
    ∙ (ap (λ (cs : List Change). let s : Costs = record t { labels = unwound t.labels cs; changes = take count t.changes } in s) rest
    ∙ ap (λ (cs : List Change). let s : Costs = record t { labels = labels_after c.args.kept t; changes = cs } in s) first)
    in
    least_along_undone g parts c.args.kept n u count t c.undo_to.new.self le first rest is r
