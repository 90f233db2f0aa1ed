use Rattle.std.proofs.Common.{◌≡◌, ℕ, ◌<◌, ◌≤◌, Bool, List, length, sym, subst}
use Rattle.std.specs.Prelude.{IsTrue}
use Rattle.mono_graph.specs.declared.limit.Limit.{Limit}
use Rattle.mono_graph.specs.Digraph.{Digraph}
use Rattle.mono_graph.specs.Walks.{is_walk, cost_along}
use Rattle.mono_dynamic.specs.declared.change.Change.{Change}
use Rattle.mono_dynamic.specs.Costs.{Costs, label_by, label_of, labels_after, node_by, AreInOrder, AreLeastAlong, IsLed}
use Rattle.mono_dynamic.proofs.CostWalks.{walk_of_given}
use Rattle.mono_dynamic.proofs.least_costs.LeastCosts.walk_to.Goals as goal

pub walk_back-requires-clause-ordered : goal.walk_back-requires-clause-ordered
walk_back-requires-clause-ordered c = subst (λ (xs : List Change). AreInOrder xs) (sym c.changes.ensures.changes) c.changes.ensures.ordered

pub returns : goal.returns
returns c =
    let now : Costs = c.self.inside.relaxation.table in
    let last : ℕ = c.given_after-given.result.last in
    let walk : List ℕ = c.in_ok-walk.walk.items in
    let node : c.args.node < length now.labels = subst (λ (t : Costs). c.args.node < length t.labels) (sym c.self.view_is) c.requires.node in
    let way = subst (λ (xs : List Change). (g : Digraph) (P : List Bool) (limit : Limit) (u : ℕ) → ((i : ℕ) → i < last → IsLed g P limit u xs i) → IsTrue (is_walk g P u (node_by u xs last) walk) × (cost_along limit g walk ≡ label_by xs last))
    c.changes.ensures.changes c.in_ok-walk.ensures in
    subst (λ (t : Costs). label_of (labels_after c.args.kept t) c.args.node < t.cap → (g : Digraph) (parts : ℕ → List Bool) (n u : ℕ) → c.args.kept ≤ n → AreLeastAlong g parts n u t → IsTrue (is_walk g (parts c.args.kept) u c.args.node walk) × (cost_along t.limit g walk ≡ label_of (labels_after c.args.kept t) c.args.node))
    c.self.view_is
    (λ below g parts n u le r. walk_of_given g parts n u c.args.kept c.args.node c.given_after-given.result.label last now walk c.changes.ensures.ordered.rising node below c.given_after-given.ensures way le r)
