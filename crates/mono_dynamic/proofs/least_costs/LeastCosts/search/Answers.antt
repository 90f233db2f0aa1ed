use Rattle.std.proofs.Common.{◌≡◌, ℕ, List, [], take, drop, set, replicate, sym, ap, subst, ◌∙◌, arith}
use Rattle.mono_graph.specs.Digraph.{no_edge}
use Rattle.mono_graph.specs.declared.limit.Limit.{Limit}
use Rattle.mono_dynamic.specs.Costs.{Costs, unwound, AreLeast, AreRelaxed}
use Rattle.mono_dynamic.specs.LeastRows.{IsCostRow}
use Rattle.mono_dynamic.proofs.CostLists.{length-unwound}
use Rattle.mono_dynamic.proofs.LeastExact.{least_anew}
use Rattle.mono_dynamic.proofs.least_costs.LeastCosts.search.Goals as goal

pub relax_from-requires-clause-row : goal.relax_from-requires-clause-row
relax_from-requires-clause-row c =
    let t : Costs = c.args.self.now in
    let now : Costs = c.undo_to.new.self in
    let undone : now ≡ record t { labels = unwound t.labels (drop 0 t.changes); changes = take 0 t.changes } =
    subst (λ (s : Costs). now ≡ record s { labels = unwound s.labels (drop 0 s.changes); changes = take 0 s.changes }) c.self.view_is c.undo_to.ensures in
    subst (λ (s : Costs). IsCostRow c.args.graph.now.nodes 0 s) (sym undone)
    (record { sized = length-unwound t.labels (drop 0 t.changes) ∙ c.requires.from.len; stamps = λ i d lt. absurd (omega (arith, lt)) })

pub returns-clause-least : goal.returns-clause-least
returns-clause-least c =
    let t : Costs = c.args.self.now in
    let now : Costs = c.undo_to.new.self in
    let undone : now ≡ record t { labels = unwound t.labels (drop 0 t.changes); changes = take 0 t.changes } =
    subst (λ (s : Costs). now ≡ record s { labels = unwound s.labels (drop 0 s.changes); changes = take 0 s.changes }) c.self.view_is c.undo_to.ensures in
    let first : now.labels ≡ set (replicate c.args.graph.now.nodes now.cap) c.args.source 0 =
    ap (λ (s : Costs). s.labels) undone ∙ (c.requires.from.first ∙ ap (λ (n : ℕ). set (replicate c.args.graph.now.nodes n) c.args.source 0) (sym (ap (λ (s : Costs). s.cap) undone))) in
    let least : AreLeast c.args.graph.now c.args.part.now now.limit c.args.source now.cap c.relax_from.new.self.table.labels =
    least_anew c.args.graph.now c.args.part.now c.args.source 0 now c.relax_from.new.self.table (record { from = λ k lt. (c.known.ensures.graph.ends k no_edge lt).0 }) c.requires.from.inside first c.in_ok-relax_from.ensures.later
    (subst (λ (ks : List ℕ). AreRelaxed c.args.graph.now c.args.part.now ks [] now c.relax_from.new.self.table [] [] []) c.leaving.ensures.places c.in_ok-relax_from.ensures.relaxed) in
    subst (λ (l : Limit). AreLeast c.args.graph.now c.args.part.now l c.args.source t.cap c.relax_from.new.self.table.labels) (ap (λ (s : Costs). s.limit) undone)
    (subst (λ (n : ℕ). AreLeast c.args.graph.now c.args.part.now now.limit c.args.source n c.relax_from.new.self.table.labels) (ap (λ (s : Costs). s.cap) undone) least)
