use Rattle.std.proofs.Common.{ℕ, ◌≡◌, Bool, true, not, List, None, sym, ap, subst, ◌∙◌}
use Rattle.std.specs.Prelude.{IsTrue}
use Rattle.std.specs.Option.{is_some}
use Rattle.std.proofs.lemmas.Bool.{both_ways}
use Rattle.mono_graph.specs.Digraph.{has}
use Rattle.mono_dynamic.specs.Arrivals.{IsTree}
use Rattle.mono_dynamic.specs.SearchTrees.{RestsOn}
use Rattle.mono_dynamic.specs.Targets.{Targets, AreTold}
use Rattle.mono_dynamic.proofs.Lacking.{told_kept, told_lost, told_stale, none_is}
use Rattle.mono_dynamic.proofs.reached_targets.ReachedTargets.shrink.Goals as goal
use Rattle.mono_dynamic.proofs.reached_targets.ReachedTargets.shrink.Goals.{else-is_none-via-then-is_none+else-rests_on_any, else-is_none-via-else-is_none}

pub returns-then-rests_on_any-clause-told : goal.returns-then-rests_on_any-clause-told
returns-then-rests_on_any-clause-told c = λ parts n next s t.
    let r : Targets = record { ways = c.self.inside.tree; targets = c.self.inside.targets.items; since = c.self.inside.since; lost = c.self.inside.lost } in
    told_lost c.args.graph.now parts n c.args.number r next (none_is c.self.inside.lost c.is_none.result c.is_none.ensures c.if-is_none.true) (subst (λ (s : Targets). AreTold c.args.graph.now parts n s) (sym c.self.view_is) t)

pub returns-else-is_none-clause-told : goal.returns-else-is_none-clause-told
returns-else-is_none-clause-told c = λ parts n next s t. elim c.else-is_none.branch [
  | else-is_none-via-then-is_none+else-rests_on_any w ↦
      told_kept c.args.graph.now parts n c.args.number c.args.places.now c.args.self.now next s
      (subst (λ (r : Targets). r.lost ≡ None) c.self.view_is (none_is c.self.inside.lost c.is_none.result c.is_none.ensures w.if-is_none.true))
      (subst (λ (r : Targets). (P : List Bool) (k : ℕ) → IsTree c.args.graph.now P r.ways.tree.source r.ways.tree.arrivals → IsTrue (has c.args.places.now k) → RestsOn r.ways.tree.arrivals k → ⊥) c.self.view_is
      (λ P k tree at rests. both_ways w.rests_on_any.result w.if-rests_on_any.false ((w.rests_on_any.ensures P tree).1 (k, at, rests)))) t
  | else-is_none-via-else-is_none w ↦
      told_stale c.args.graph.now parts n c.args.number c.args.self.now next
      (subst (λ (r : Targets). is_some r.lost ≡ true) c.self.view_is (c.is_none.ensures ∙ ap not w.if-is_none.false)) t
]
