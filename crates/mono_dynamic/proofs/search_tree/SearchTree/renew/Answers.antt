use Rattle.std.proofs.Common.{Option, sym, subst}
use Rattle.std.specs.Prelude.{All}
use Rattle.mono_dynamic.specs.Costs.{Costs}
use Rattle.mono_dynamic.specs.Ways.{Ways, ways_of, AreReachedWays, IsTargetOf}
use Rattle.mono_dynamic.proofs.Lightest.{reached_of_ways}
use Rattle.mono_dynamic.proofs.search_tree.SearchTree.renew.Goals as goal

pub mend_ways-requires-clause-targets : goal.mend_ways-requires-clause-targets
mend_ways-requires-clause-targets c =
    subst (λ (costs : Option Costs). All (IsTargetOf (ways_of c.self.inside.kept costs)) c.args.targets.now) (c.can_be_mended.ensures c.if-can_be_mended.true)
    (subst (λ (w : Ways). All (IsTargetOf w) c.args.targets.now) (sym c.self.view_is) c.requires.targets)

pub returns-then-can_be_mended-clause-ways : goal.returns-then-can_be_mended-clause-ways
returns-then-can_be_mended-clause-ways c =
    subst (λ (costs : Option Costs). AreReachedWays c.args.graph.now c.args.part.now c.args.targets.now (ways_of c.mend_ways.new.kept costs)) (sym (c.can_be_mended.ensures c.if-can_be_mended.true)) c.in_ok-mend_ways.ensures.ways

pub returns-clause-ways : goal.returns-clause-ways
returns-clause-ways c = reached_of_ways c.args.graph.now c.args.part.now c.args.targets.now c.search.new.self c.in_ok-search.ensures.ways
