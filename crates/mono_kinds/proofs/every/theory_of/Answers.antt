use Rattle.std.proofs.Common.{◌≡◌, ◌%◌, arith}
use Rattle.mono_reach.specs.Reaches.{is_reach}
use Rattle.mono_distance.specs.Distances.{is_distance}
use Rattle.mono_flow.specs.Flowing.{is_flow_predicate}
use Rattle.mono_tree.specs.Spanning.{is_tree_predicate}
use Rattle.mono_acyclic.specs.Cyclic.{is_cycle_predicate}
use Rattle.mono_kinds.specs.Sharing.{kind_count}
use Rattle.mono_kinds.proofs.SlotNumbers.{numbers_are, reach_kind, distance_kind, flow_kind, tree_kind, acyclic_kind}
use Rattle.mono_kinds.proofs.every.theory_of.Goals as goal

pub new-requires-clause-atoms : goal.new-requires-clause-atoms
new-requires-clause-atoms c = rw c.requires.numbers (numbers_are is_reach c.args.problem.now c.args.slot 0 c.if-kind-eq0.true reach_kind)

pub new-requires-then-kind-eq1-clause-atoms : goal.new-requires-then-kind-eq1-clause-atoms
new-requires-then-kind-eq1-clause-atoms c = rw c.requires.numbers (numbers_are is_distance c.args.problem.now c.args.slot 1 c.if-kind-eq1.true distance_kind)

pub new-requires-then-kind-eq2-clause-atoms : goal.new-requires-then-kind-eq2-clause-atoms
new-requires-then-kind-eq2-clause-atoms c = rw c.requires.numbers (numbers_are is_flow_predicate c.args.problem.now c.args.slot 2 c.if-kind-eq2.true flow_kind)

pub new-requires-then-kind-eq3-clause-atoms : goal.new-requires-then-kind-eq3-clause-atoms
new-requires-then-kind-eq3-clause-atoms c = rw c.requires.numbers (numbers_are is_tree_predicate c.args.problem.now c.args.slot 3 c.if-kind-eq3.true tree_kind)

pub new-requires-2-clause-atoms : goal.new-requires-2-clause-atoms
new-requires-2-clause-atoms c =
    let last : c.args.slot % kind_count ≡ 4 = omega (arith, c.if-kind-eq0.false, c.if-kind-eq1.false, c.if-kind-eq2.false, c.if-kind-eq3.false) in
    rw c.requires.numbers (numbers_are is_cycle_predicate c.args.problem.now c.args.slot 4 last acyclic_kind)
