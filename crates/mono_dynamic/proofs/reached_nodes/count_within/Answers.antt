use Rattle.std.proofs.Common.{◌≡◌, take, drop, arith, inl, inr}
use Rattle.mono_dynamic.specs.Arrivals.{after, within}
use Rattle.mono_dynamic.proofs.Listed.{both_cut}
use Rattle.mono_dynamic.proofs.reached_nodes.count_within.Goals as goal

at_stamp : (c : goal.Else-arrivals-count) → (take c.loop-count.count c.args.arrivals.now ≡ within c.args.kept c.args.arrivals.now) × (drop c.loop-count.count c.args.arrivals.now ≡ after c.args.kept c.args.arrivals.now)
at_stamp c =
    both_cut c.args.kept c.loop-count.count c.args.arrivals.now c.requires c.loop-count.invariant.held
    (inr c.if-arrivals-count.false)
    c.loop-count.invariant.later

pub returns-else-arrivals-count-clause-first : goal.returns-else-arrivals-count-clause-first
returns-else-arrivals-count-clause-first c = (at_stamp c).0

pub returns-else-arrivals-count-clause-rest : goal.returns-else-arrivals-count-clause-rest
returns-else-arrivals-count-clause-rest c = (at_stamp c).1

at_start : (c : goal.After-loop-count) → (take c.loop-count.count c.args.arrivals.now ≡ within c.args.kept c.args.arrivals.now) × (drop c.loop-count.count c.args.arrivals.now ≡ after c.args.kept c.args.arrivals.now)
at_start c =
    both_cut c.args.kept c.loop-count.count c.args.arrivals.now c.requires c.loop-count.invariant.held (inl (let none = c.loop-count-test.false in omega arith)) c.loop-count.invariant.later

pub returns-after-loop-count-clause-first : goal.returns-after-loop-count-clause-first
returns-after-loop-count-clause-first c = (at_start c).0

pub returns-after-loop-count-clause-rest : goal.returns-after-loop-count-clause-rest
returns-after-loop-count-clause-rest c = (at_start c).1
