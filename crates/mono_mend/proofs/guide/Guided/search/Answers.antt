use Rattle.mono_mend.proofs.guide.Guided.search.Goals as goal

pub go_on-requires-clause-node : goal.go_on-requires-clause-node
go_on-requires-clause-node c = c.in-Some.ensures.node c.args.self.now.torn.graph.now.nodes c.loop-step.invariant.waiting

pub go_on-requires-clause-waiting : goal.go_on-requires-clause-waiting
go_on-requires-clause-waiting c = c.pop.ensures.others c.args.self.now.torn.graph.now.nodes c.loop-step.invariant.waiting
