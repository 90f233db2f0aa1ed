use Rattle.mono_dynamic.proofs.ComingBack.{extended_read}
use Rattle.mono_dynamic.proofs.mending.extend.Goals as goal

pub returns : goal.returns
returns c = extended_read c.args.graph.now c.args.place c.in-Some.before c.edge-edge.result c.args.tree.now c.arrive.new.self c.requires.place c.edge-edge.ensures.edge c.in-Some.ensures.arrival c.requires.stamps c.arrive.ensures
