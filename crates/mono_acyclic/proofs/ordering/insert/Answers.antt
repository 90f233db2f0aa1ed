use Rattle.std.proofs.Common.{◌<◌, length, arith}
use Rattle.mono_acyclic.proofs.Together.{closed_in}
use Rattle.mono_acyclic.proofs.ordering.insert.Goals as goal

pub returns-clause-cycle : goal.returns-clause-cycle
returns-clause-cycle c = λ off Q sub here.
    let P = c.args.ordered.now.part in
    let lt : c.args.place < length P = omega (arith, c.requires.part, c.requires.place) in
    closed_in c.args.graph.now P Q c.args.place c.insert.new.self.cycle lt (c.insert.ensures.cycle off) sub here
