use Rattle.std.proofs.Common.{sym}
use Rattle.mono_problem.proofs.Entries.{unchanged_entry, grown_entry}
use Rattle.mono_problem.proofs.draft.add_to.Goals as goal

pub returns-in-Ok-clause-ok : goal.returns-in-Ok-clause-ok
returns-in-Ok-clause-ok c =
    grown_entry c.args.graphs.now.entries c.args.place c.requires.place c.in-Some.graph.now c.add_edge.new.self c.args.edge (sym c.in-Some.ensures.value) c.in-Ok.ensures.ok

pub returns-in-Err-Memory-clause-err : goal.returns-in-Err-Memory-clause-err
returns-in-Err-Memory-clause-err c =
    unchanged_entry c.args.graphs.now.entries c.args.place c.requires.place c.in-Some.graph.now c.add_edge.new.self (sym c.in-Some.ensures.value) c.in-Err-Memory.ensures.err
