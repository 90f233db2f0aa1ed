use Rattle.mono_search.proofs.solving.solved_by.Goals as goal

pub returns-in-Unsat : goal.returns-in-Unsat
returns-in-Unsat g c = c.refutation.ensures c.args.budget
