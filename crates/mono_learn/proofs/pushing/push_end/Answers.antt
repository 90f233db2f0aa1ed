use Rattle.mono_steps.specs.Steps.{clauses_after}
use Rattle.mono_learn.proofs.Learning.{exact_justified, pushes_by, chains_none, chains_one}
use Rattle.mono_learn.proofs.pushing.push_end.Goals as goal

pub push_chain-requires : goal.push_chain-requires
push_chain-requires c = exact_justified c.args.problem.now (clauses_after c.args.problem.now c.args.journal.now) (record { clause = c.args.clause; used = c.from_vec.result }) c.requires.vars (rw c.from_vec.ensures c.requires.exact)

pub returns-clause-pushes : goal.returns-clause-pushes
returns-clause-pushes c = pushes_by c.args.problem.now c.args.journal.now c.push_chain.new.self c.args.clause c.args.used.items c.from_vec.result c.in_ok-number.number c.requires.exact c.from_vec.ensures c.in_ok-number.ensures.ok c.in_ok-number.ensures.number

pub returns-clause-grows : goal.returns-clause-grows
returns-clause-grows c = chains_one c.args.journal.now c.push_chain.new.self _ c.in_ok-number.ensures.ok

pub returns-in_err-number-clause-grows : goal.returns-in_err-number-clause-grows
returns-in_err-number-clause-grows c = chains_none c.args.journal.now c.push_chain.new.self c.in_err-number.ensures.err
