use Rattle.std.proofs.Common.{◌++◌, true, false}
use Rattle.mono_steps.proofs.Ends.{fault_by_cover}
use Rattle.mono_steps.proofs.checker.StepChecker.chain_fault.Goals as goal

pub returns-then-not-is_within-clause-fault : goal.returns-then-not-is_within-clause-fault
returns-then-not-is_within-clause-fault c =
    fault_by_cover c.args.problem.now (c.args.problem.now.clauses ++ c.args.earlier.now) c.args.chain.now c.lits-lits.result.now c.as_slice-used.result.now c.come_to_end.new.set.members false
    c.lits-lits.ensures c.as_slice-used.ensures c.if-not-names_vars.ensures c.if-not-names_clauses.ensures c.if-not-come_to_end.ensures.come c.if-not-is_within.ensures.within

pub returns-clause-fault : goal.returns-clause-fault
returns-clause-fault c =
    fault_by_cover c.args.problem.now (c.args.problem.now.clauses ++ c.args.earlier.now) c.args.chain.now c.lits-lits.result.now c.as_slice-used.result.now c.come_to_end.new.set.members true
    c.lits-lits.ensures c.as_slice-used.ensures c.if-not-names_vars.ensures c.if-not-names_clauses.ensures c.if-not-come_to_end.ensures.come c.if-not-is_within.ensures.within
