use Rattle.std.proofs.Common.{◌∙◌, Bool, cond, sym, ap, None, Some, Option}
use Rattle.mono_problem.specs.Instance.{graph_at}
use Rattle.mono_steps.specs.declared.fault.StepFault.{StepFault}
use Rattle.mono_steps.specs.declared.fault.StepFault.TheVariants as fault
use Rattle.mono_steps.proofs.ClauseParts.{fault_of_passing}
use Rattle.mono_steps.proofs.graph_checker.GraphChecker.fault.Goals as goal

abbrev by_own : Bool → Option StepFault
by_own own = cond own None (Some fault.MissingLiteral)

pub returns-then-has_own-clause-fault : goal.returns-then-has_own-clause-fault
returns-then-has_own-clause-fault c =
    ap by_own (sym c.if-has_own.true)
    ∙ fault_of_passing (graph_at c.args.problem.now c.args.atom.graph) c.args.atom c.args.lits.now c.args.witness.now c.args.has_own c.requires.own (sym c.in_ok-passes_by_clause.ensures.passes ∙ c.if-branch.true)

pub returns-else-has_own-clause-fault : goal.returns-else-has_own-clause-fault
returns-else-has_own-clause-fault c =
    ap by_own (sym c.if-has_own.false)
    ∙ fault_of_passing (graph_at c.args.problem.now c.args.atom.graph) c.args.atom c.args.lits.now c.args.witness.now c.args.has_own c.requires.own (sym c.in_ok-passes_by_clause.ensures.passes ∙ c.if-branch.true)
