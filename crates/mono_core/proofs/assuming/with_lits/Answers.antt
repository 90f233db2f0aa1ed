use Rattle.std.proofs.Common.{ap, arith, take, length-take-le, ◌∙◌}
use Rattle.std.proofs.lemmas.Grind.{common_steps}
use Rattle.mono_problem.specs.Instance.{literals_total}
use Rattle.mono_problem.proofs.Assumed.{assuming-literals}
use Rattle.mono_core.proofs.assuming.with_lits.Goals as goal

pub add_clause-requires-clause-literal_room : goal.add_clause-requires-clause-literal_room
add_clause-requires-clause-literal_room c =
    let lits = c.args.lits.now in
    let before = ap literals_total c.loop-lit.invariant ∙ assuming-literals c.args.problem.now (take c.loop-lit.lit-index lits) in
    let some = length-take-le c.loop-lit.lit-index lits in
    omega (arith, before, some, c.requires.literals, c.loop-lit-test.true)

pub loop-lit-preserved : goal.loop-lit-preserved
loop-lit-preserved c = grind (arith, common_steps)
