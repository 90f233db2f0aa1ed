use Rattle.std.proofs.Common.{rules}
use Rattle.mono_forms.proofs.solving.answer_to.Goals as goal

pub returns : goal.returns
returns c = c.answer_of.ensures c.args.problem.now c.args.budget c.requires.problem c.in_ok-solved.ensures

pub solve-requires-clause-makes : goal.solve-requires-clause-makes
solve-requires-clause-makes c = search rules
