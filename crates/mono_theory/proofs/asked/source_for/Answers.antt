use Rattle.mono_theory.proofs.AskedRows.{source_asked}
use Rattle.mono_theory.proofs.asked.source_for.Goals as goal

pub returns-clause-source : goal.returns-clause-source
returns-clause-source c = source_asked c.args.asked.from c.args.asked.to c.cap.result c.args.asked.limit c.cap.ensures.value
