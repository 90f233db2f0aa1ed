use Rattle.std.proofs.Common.{rules}
use Rattle.mono_reach.proofs.reach.cut_evidence.Goals as goal

pub returns-clause-evidence : goal.returns-clause-evidence
returns-clause-evidence c = search rules
