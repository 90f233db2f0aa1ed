use Rattle.std.proofs.Common.{rules}
use Rattle.mono_distance.proofs.laws.explain_changes_no_label.Goals as goal

pub returns-clause-read : goal.returns-clause-read
returns-clause-read c = search rules
