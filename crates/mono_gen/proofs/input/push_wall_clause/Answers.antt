use Rattle.std.proofs.Common.{rules}
use Rattle.mono_gen.proofs.input.push_wall_clause.Goals as goal

pub returns-in_ok-push_clause : goal.returns-in_ok-push_clause
returns-in_ok-push_clause c = search rules
