use Rattle.std.proofs.Common.{rules}
use Rattle.mono_theory.proofs.looking.examine.Goals as goal

pub show-requires-clause-right : goal.show-requires-clause-right
show-requires-clause-right g c = search rules
