use Rattle.std.proofs.Common.{◌≡◌, false, true, refl}
use Rattle.mono_rows.proofs.graph.variables_and_parts.Goals as goal

pub returns-clause-past_the_end : goal.returns-clause-past_the_end
returns-clause-past_the_end c = λ within. let e : false ≡ true = within.keeps 1 refl in cc
