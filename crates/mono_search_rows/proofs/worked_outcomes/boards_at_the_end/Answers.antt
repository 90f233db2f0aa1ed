use Rattle.std.proofs.Common.{[], refl, lit<}
use Rattle.mono_search_rows.proofs.worked_outcomes.boards_at_the_end.Goals as goal

pub returns : goal.returns
returns c = record { justified = refl; rounds_are = ([], (refl, refl)); few = lit< tt; short = lit< tt }
