use Rattle.std.proofs.Common.{◌≡◌, true, false}
use Rattle.mono_search_rows.proofs.worked_parts.parts_that_grow_after_a_step.Goals as goal

pub returns-clause-one_unlisted : goal.returns-clause-one_unlisted
returns-clause-one_unlisted c = λ h. let e : true ≡ false = h.grown.each 0 in cc
