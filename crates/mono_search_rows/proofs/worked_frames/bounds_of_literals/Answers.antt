use Rattle.std.proofs.Common.{◌≡◌, arith}
use Rattle.mono_search_rows.proofs.worked_frames.bounds_of_literals.Goals as goal

pub returns-clause-no_span : goal.returns-clause-no_span
returns-clause-no_span c = λ h. let e : 0 ≡ 1 = h.spans.len in omega (arith, e)
