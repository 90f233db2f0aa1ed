use Rattle.std.proofs.Common.{◌<◌, arith}
use Rattle.mono_theory.specs.Watching.{watch_by}
use Rattle.mono_search_rows.proofs.worked_supports.what_a_side_keeps.Goals as goal

pub returns-clause-no_such_atom : goal.returns-clause-no_such_atom
returns-clause-no_such_atom c = λ h. let e : 1 < 1 = h.known 1 0 (watch_by 0 0) (omega arith) in omega (arith, e)
