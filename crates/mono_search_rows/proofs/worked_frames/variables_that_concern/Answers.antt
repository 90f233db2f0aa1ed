use Rattle.std.proofs.Common.{◌≡◌, ◌<◌, true, false, arith}
use Rattle.mono_search_rows.proofs.worked_frames.variables_that_concern.Goals as goal

pub returns-clause-atom_left_out : goal.returns-clause-atom_left_out
returns-clause-atom_left_out c = λ h. let e : false ≡ true = h.exact 3 in cc

pub returns-clause-edge_left_out : goal.returns-clause-edge_left_out
returns-clause-edge_left_out c = λ h. let e : false ≡ true = h.exact 2 in cc

pub returns-clause-one_too_many : goal.returns-clause-one_too_many
returns-clause-one_too_many c = λ h. let e : true ≡ false = h.exact 4 in cc

pub returns-clause-twice : goal.returns-clause-twice
returns-clause-twice c = λ h. let e : 2 < 2 = h.rising 1 (omega arith) in omega (arith, e)
