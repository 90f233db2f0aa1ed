use Rattle.std.proofs.Common.{◌≡◌, true, false, refl}
use Rattle.mono_search_rows.proofs.worked_asked.atoms_due_by_node.Goals as goal

pub returns-clause-another_goes : goal.returns-clause-another_goes
returns-clause-another_goes c = λ h. let e : true ≡ false = h.stay 1 refl in cc
