use Rattle.std.proofs.Common.{◌≡◌, true, false}
use Rattle.mono_search_rows.proofs.worked_outcomes.refutations_behind_unjustified_steps.Goals as goal

pub returns : goal.returns
returns c = λ h. let e : false ≡ true = h.refutes in cc
