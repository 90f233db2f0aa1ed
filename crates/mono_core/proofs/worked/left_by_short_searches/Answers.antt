use Rattle.std.proofs.Common.{◌≡◌, true, false}
use Rattle.mono_core.proofs.worked.left_by_short_searches.Goals as goal

pub returns-clause-kept : goal.returns-clause-kept
returns-clause-kept c = λ h. let e : true ≡ false = h in cc

pub returns-clause-no_model : goal.returns-clause-no_model
returns-clause-no_model c = λ h. let e = h.satisfies.0 in cc
