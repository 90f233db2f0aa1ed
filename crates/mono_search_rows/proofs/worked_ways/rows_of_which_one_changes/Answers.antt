use Rattle.std.proofs.Common.{◌≡◌, true, false, ap, arith}
use Rattle.mono_dynamic.specs.Targets.{Targets, is_settled}
use Rattle.mono_search_rows.proofs.worked_ways.rows_of_which_one_changes.Goals as goal

pub returns-clause-both : goal.returns-clause-both
returns-clause-both c = λ h. let e : true ≡ false = ap (λ (r : Targets). is_settled r) (h.others 0 (λ same. omega (arith, same))) in cc
