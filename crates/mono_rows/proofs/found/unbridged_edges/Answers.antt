use Rattle.std.proofs.Common.{◌≡◌, false, true, refl, arith}
use Rattle.mono_rows.proofs.FoundRows.{third_alone, third_is_listed}
use Rattle.mono_rows.proofs.found.unbridged_edges.Goals as goal

pub returns-clause-lightest : goal.returns-clause-lightest
returns-clause-lightest c = record { only = third_alone; all = third_is_listed }

pub returns-clause-left_out : goal.returns-clause-left_out
returns-clause-left_out c = λ u. let e : false ≡ true = u.all 2 (record { place = omega arith; absent = refl; apart = refl }) in cc

pub returns-clause-listed_too : goal.returns-clause-listed_too
returns-clause-listed_too c = λ u. let e : true ≡ false = (u.only 0 refl).absent in cc

pub returns-clause-heaviest : goal.returns-clause-heaviest
returns-clause-heaviest c = λ u. let e : false ≡ true = u.apart in cc

pub returns-clause-as_heavy : goal.returns-clause-as_heavy
returns-clause-as_heavy c = λ u. let e : false ≡ true = u.apart in cc

pub returns-clause-present : goal.returns-clause-present
returns-clause-present c = λ u. let e : true ≡ false = u.absent in cc
