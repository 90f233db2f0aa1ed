use Rattle.std.proofs.Common.{◌≡◌, false, true, refl, pos, arith}
use Rattle.std.proofs.lemmas.Int.{ints}
use Rattle.mono_rows.proofs.found.flows_of_a_value.Goals as goal

pub returns-clause-exact : goal.returns-clause-exact
returns-clause-exact c = record { passes = refl; value = refl }

pub returns-clause-less : goal.returns-clause-less
returns-clause-less c = λ f. let e : pos 5 ≡ pos 4 = f.value in omega (arith, ints, e)

pub returns-clause-too_much : goal.returns-clause-too_much
returns-clause-too_much c = λ f. let e : false ≡ true = f.passes in cc
