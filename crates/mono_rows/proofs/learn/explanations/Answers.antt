use Rattle.std.proofs.Common.{◌≡◌, false, true, [], ◌∷◌, refl, inl, arith}
use Rattle.mono_rows.proofs.learn.explanations.Goals as goal

pub returns-clause-forced : goal.returns-clause-forced
returns-clause-forced c = inl (refl, (0 ∷ [], refl))

pub returns-clause-no_atom : goal.returns-clause-no_atom
returns-clause-no_atom c = λ h. h

pub returns-clause-explained : goal.returns-clause-explained
returns-clause-explained c = record { number = refl; justified = refl; has = refl; others = refl }

pub returns-clause-another_atom : goal.returns-clause-another_atom
returns-clause-another_atom c = λ h. let e : 1 ≡ 2 = h.number in omega (arith, e)

pub returns-clause-not_justified : goal.returns-clause-not_justified
returns-clause-not_justified c = λ h. let e : false ≡ true = h.justified in cc

pub returns-clause-without_it : goal.returns-clause-without_it
returns-clause-without_it c = λ h. let e : false ≡ true = h.has in cc

pub returns-clause-another_is_open : goal.returns-clause-another_is_open
returns-clause-another_is_open c = λ h. let e : false ≡ true = h.others in cc
