use Rattle.mono_rows.proofs.learn.unit_in_a_list.Goals as goal

pub returns-clause-not_in_it : goal.returns-clause-not_in_it
returns-clause-not_in_it c = λ h. let e = h.has in cc

pub returns-clause-has_value : goal.returns-clause-has_value
returns-clause-has_value c = λ h. let e = h.open_now in cc

pub returns-clause-two_open : goal.returns-clause-two_open
returns-clause-two_open c = λ h. let e = h.others in cc
