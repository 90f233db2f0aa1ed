use Rattle.std.proofs.Common.{◌≡◌, arith}
use Rattle.mono_rows.proofs.LearntRows.{refuted, not_by_one_clause, not_without_a_chain}
use Rattle.mono_rows.proofs.learn.empty_clauses_join_the_steps.Goals as goal

pub returns-clause-refuted : goal.returns-clause-refuted
returns-clause-refuted c = refuted

pub returns-clause-another_number : goal.returns-clause-another_number
returns-clause-another_number c = λ h. let e : 4 ≡ 3 = h.number in omega (arith, e)

pub returns-clause-no_chain : goal.returns-clause-no_chain
returns-clause-no_chain c = not_without_a_chain

pub returns-clause-not_its_end : goal.returns-clause-not_its_end
returns-clause-not_its_end c = not_by_one_clause
