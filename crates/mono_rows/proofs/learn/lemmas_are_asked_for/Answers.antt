use Rattle.std.proofs.Common.{refl, arith}
use Rattle.mono_rows.specs.AskedLemmas.{of_atom}
use Rattle.mono_rows.proofs.SettledRows.{asked_for_4, asked_for_none, not_asked}
use Rattle.mono_rows.proofs.learn.lemmas_are_asked_for.Goals as goal

pub returns-clause-asked : goal.returns-clause-asked
returns-clause-asked c = asked_for_4

pub returns-clause-other_atom : goal.returns-clause-other_atom
returns-clause-other_atom c = λ h. not_asked 1 1 1 (h.at 0 (of_atom 1) (omega arith) refl) (λ e f. cc)

pub returns-clause-other_number : goal.returns-clause-other_number
returns-clause-other_number c = λ h. not_asked 2 2 1 (h.at 0 (of_atom 2) (omega arith) refl) (λ e f. cc)

pub returns-clause-no_lemma : goal.returns-clause-no_lemma
returns-clause-no_lemma c = asked_for_none
