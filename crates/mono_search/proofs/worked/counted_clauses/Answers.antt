use Rattle.std.proofs.Common.{arith, refl}
use Rattle.mono_trail.specs.Luby.{Luby}
use Rattle.mono_trail.proofs.Terms.{one_term}
use Rattle.mono_search.proofs.worked.counted_clauses.Goals as goal

pub returns-clause-first : goal.returns-clause-first
returns-clause-first c = record { term = 1; luby = Luby.whole 0; due = ((λ e. omega arith), (λ le. refl)); counted = refl }

pub returns-clause-not_yet : goal.returns-clause-not_yet
returns-clause-not_yet c = record { term = 1; luby = Luby.whole 0; due = ((λ e. absurd cc), (λ le. absurd (omega (arith, le)))); counted = refl }

pub returns-clause-too_early : goal.returns-clause-too_early
returns-clause-too_early c = λ h. let one = one_term 1 h.term 1 h.luby (Luby.whole 0) in let le = h.due.0 refl in omega (arith, one, le)

pub returns-clause-too_late : goal.returns-clause-too_late
returns-clause-too_late c = λ h. let one = one_term 1 h.term 1 h.luby (Luby.whole 0) in let e = h.due.1 (omega (arith, one)) in cc

pub returns-clause-third : goal.returns-clause-third
returns-clause-third c = record { term = 2; luby = Luby.whole 1; due = ((λ e. omega arith), (λ le. refl)); counted = refl }

pub returns-clause-third_too_early : goal.returns-clause-third_too_early
returns-clause-third_too_early c = λ h. let two = one_term 3 h.term 2 h.luby (Luby.whole 1) in let le = h.due.0 refl in omega (arith, two, le)
