use Rattle.std.proofs.Common.{◌≡◌, ◌∷◌, [], false, true, List, ℤ, None, Some, pos, refl, ap, inl, arith}
use Rattle.mono_base.specs.Literal.{has_lit}
use Rattle.mono_base.specs.Partial.{others_false}
use Rattle.mono_rows.proofs.ReasonRows.{same_clause}
use Rattle.mono_learn.proofs.LitSets.{true_false}
use Rattle.mono_rows.proofs.learn.literals_that_may_join.Goals as goal

pub returns-clause-decided : goal.returns-clause-decided
returns-clause-decided c = λ shown. tt

pub returns-clause-implied : goal.returns-clause-implied
returns-clause-implied c = λ shown. record { clause = pos 1 ∷ pos 2 ∷ []; is = refl; has = refl; others = refl }

pub returns-clause-another_is_open : goal.returns-clause-another_is_open
returns-clause-another_is_open c = λ shown h.
    true_false (others_false [] h.clause (pos 2)) h.others (ap (λ (d : List ℤ). others_false [] d (pos 2)) (same_clause (pos 1 ∷ pos 2 ∷ []) h.clause h.is))

pub returns-clause-not_in_it : goal.returns-clause-not_in_it
returns-clause-not_in_it c = λ shown h. true_false (has_lit h.clause (pos 3)) h.has (ap (λ (d : List ℤ). has_lit d (pos 3)) (same_clause (pos 1 ∷ pos 2 ∷ []) h.clause h.is))

pub returns-clause-no_clause : goal.returns-clause-no_clause
returns-clause-no_clause c = λ shown h. let e : None ≡ Some h.clause = h.is in cc

pub returns-clause-forced : goal.returns-clause-forced
returns-clause-forced c = record { some = omega arith; forces = inl (refl, (0 ∷ [], refl)); before = refl }

pub returns-clause-shown_more : goal.returns-clause-shown_more
returns-clause-shown_more c = λ h. let le = h.some in omega (arith, le)

pub returns-clause-not_forced : goal.returns-clause-not_forced
returns-clause-not_forced c = λ h. h.forces

pub returns-clause-not_on_the_trail : goal.returns-clause-not_on_the_trail
returns-clause-not_on_the_trail c = λ h. let e : false ≡ true = h.before in cc
