use Rattle.std.proofs.Common.{◌≡◌, ◌≤◌, false, true, [], ◌∷◌, arith, refl, inl, inr, pos}
use Rattle.mono_clauses.specs.Propagation.{FalseFound, QuietFound}
use Rattle.mono_clauses.specs.Store.{no_clauses}
use Rattle.mono_clauses.proofs.FollowsKept.{follows_new}
use Rattle.mono_steps.specs.WorkedLemmas.{minus}
use Rattle.mono_rows.specs.TwoClauses.{watching, all_watched, decided, decided_again}
use Rattle.mono_rows.proofs.ClauseRows.{true_too_high, false_at}
use Rattle.mono_rows.proofs.GrowthRows.{false_by_both, never_true_by}
use Rattle.mono_rows.proofs.clauses.what_is_found.Goals as goal

pub returns-clause-nothing : goal.returns-clause-nothing
returns-clause-nothing c = record { quiet = refl; all_given = refl; follows = follows_new _ }

pub returns-clause-unit_clause : goal.returns-clause-unit_clause
returns-clause-unit_clause c = λ (h : QuietFound (watching []) (decided 1)). let e : false ≡ true = h.quiet in cc

pub returns-clause-not_yet_given : goal.returns-clause-not_yet_given
returns-clause-not_yet_given c = λ (h : QuietFound (no_clauses 3) (decided 0)). let e : 0 ≡ 1 = h.all_given in omega (arith, e)

pub returns-clause-lags_behind : goal.returns-clause-lags_behind
returns-clause-lags_behind c = λ (h : QuietFound (watching all_watched) (decided_again (pos 2 ∷ []) 2)).
    elim ((h.follows.at 0 (pos 1) (pos 2) refl refl).at 0 (omega arith) refl) [ inl b ↦ true_too_high 2 1 (omega arith) b | inr late ↦ (let e : 2 ≤ 0 = late.0 in omega (arith, e)) ]

pub returns-clause-false_clause : goal.returns-clause-false_clause
returns-clause-false_clause c = false_by_both

pub returns-clause-open_literal : goal.returns-clause-open_literal
returns-clause-open_literal c = λ (h : FalseFound (watching []) (decided 1) 4). elim (false_at _ _ h.is_false) [ inl a ↦ (let e = a.1 in cc) | inr b ↦ (let e = b.0 in cc) ]

pub returns-clause-lags_behind_below : goal.returns-clause-lags_behind_below
returns-clause-lags_behind_below c = λ (h : FalseFound (watching all_watched) (decided_again (minus 2 ∷ []) 2) 4). never_true_by 1 (h.follows.at 0 (pos 1) (pos 2) refl refl 0 (omega arith) refl (omega arith))
