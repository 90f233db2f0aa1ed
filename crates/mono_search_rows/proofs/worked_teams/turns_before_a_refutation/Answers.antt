use Rattle.std.proofs.Common.{◌≡◌, ◌∙◌, ℕ, zero, suc, List, [], arith}
use Rattle.mono_steps.specs.declared.step.Step.{Step}
use Rattle.mono_search.specs.Worked.{both_signs}
use Rattle.mono_portfolio.specs.Rounds.{AreRounds, IsPiece, IsRound}
use Rattle.mono_search_rows.proofs.worked_teams.turns_before_a_refutation.Goals as goal

-- no thousand clauses are learned over one variable
no_piece : (before : List Step) (taken : List ℕ) (piece : List Step) → IsPiece 1000 both_signs before taken piece → ⊥
no_piece before taken piece h = let few = h.learned.few in omega (arith, few)

none_given : (done worker : ℕ) (taken : List ℕ) (before board : List Step) → AreRounds 1000 both_signs 2 done [] [] taken before → IsRound 1000 both_signs worker taken before board → board ≡ []
none_given zero zero taken before board r t = t ∙ r.1
none_given zero (suc w) taken before board r t = absurd (no_piece before taken t.0 t.1)
none_given (suc d) w taken before board r t = absurd (no_piece [] [] r.1.0 r.1.1)

pub returns : goal.returns
returns c = λ board h. none_given h.reached.done h.reached.worker h.taken h.reached.before h.before h.reached.rounds_before h.reached.turns_before
