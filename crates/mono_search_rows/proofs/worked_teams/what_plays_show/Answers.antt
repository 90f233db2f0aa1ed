use Rattle.std.proofs.Common.{◌≡◌, ℕ, zero, suc, ◌∷◌, [], true, false, refl, arith, Some}
use Rattle.std.specs.Prelude.{slice_get}
use Rattle.std.proofs.lemmas.List.Elements.{All-nil, All-cons}
use Rattle.mono_portfolio.specs.declared.event.Event.TheVariants as event
use Rattle.mono_portfolio.specs.declared.event.Reply.TheVariants as reply
use Rattle.mono_portfolio.specs.Soundness.{IsTrueModel}
use Rattle.mono_search.specs.Worked.{both_signs, two_clauses}
use Rattle.mono_search_rows.proofs.worked_teams.what_plays_show.Goals as goal

pub returns-clause-gift_of_another : goal.returns-clause-gift_of_another
returns-clause-gift_of_another c = λ h. let e = h.refutes 1 1 refl refl in cc

pub returns-clause-model_last : goal.returns-clause-model_last
returns-clause-model_last c = λ h. let e = h.one_answer refl in cc

pub returns-clause-model_between : goal.returns-clause-model_between
returns-clause-model_between c = λ h. let e = h.one_answer refl in cc

no_gift : (w v n k : ℕ) → slice_get (event.Run w n ∷ []) k ≡ Some (event.Give v) → ⊥
no_gift w v n zero is = cc
no_gift w v n (suc k) is = cc

pub returns-clause-model_alone : goal.returns-clause-model_alone
returns-clause-model_alone c = record {
  justified = refl;
  models = All-cons (IsTrueModel two_clauses) (reply.Model (true ∷ false ∷ [])) [] (record { len = refl; satisfies = (refl, (λ k d lt. absurd (omega arith))) }) (All-nil (IsTrueModel two_clauses));
  refutes = λ k w is last. absurd (no_gift 0 w 1 k is);
  one_answer = λ some. refl;
}

pub returns-clause-unsat_alone : goal.returns-clause-unsat_alone
returns-clause-unsat_alone c = record {
  justified = refl;
  models = All-cons (IsTrueModel both_signs) reply.Unsat [] tt (All-nil (IsTrueModel both_signs));
  refutes = λ k w is last. absurd (no_gift 2 w 1 k is);
  one_answer = λ none. (let e : false ≡ true = none in absurd cc);
}
