use Rattle.std.proofs.Common.{◌≡◌, ℕ, List, [], ◌∷◌, pos, codes, refl, ap, subst, arith}
use Rattle.std.specs.Prelude.{get_or, IsTrue}
use Rattle.std.specs.Fmt.{digits}
use Rattle.mono_steps.specs.WorkedLemmas.{chain}
use Rattle.mono_answer.specs.declared.answer.Answer.{Answer}
use Rattle.mono_answer.specs.declared.answer.Answer.TheVariants as answer
use Rattle.mono_answer.specs.declared.version.Version.TheVariants as version
use Rattle.mono_answer.specs.Printed.{answer_text_as}
use Rattle.mono_check.specs.declared.verdict.Verdict.{Verdict}
use Rattle.mono_check.specs.declared.verdict.Verdict.TheVariants as verdict
use Rattle.mono_check.specs.declared.reason.Reason.TheVariants as reason
use Rattle.mono_check.specs.Migrations.{is_accepted}
use Rattle.mono_rows.proofs.versions.migrated_answers.Goals as goal

pub returns-clause-to_one : goal.returns-clause-to_one
returns-clause-to_one c = record {
  verdict = verdict.Progress 0;
  judged = refl;
  accepted = refl;
  answer = answer.Progress [];
  stands = ([], (2, refl), refl);
  is = refl;
}

pub returns-clause-turned : goal.returns-clause-turned
unfolding digits
returns-clause-turned c = record {
  verdict = verdict.Progress 1;
  judged = refl;
  accepted = refl;
  answer = answer.Progress (chain (pos 1 ∷ []) (1 ∷ []) ∷ []);
  stands = (_, (1, refl), refl);
  is = refl;
}

not_accepted : (v : Verdict) → v ≡ verdict.Rejected 2 reason.UnknownNumber → IsTrue (is_accepted v) → ⊥
not_accepted v is ok = let e = subst (λ (w : Verdict). IsTrue (is_accepted w)) is ok in cc

pub returns-clause-rejected : goal.returns-clause-rejected
returns-clause-rejected c = λ h. not_accepted h.verdict h.judged h.accepted

abbrev first : List ℕ → ℕ
first t = get_or t 0 0

not_two : (a : Answer) → codes "s UNKNOWN\n" ≡ answer_text_as a version.Two 0 → ⊥
not_two (answer.Model values) is = let e = ap first is in omega (arith, e)
not_two (answer.Refutation steps) is = let e = ap first is in omega (arith, e)
not_two (answer.Progress steps) is = let e = ap first is in omega (arith, e)

pub returns-clause-other_version : goal.returns-clause-other_version
returns-clause-other_version c = λ h. not_two h.answer h.is
