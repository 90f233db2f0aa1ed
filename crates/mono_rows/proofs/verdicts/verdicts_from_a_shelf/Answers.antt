use Rattle.std.proofs.Common.{◌≡◌, ℕ, List, [], codes, Option, Some, refl, sym, ap, subst, arith}
use Rattle.std.specs.Prelude.{length, unwrap_or}
use Rattle.mono_check.specs.declared.reason.Reason.TheVariants as reason
use Rattle.mono_check.specs.declared.verdict.Verdict.{Verdict}
use Rattle.mono_check.specs.declared.verdict.Verdict.TheVariants as verdict
use Rattle.mono_check.specs.Verdicts.{IsVerdict}
use Rattle.mono_check.specs.Worked.{two_edges}
use Rattle.mono_rows.proofs.verdicts.verdicts_from_a_shelf.Goals as goal

-- the verdict on a text that is known
on_text : (t text : List ℕ) (v : Verdict) → Some text ≡ Some t → IsVerdict (two_edges []) t v → IsVerdict (two_edges []) text v
on_text t text v is = subst (λ (u : List ℕ). IsVerdict (two_edges []) u v) (sym (ap (λ (o : Option (List ℕ)). unwrap_or o []) is))

pub returns-clause-read : goal.returns-clause-read
returns-clause-read c = record {
  text = codes "s UNKNOWN\n";
  read = record {
    once = record { begun = refl; texts = refl; steady = λ s. s };
    whole = refl;
    within = let e : length (codes "s UNKNOWN\n") ≡ 10 = refl in omega (arith, e);
    place = refl;
    faults = refl;
  };
  verdict = refl;
}

pub returns-clause-other_verdict : goal.returns-clause-other_verdict
returns-clause-other_verdict c = λ f. let e : verdict.Progress 1 ≡ verdict.Progress 0 = on_text f.text (codes "s UNKNOWN\n") (verdict.Progress 1) f.read.whole f.verdict in cc

pub returns-clause-not_read : goal.returns-clause-not_read
returns-clause-not_read c = λ f.
    let whole : codes "s UNKNOWN\n" ≡ f.text = ap (λ (o : Option (List ℕ)). unwrap_or o []) f.read.whole in
    let place : Some 9 ≡ Some (length f.text) = f.read.place in
    let len : 9 ≡ length f.text = ap (λ (o : Option ℕ). unwrap_or o 0) place in
    let e : 10 ≡ length f.text = ap (λ (t : List ℕ). length t) whole in
    omega (arith, len, e)

pub returns-clause-other_text : goal.returns-clause-other_text
returns-clause-other_text c = λ f.
    let e : verdict.Progress 0 ≡ verdict.Rejected 1 reason.NotAnswer = on_text f.text (codes "unknown!!\n") (verdict.Progress 0) f.read.whole f.verdict in
    cc
