use Rattle.std.proofs.Common.{◌≡◌, ℕ, zero, suc, ◌≤◌, Bool, true, false, List, [], ◌∷◌, codes, Option, Some, refl, ap, arith, pos}
use Rattle.std.specs.Prelude.{IsTrue, get_or}
use Rattle.std.specs.Fmt.{digits}
use Rattle.mono_base.specs.Partial.{has_var}
use Rattle.mono_steps.specs.WorkedLemmas.{chain}
use Rattle.mono_answer.specs.declared.answer.Answer.{Answer}
use Rattle.mono_answer.specs.declared.answer.Answer.TheVariants as answer
use Rattle.mono_answer.specs.declared.item.Item.{Item}
use Rattle.mono_answer.specs.declared.item.Item.TheVariants as item
use Rattle.mono_answer.specs.declared.kind.Kind.TheVariants as kind
use Rattle.mono_answer.specs.declared.version.Version.TheVariants as version
use Rattle.mono_answer.specs.Printed.{answer_text_as}
use Rattle.mono_check.specs.declared.verdict.Verdict.TheVariants as verdict
use Rattle.mono_check.specs.Migrations.{StandsFor}
use Rattle.mono_check.specs.Worked.{alone}
use Rattle.mono_rows.proofs.judged.migrated_models_and_refutations.Goals as goal

each : (x : ℕ) → 1 ≤ x → x ≤ 1 → IsTrue (has_var (pos 1 ∷ []) x)
each zero low high = absurd (omega (arith, low))
each (suc zero) low high = refl
each (suc (suc x)) low high = absurd (omega (arith, high))

pub returns-clause-model : goal.returns-clause-model
unfolding digits
returns-clause-model c = record {
  verdict = verdict.Model;
  judged = λ k d lt. absurd (omega (arith, lt));
  accepted = refl;
  answer = answer.Model (true ∷ []);
  stands = record {
    lines = _;
    rows = (pos 1 ∷ pos 0 ∷ []) ∷ [];
    lits = pos 1 ∷ [];
    behind = (2, refl);
    alone = refl;
    numbers = refl;
    one_each = record { known = refl; once = refl; each = each };
    true_where = refl;
  };
  is = refl;
}

pub returns-clause-refutation : goal.returns-clause-refutation
unfolding digits
returns-clause-refutation c = record {
  verdict = verdict.Refutation;
  judged = refl;
  accepted = refl;
  answer = answer.Refutation (chain [] (1 ∷ 2 ∷ []) ∷ []);
  stands = (_, (1, refl), refl);
  is = refl;
}

-- bytes of the status line
abbrev third : List ℕ → ℕ
third t = get_or t 2 0

abbrev fifth : List ℕ → ℕ
fifth t = get_or t 4 0

abbrev begins_refutation : List (ℕ × Option Item) → Bool
begins_refutation ((n, Some (item.Status kind.Refutation)) ∷ ls) = true
begins_refutation ls = false

abbrev begins_progress : List (ℕ × Option Item) → Bool
begins_progress ((n, Some (item.Status kind.Progress)) ∷ ls) = true
begins_progress ls = false

no_refutation : (a : Answer) → StandsFor (alone 1) (codes "s UNKNOWN\n") a → codes "s UNSATISFIABLE\n" ≡ answer_text_as a version.One 0 → ⊥
no_refutation (answer.Model values) stands is = let e = ap third is in omega (arith, e)
no_refutation (answer.Refutation steps) stands is = let e : false ≡ true = ap begins_refutation stands.1.1 in cc
no_refutation (answer.Progress steps) stands is = let e = ap fifth is in omega (arith, e)

pub returns-clause-progress_to_a_refutation : goal.returns-clause-progress_to_a_refutation
returns-clause-progress_to_a_refutation c = λ h. no_refutation h.answer h.stands h.is

no_progress : (a : Answer) → StandsFor (alone 1) (codes "s SATISFIABLE\nv 1 0\n") a → codes "s UNKNOWN\n" ≡ answer_text_as a version.One 0 → ⊥
no_progress (answer.Model values) stands is = let e = ap third is in omega (arith, e)
no_progress (answer.Refutation steps) stands is = let e = ap fifth is in omega (arith, e)
no_progress (answer.Progress steps) stands is = let e : false ≡ true = ap begins_progress stands.1.1 in cc

pub returns-clause-model_to_progress : goal.returns-clause-model_to_progress
returns-clause-model_to_progress c = λ h. no_progress h.answer h.stands h.is
