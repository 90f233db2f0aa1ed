use Rattle.std.proofs.Common.{◌≡◌, ℕ, Bool, true, false, List, ◌∷◌, codes, ap, arith}
use Rattle.std.specs.Prelude.{Option, Some, get_or}
use Rattle.mono_answer.specs.declared.answer.Answer.{Answer}
use Rattle.mono_answer.specs.declared.answer.Answer.TheVariants as answer
use Rattle.mono_answer.specs.declared.item.Item.{Item}
use Rattle.mono_answer.specs.declared.item.Item.TheVariants as item
use Rattle.mono_answer.specs.declared.kind.Kind.TheVariants as kind
use Rattle.mono_answer.specs.declared.version.Version.TheVariants as version
use Rattle.mono_answer.specs.Printed.{answer_text_as}
use Rattle.mono_check.specs.Migrations.{StandsFor}
use Rattle.mono_check.specs.Worked.{alone}
use Rattle.mono_rows.proofs.versions.other_answers.Goals as goal

abbrev third : List ℕ → ℕ
third t = get_or t 2 0

abbrev begins_progress : List (ℕ × Option Item) → Bool
begins_progress ((n, Some (item.Status kind.Progress)) ∷ ls) = true
begins_progress ls = false

no_model : (a : Answer) → StandsFor (alone 1) (codes "s UNKNOWN\n") a → codes "s SATISFIABLE\nv 1 0\n" ≡ answer_text_as a version.One 0 → ⊥
no_model (answer.Model values) stands is = let e : true ≡ false = ap begins_progress stands.behind.1 in cc
no_model (answer.Refutation steps) stands is = let e = ap third is in omega (arith, e)
no_model (answer.Progress steps) stands is = let e = ap third is in omega (arith, e)

pub returns : goal.returns
returns c = record { model = λ h. no_model h.answer h.stands h.is }
