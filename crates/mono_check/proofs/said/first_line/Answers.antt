use Rattle.std.proofs.Common.{rules, ◌≡◌, ◌+◌, ◌∷◌, ℕ, List, Option, Some, length, sym, subst}
use Rattle.std.specs.Prelude.{IfOk}
use Rattle.mono_answer.specs.declared.item.Item.{Item}
use Rattle.mono_answer.specs.declared.item.Item.TheVariants as says
use Rattle.mono_answer.specs.Versions.{items_by}
use Rattle.mono_check.specs.Judges.{so_far}
use Rattle.mono_check.specs.SoFar.{behind_items}
use Rattle.mono_check.specs.Verdicts.{items_outcome}
use Rattle.mono_check.proofs.said.first_line.Goals as goal

pub returns-in-Some-Status-clause-behind : goal.returns-in-Some-Status-clause-behind
returns-in-Some-Status-clause-behind c =
    let p = c.args.problem.now in
    let same : ◌≡◌ {A = Option Item} c.args.item (Some (says.Status c.in-Some-Status.kind)) = search rules in
    subst (λ (i : Option Item). IfOk c.begin.result (λ said. (n : ℕ) (ls : List (ℕ × Option Item)) → behind_items p (so_far said) ls ≡ items_outcome p n (items_by c.args.version (length p.clauses + 1) ((c.args.number, i) ∷ ls)))) (sym same)
    c.begin.ensures.behind
