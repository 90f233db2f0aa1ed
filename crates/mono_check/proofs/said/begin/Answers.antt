use Rattle.std.proofs.Common.{◌+◌, length, Some, sym, ap, ◌∙◌, [], ◌∷◌}
use Rattle.std.proofs.lemmas.Result.{IfOk-weaker}
use Rattle.mono_answer.specs.declared.kind.Kind.{Kind}
use Rattle.mono_answer.specs.declared.item.Item.TheVariants as says
use Rattle.mono_answer.specs.Versions.{items_by}
use Rattle.mono_check.specs.Verdicts.{items_outcome}
use Rattle.mono_check.specs.SoFar.{ModelSoFar, model_behind, no_values}
use Rattle.mono_check.proofs.Behind.{model_walked}
use Rattle.mono_check.proofs.Versions.{model_by}
use Rattle.mono_check.proofs.said.begin.Goals as goal

pub returns-in_ok-new-in-Model-clause-behind : goal.returns-in_ok-new-in-Model-clause-behind
returns-in_ok-new-in-Model-clause-behind c = λ n ls.
    let p = c.args.problem.now in
    let v = c.args.version in
    let m = length p.clauses + 1 in
    ap (λ (s : ModelSoFar). model_behind p s ls) (c.in_ok-new-in-Model.ensures.none c.args.number)
    ∙ model_by p v m (no_values c.args.number) ls
    ∙ sym (model_walked p c.args.number [] (items_by v m ls))
    ∙ ap (λ (k : Kind). items_outcome p n (items_by v m ((c.args.number, Some (says.Status k)) ∷ ls))) (sym c.in-Model.is)

pub returns-in-Refutation-clause-behind : goal.returns-in-Refutation-clause-behind
returns-in-Refutation-clause-behind c =
    let p = c.args.problem.now in
    let v = c.args.version in
    IfOk-weaker c.begin_steps.result _ _
    (λ said h n ls. h ls ∙ ap (λ (k : Kind). items_outcome p n (items_by v (length p.clauses + 1) ((c.args.number, Some (says.Status k)) ∷ ls))) (sym c.in-Refutation.is))
    c.begin_steps.ensures.behind

pub returns-in-Progress-clause-behind : goal.returns-in-Progress-clause-behind
returns-in-Progress-clause-behind c =
    let p = c.args.problem.now in
    let v = c.args.version in
    IfOk-weaker c.begin_steps-in-Progress.result _ _
    (λ said h n ls. h ls ∙ ap (λ (k : Kind). items_outcome p n (items_by v (length p.clauses + 1) ((c.args.number, Some (says.Status k)) ∷ ls))) (sym c.in-Progress.is))
    c.begin_steps-in-Progress.ensures.behind
