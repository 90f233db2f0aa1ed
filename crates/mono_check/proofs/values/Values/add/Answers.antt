use Rattle.std.proofs.Common.{◌≡◌, ℕ, List, Option, Some, sym, subst}
use Rattle.std.specs.Prelude.{IfNone}
use Rattle.mono_answer.specs.declared.item.Item.{Item}
use Rattle.mono_answer.specs.declared.item.Item.TheVariants as says
use Rattle.mono_check.specs.Seen.{model_kept}
use Rattle.mono_check.specs.SoFar.{model_behind, model_more}
use Rattle.mono_check.proofs.Alike.{itself, values_stay_by, values_grow_by}
use Rattle.mono_check.proofs.values.Values.add.Goals as goal

pub returns-in-Some-Values-clause-kept : goal.returns-in-Some-Values-clause-kept
returns-in-Some-Values-clause-kept c =
    let p = c.args.problem.now in
    let v = c.args.self.now in
    values_stay_by p v c.add_values-reason.new.self c.args.number (Some (says.Values c.as_slice.result.now)) c.add_values-reason.result (c.add_values-reason.ensures.after v.set.members (itself p v c.requires)) c.members.ensures.distinct

pub returns-in-Some-Values-clause-behind : goal.returns-in-Some-Values-clause-behind
returns-in-Some-Values-clause-behind c =
    let p = c.args.problem.now in
    let v = c.args.self.now in
    let after = c.add_values-reason.new.self in
    let item : c.args.item ≡ Some (says.Values c.as_slice.result.now) = cc in
    subst (λ (i : Option Item). IfNone c.add_values-reason.result ((n : ℕ) (ls : List (ℕ × Option Item)) → model_behind p (model_kept n after) ls ≡ model_behind p (model_more c.args.number i (model_kept n v)) ls)) (sym item)
    (values_grow_by p v after c.args.number (Some (says.Values c.as_slice.result.now)) c.add_values-reason.result (c.add_values-reason.ensures.after v.set.members (itself p v c.requires)) c.members.ensures.distinct)
