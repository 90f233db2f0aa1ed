use Rattle.std.proofs.Common.{◌∙◌, ◌≤◌, sym, subst, ℕ, List, Result, get_or, rules}
use Rattle.std.specs.Result.{IfOk}
use Rattle.mono_text.specs.declared.number.NumberRefusal.{NumberRefusal}
use Rattle.mono_text.proofs.FieldSteps.{FieldsSoFar, fields_number, passed_on}
use Rattle.mono_text.proofs.field.first_fields.Goals as goal

pub returns-then-pass-clause-rest : goal.returns-then-pass-clause-rest
returns-then-pass-clause-rest g c =
    let (t, e, r) = c.in-Some-Err.ensures.first in
    let before = subst (λ (ts : List (List ℕ)). FieldsSoFar g.row.N c.loop-place.place c.args.limits.now c.loop-place.values c.args.tokens.now ts) e c.loop-place.invariant in
    c.pass.ensures.rest ∙ passed_on g.row.N c.loop-place.place c.args.limits.now c.loop-place.values c.args.tokens.now t c.next_natural.new.self c.told-limits c.loop-place-test.true before

pub loop-place-preserved : goal.loop-place-preserved
loop-place-preserved g c =
    let (t, e, r) = c.in-Some-Ok.ensures.first in
    let before = subst (λ (ts : List (List ℕ)). FieldsSoFar g.row.N c.loop-place.place c.args.limits.now c.loop-place.values c.args.tokens.now ts) e c.loop-place.invariant in
    let is = c.in-Some-Ok.field-0-is in
    let low = subst (λ (n : Result ℕ NumberRefusal). IfOk n (λ v. v ≤ get_or c.args.limits.now c.loop-place.place 0)) is c.in-Some-Ok.ensures.within in
    fields_number g.row.N c.loop-place.place c.args.limits.now c.loop-place.values c.args.tokens.now t c.next_natural.new.self c.told-limits c.loop-place-test.true before c.in-Some-Ok.value (sym is ∙ r) low

pub returns-in-Some-Err-clause-value : goal.returns-in-Some-Err-clause-value
returns-in-Some-Err-clause-value g c = search rules
