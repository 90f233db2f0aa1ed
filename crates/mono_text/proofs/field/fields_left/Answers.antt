use Rattle.std.proofs.Common.{◌≡◌, ◌∙◌, sym, drop, length, []}
use Rattle.mono_text.proofs.FieldSteps.{fields_whole}
use Rattle.mono_text.proofs.field.fields_left.Goals as goal

pub returns-in-None-clause-value : goal.returns-in-None-clause-value
returns-in-None-clause-value g c =
    let none : drop (length c.args.limits.now) c.args.tokens ≡ [] = rw c.told-limits (sym c.first_fields-read.ensures.rest ∙ c.in-None.ensures.steps.0) in
    c.first_fields-read.ensures.value ∙ fields_whole c.args.limits.now c.args.tokens none
