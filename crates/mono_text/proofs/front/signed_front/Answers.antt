use Rattle.std.proofs.Common.{◌≡◌, ◌∙◌, ap, sym, rules, get_or, refl}
use Rattle.mono_text.specs.Text.{is_blank}
use Rattle.mono_text.specs.Numbers.{as_negative}
use Rattle.mono_text.proofs.Fronts.{signed-minus_at}
use Rattle.mono_text.proofs.front.signed_front.Goals as goal

pub returns-in-45-clause-value : goal.returns-in-45-clause-value
returns-in-45-clause-value c =
    let is : get_or c.args.text.now 0 0 ≡ 45 = search rules in
    c.negative.ensures ∙ (ap as_negative c.natural_front-magnitude.ensures.value ∙ sym (signed-minus_at is_blank refl c.args.limit c.args.text.now c.in-45.len_at_least is))
