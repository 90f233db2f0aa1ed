use Rattle.std.proofs.Common.{◌∙◌, sym, ap, arith, inl, inr, Some}
use Rattle.std.proofs.lemmas.Grind.{common_steps}
use Rattle.mono_text.specs.Text.{is_blank}
use Rattle.mono_text.specs.Numbers.{within}
use Rattle.mono_text.proofs.Fronts.{natural-front, rest-front, digit-not-blank}
use Rattle.mono_text.proofs.front.natural_front.Goals as goal

pub returns-then-count-text-clause-value : goal.returns-then-count-text-clause-value
returns-then-count-text-clause-value c =
    let d = c.digits_front-value in
    c.up_to.ensures.value ∙ ap (within c.args.limit) (ap Some d.ensures.value ∙ sym (natural-front is_blank digit-not-blank c.args.text.now d.result.1 (omega arith) d.ensures.count d.ensures.digits (inl (omega arith))))

pub returns-then-count-text-clause-rest : goal.returns-then-count-text-clause-rest
returns-then-count-text-clause-rest c =
    let d = c.digits_front-value in
    let e = rest-front c.args.text.now d.result.1 d.ensures.count d.ensures.digits (inl (omega arith)) in
    rw e (grind (arith, common_steps))

pub returns-then-is_blank-clause-value : goal.returns-then-is_blank-clause-value
returns-then-is_blank-clause-value c =
    let d = c.digits_front-value in
    c.up_to-then-is_blank.ensures.value ∙ ap (within c.args.limit) (ap Some d.ensures.value ∙ sym (natural-front is_blank digit-not-blank c.args.text.now d.result.1 (omega arith) d.ensures.count d.ensures.digits (inr (sym c.is_blank.ensures ∙ c.if-is_blank.true))))

pub returns-then-is_blank-clause-rest : goal.returns-then-is_blank-clause-rest
returns-then-is_blank-clause-rest c =
    let d = c.digits_front-value in
    let e = rest-front c.args.text.now d.result.1 d.ensures.count d.ensures.digits (inr (sym c.is_blank.ensures ∙ c.if-is_blank.true)) in
    rw e (grind (arith, common_steps))
