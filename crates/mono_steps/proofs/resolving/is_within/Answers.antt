use Rattle.std.proofs.Common.{◌==◌, ◌&&◌, not, ◌∙◌, ap, length, ◌≤◌, List, ℤ, arith}
use Rattle.std.proofs.lemmas.List.{take_all}
use Rattle.mono_base.specs.Literal.{has_lit}
use Rattle.mono_steps.proofs.Sets.{none_left}
use Rattle.mono_steps.proofs.resolving.is_within.Goals as goal

pub returns-clause-within : goal.returns-clause-within
returns-clause-within c =
    let all : length c.args.clause.now ≤ c.loop-lit.lit-index = omega (arith, c.loop-lit-test.false) in
    c.is_empty.ensures ∙ ap (λ (ls : List ℤ). length ls == 0) c.members.ensures.value
    ∙ none_left c.loop-lit.set.members c.args.set.now.members c.args.clause.now
    (λ l. c.loop-lit.invariant.1 l ∙ ap (λ (ls : List ℤ). has_lit c.args.set.now.members l && not (has_lit ls l)) (take_all c.loop-lit.lit-index c.args.clause.now all))
