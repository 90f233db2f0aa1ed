use Rattle.std.proofs.Common.{refl, sym, ◌∙◌, arith}
use Rattle.std.proofs.lemmas.Bool.{both_ways}
use Rattle.mono_dynamic.proofs.reached_targets.has_all.Goals as goal

pub returns-then-not-has : goal.returns-then-not-has
returns-then-not-has c = (
  λ no. absurd cc,
  λ all. absurd (both_ways _ (sym c.has.ensures ∙ c.if-not-has.true) (all c.loop-target.target-index _ c.loop-target-test.true)),
)

pub returns : goal.returns
returns c = (λ yes i d lt. c.loop-target.invariant i d (let past = c.loop-target-test.false in omega (arith, lt, past)), λ all. refl)
