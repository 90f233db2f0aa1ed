use Rattle.std.proofs.Common.{ℕ, ◌<◌, ◌≡◌, get_or, sym, subst, refl, arith, inl, inr}
use Rattle.std.proofs.lemmas.Bool.{cases_lt, both_ways}
use Rattle.mono_graph.proofs.Membership.{has_get_or}
use Rattle.mono_dynamic.specs.SearchTrees.{RestsOn}
use Rattle.mono_dynamic.proofs.Lists.{index_of}
use Rattle.mono_dynamic.proofs.reached_targets.rests_on_any.Goals as goal

pub loop-place-preserved : goal.loop-place-preserved
loop-place-preserved c = λ P j t lt r. elim (cases_lt j c.loop-place.place-index) [
  | inl old ↦ c.loop-place.invariant P j t old r
  | inr new ↦
      let e : j ≡ c.loop-place.place-index = omega arith in
      both_ways c.rests_on.result c.if-rests_on.false ((c.rests_on.ensures P t).1 (subst (λ (i : ℕ). RestsOn c.args.tree.now.tree.arrivals (get_or c.args.places.now i 0)) e r))
]

pub returns-then-rests_on : goal.returns-then-rests_on
returns-then-rests_on c = λ P t. (
  λ yes. (get_or c.args.places.now c.loop-place.place-index 0, has_get_or c.args.places.now c.loop-place.place-index 0 c.loop-place-test.true, (c.rests_on.ensures P t).0 c.if-rests_on.true),
  λ there. refl,
)

pub returns : goal.returns
returns c = λ P t. (
  λ no. absurd cc,
  λ there.
      let at = index_of c.args.places.now there.0 there.1 in
      let low : at.0 < c.loop-place.place-index = (let lt = at.1 in let all = c.loop-place-test.false in omega arith) in
      absurd (c.loop-place.invariant P at.0 t low (subst (λ (j : ℕ). RestsOn c.args.tree.now.tree.arrivals j) (sym at.2) there.2)),
)
