use Rattle.std.proofs.Common.{◌≡◌, ◌∙◌, ◌&&◌, ◌||◌, true, false, not, get_or, sym, subst, refl, ℤ, pos, w32, to_z, of_z, SFits, rules}
use Rattle.std.specs.Ordering.{int_eq}
use Rattle.std.proofs.lemmas.Int.{to_z-of_z}
use Rattle.std.proofs.lemmas.List.{get_or_default}
use Rattle.mono_base.specs.Literal.{has_lit}
use Rattle.mono_check.specs.Values.{is_end}
use Rattle.mono_check.specs.Seen.{fits}
use Rattle.mono_check.proofs.Literals.{stopped_at, one_more}
use Rattle.mono_check.proofs.values.add_literals.Goals as goal

pub returns-then-not-add_number-clause-values : goal.returns-then-not-add_number-clause-values
returns-then-not-add_number-clause-values c = λ lits m.
    let p = c.args.problem.now in
    let zs = c.args.numbers.now in
    let i = c.loop-number.number-index in
    let z : ℤ = get_or zs i (pos 0) in
    let within : SFits w32 (get_or zs i (pos 0)) = search rules in
    let kept : to_z w32 (of_z w32 (get_or zs i (pos 0))) ≡ get_or zs i (pos 0) = to_z-of_z w32 (get_or zs i (pos 0)) within in
    let found = subst (λ (y : ℤ). fits p c.loop-number.set.members y ≡ false) kept (sym c.if-not-add_number.ensures.fits) in
    sym (stopped_at p lits zs c.loop-number.set i z c.loop-number-test.true (get_or_default zs i (pos 0) z c.loop-number-test.true) (c.loop-number.invariant.1 lits m) found)

pub loop-number-preserved : goal.loop-number-preserved
loop-number-preserved c =
    let p = c.args.problem.now in
    let zs = c.args.numbers.now in
    let i = c.loop-number.number-index in
    let z : ℤ = get_or zs i (pos 0) in
    let within : SFits w32 (get_or zs i (pos 0)) = search rules in
    let kept : to_z w32 (of_z w32 (get_or zs i (pos 0))) ≡ get_or zs i (pos 0) = to_z-of_z w32 (get_or zs i (pos 0)) within in
    let found = subst (λ (y : ℤ). fits p c.loop-number.set.members y ≡ true) kept (sym c.if-not-add_number.ensures.fits) in (
      c.if-not-add_number.ensures.vars ∙ c.loop-number.invariant.0,
      λ lits m.
          one_more p lits zs c.loop-number.set c.add_number.new.set i z c.loop-number-test.true (get_or_default zs i (pos 0) z c.loop-number-test.true) (c.loop-number.invariant.1 lits m) found c.if-not-add_number.ensures.vars
          (λ n. subst (λ (y : ℤ). has_lit c.add_number.new.set.members n ≡ (has_lit c.loop-number.set.members n || (not (is_end y) && int_eq n y))) kept (c.if-not-add_number.ensures.has refl n)),
    )
