use Rattle.std.proofs.Common.{◌++◌, ◌∙◌, ℕ, List, sym, ap, append-nil, arith}
use Rattle.mono_forms.specs.CoreTexts.{needs_text}
use Rattle.mono_forms.proofs.CoreLines.{needs_step, needs_over}
use Rattle.mono_forms.proofs.core_text.push_needs.Goals as goal

pub loop-place-preserved : goal.loop-place-preserved
loop-place-preserved c =
    let lits = c.args.lits.now in
    let needs = c.args.needs.now in
    needs_step c.loop-place.out.items c.push_need.new.out.items (c.args.out.now.items ++ needs_text lits needs) lits needs c.loop-place.place c.index-lits-place.result c.index-needs-place.result
    (omega (arith, c.loop-place-test.true)) (omega (arith, c.loop-place-test.true)) c.index-lits-place.is c.index-needs-place.is c.loop-place.invariant c.in_ok-push_need.ensures

pub returns : goal.returns
returns c =
    let lits = c.args.lits.now in
    let needs = c.args.needs.now in
    sym (append-nil c.loop-place.out.items)
    ∙ (ap (λ (t : List ℕ). c.loop-place.out.items ++ t) (sym (needs_over lits needs c.loop-place.place (omega (arith, c.loop-place-test.false))))
    ∙ c.loop-place.invariant)
