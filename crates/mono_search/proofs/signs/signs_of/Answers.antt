use Rattle.std.proofs.Common.{◌+◌, ℤ, List, All, length, sym, subst, arith}
use Rattle.std.proofs.lemmas.List.Elements.{All-nil, All-push}
use Rattle.mono_base.specs.Literal.{IsLitWithin}
use Rattle.mono_search.specs.Signs.{AreSigns}
use Rattle.mono_search.proofs.ModelSigns.{signs_first, signs_more, is_within}
use Rattle.mono_search.proofs.signs.signs_of.Goals as goal

pub loop-place-init : goal.loop-place-init
loop-place-init c =
    let m = c.args.model.now in
    let within = subst (λ (ls : List ℤ). All (IsLitWithin (length m)) ls) (sym c.new-lits.ensures.items) (All-nil (IsLitWithin (length m))) in
    (within, subst (λ (ls : List ℤ). AreSigns m 0 ls) (sym c.new-lits.ensures.items) (signs_first m))

pub loop-place-preserved : goal.loop-place-preserved
loop-place-preserved c =
    let m = c.args.model.now in
    let k = c.loop-place.place in
    let l = c.of.result in
    let within : IsLitWithin (length m) l = is_within (length m) _ _ l c.of.ensures.value (omega arith) (omega (arith, c.loop-place-test.true)) in (
      subst (λ (ls : List ℤ). All (IsLitWithin (length m)) ls) (sym c.in_ok-push.ensures.items) (All-push (IsLitWithin (length m)) c.loop-place.lits.items l c.loop-place.invariant.0 within),
      subst (λ (ls : List ℤ). AreSigns m (k + 1) ls) (sym c.in_ok-push.ensures.items) (signs_more m k l c.loop-place.lits.items c.of.ensures.value c.loop-place.invariant.1),
    )
