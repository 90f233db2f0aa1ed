use Rattle.std.proofs.Common.{◌≡◌, ◌∙◌, subst, arith, ℕ, length, get_or, false, refl}
use Rattle.std.proofs.lemmas.List.Elements.{Contains-get_or}
use Rattle.std.proofs.lemmas.List.{length-set}
use Rattle.mono_learn.specs.Minimizing.{AreLeft}
use Rattle.mono_learn.proofs.MinimizingSteps.{left_start, left_more}
use Rattle.mono_learn.proofs.minimize.unmark.Goals as goal

pub index_mut-requires-in-loop-place : goal.index_mut-requires-in-loop-place
index_mut-requires-in-loop-place c = omega (arith, c.loop-place.invariant.len, c.loop-place.seen.ok.0, c.requires.low (get_or c.args.kept.now c.loop-place.place-index 0) (Contains-get_or c.args.kept.now c.loop-place.place-index 0 c.loop-place-test.true))

pub loop-place-init : goal.loop-place-init
loop-place-init c = record { len = length-set c.args.seen.now.items c.args.last false; left = left_start c.args.seen.now.items c.args.kept.now c.args.last }

pub loop-place-preserved : goal.loop-place-preserved
loop-place-preserved c =
    let k : ℕ = get_or c.args.kept.now c.loop-place.place-index 0 in
    record {
      len = length-set c.loop-place.seen.items k false ∙ c.loop-place.invariant.len;
      left = left_more c.args.seen.now.items c.loop-place.seen.items c.args.kept.now c.args.last c.loop-place.place-index k refl c.loop-place.invariant.left;
    }

pub returns : goal.returns
returns c = let e : c.loop-place.place-index ≡ length c.args.kept.now = omega (arith, c.loop-place-test.false, c.loop-place.auto) in subst (λ (n : ℕ). AreLeft c.args.seen.now.items c.loop-place.seen.items c.args.kept.now c.args.last n) e c.loop-place.invariant.left
