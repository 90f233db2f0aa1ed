use Rattle.std.proofs.Common.{◌≡◌, ◌∙◌, sym, ap, subst, arith, ℕ, List, length, get_or, refl, Vec, Global}
use Rattle.std.specs.Prelude.{ℤ, neg_ℤ, ◌+◌}
use Rattle.std.proofs.lemmas.List.Elements.{Contains-get_or}
use Rattle.mono_learn.specs.Minimizing.{AreKept}
use Rattle.mono_learn.proofs.MinimizingSteps.{kept_none, kept_more, kept_skip}
use Rattle.mono_learn.proofs.minimize.kept_lits.Goals as goal
use Rattle.mono_learn.proofs.minimize.kept_lits.Goals.{then-seen-place+in_ok-push, else-seen-place}

pub bounds-seen-place : goal.bounds-seen-place
bounds-seen-place c = omega (arith, c.requires.slots, c.requires.low (get_or c.args.kept.now c.loop-place.place-index 0) (Contains-get_or c.args.kept.now c.loop-place.place-index 0 c.loop-place-test.true))

pub literal-requires : goal.literal-requires
literal-requires c = c.requires.low (get_or c.args.kept.now c.loop-place.place-index 0) (Contains-get_or c.args.kept.now c.loop-place.place-index 0 c.loop-place-test.true)

pub loop-place-init : goal.loop-place-init
loop-place-init c = λ start low. subst (λ (ls : List ℤ). AreKept c.args.trail.now.lits start c.args.seen.now c.args.kept.now 0 ls) (sym c.new-lits.ensures.items) (kept_none c.args.trail.now.lits start c.args.seen.now c.args.kept.now)

pub loop-place-preserved : goal.loop-place-preserved
loop-place-preserved c = λ start low.
    let k : ℕ = get_or c.args.kept.now c.loop-place.place-index 0 in
    let held = Contains-get_or c.args.kept.now c.loop-place.place-index 0 c.loop-place-test.true in
    let t = c.args.trail.now.lits in
    elim c.if-seen-place.branch [
      | then-seen-place+in_ok-push w ↦ (
          kept_more t start c.args.seen.now c.args.kept.now c.loop-place.place-index k w.negated.result c.loop-place.lits.items c.if-seen-place.lits.items (c.loop-place.invariant start low) refl (low k held) w.if-seen-place.true
          (w.negated.ensures ∙ ap neg_ℤ w.literal.ensures) (ap (λ (v : Vec ℤ Global). v.items) w.lits-is ∙ w.in_ok-push.ensures.items)
          )
      | else-seen-place w ↦ subst (λ (ls : List ℤ). AreKept t start c.args.seen.now c.args.kept.now (c.loop-place.place-index + 1) ls) (sym (ap (λ (v : Vec ℤ Global). v.items) w.lits-is)) (kept_skip t start c.args.seen.now c.args.kept.now c.loop-place.place-index k c.loop-place.lits.items (c.loop-place.invariant start low) refl w.if-seen-place.false)
    ]

pub returns : goal.returns
returns c = λ start low. let e : c.loop-place.place-index ≡ length c.args.kept.now = omega (arith, c.loop-place-test.false, c.loop-place.auto) in subst (λ (n : ℕ). AreKept c.args.trail.now.lits start c.args.seen.now c.args.kept.now n c.loop-place.lits.items) e (c.loop-place.invariant start low)
