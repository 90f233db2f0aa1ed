use Rattle.std.proofs.Common.{ℕ, ◌+◌, ◌∙◌, ap, refl}
use Rattle.rand_pcg.specs.Lcg.{Lcg}
use Rattle.mono_gen.specs.Draws.{after, draw}
use Rattle.mono_gen.specs.Generated.{edge_text}
use Rattle.mono_gen.proofs.Joining.{edge_more, joined_none, after_next}
use Rattle.mono_gen.proofs.input.push_edges.Goals as goal

pub loop-place-init : goal.loop-place-init
unfolding after
loop-place-init c = record { text = joined_none c.args.out.now.items (edge_text c.args.edges.now c.args.words.now); next = refl }

pub loop-place-preserved : goal.loop-place-preserved
loop-place-preserved c = record {
  text = c.in_ok-push_line.ensures.ok
      ∙ edge_more c.args.out.now.items c.loop-place.out.items c.args.edges.now c.args.words.now c.loop-place.place _ _ _
      c.from.ensures c.from-in-loop-place.ensures
      (c.from-in-loop-place-2.ensures ∙ ap (λ (w : ℕ). 1 + w) (c.draw-weight.ensures.value ∙ ap (λ (g : Lcg). draw 9 g) c.loop-place.invariant.next))
      c.loop-place.invariant.text;
  next = c.draw-weight.ensures.next ∙ (ap (λ (g : Lcg). after 1 g) c.loop-place.invariant.next ∙ after_next c.loop-place.place c.args.words.now);
}
