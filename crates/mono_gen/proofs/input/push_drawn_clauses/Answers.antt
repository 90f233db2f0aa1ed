use Rattle.std.proofs.Common.{◌*◌, ◌∙◌, ap, refl}
use Rattle.rand_pcg.specs.Lcg.{Lcg}
use Rattle.mono_gen.specs.Lines.{clause}
use Rattle.mono_gen.specs.Draws.{after}
use Rattle.mono_gen.specs.Generated.{drawn_clause}
use Rattle.mono_gen.proofs.Joining.{clause_more, joined_none, after_five}
use Rattle.mono_gen.proofs.input.push_drawn_clauses.Goals as goal

pub loop-done-init : goal.loop-done-init
unfolding after
loop-done-init c = record { text = joined_none c.args.out.now.items (λ k. clause (drawn_clause c.args.edges (after (5 * k) c.args.words.now))); next = refl }

pub loop-done-preserved : goal.loop-done-preserved
loop-done-preserved c = record {
  text = c.in_ok-push_clause.ensures.ok
      ∙ clause_more c.args.out.now.items c.loop-done.out.items c.args.edges c.args.words.now c.loop-done.words c.loop-done._done _
      c.draw_clause-lits.ensures.value c.loop-done.invariant.next c.loop-done.invariant.text;
  next = c.draw_clause-lits.ensures.next ∙ (ap (λ (g : Lcg). after 5 g) c.loop-done.invariant.next ∙ after_five c.loop-done._done c.args.words.now);
}
