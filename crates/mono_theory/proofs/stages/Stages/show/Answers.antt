use Rattle.mono_theory.specs.declared.stage.Stage.TheVariants as stage
use Rattle.mono_theory.proofs.StageChanges.{placed, table_show}
use Rattle.mono_theory.proofs.stages.Stages.show.Goals as goal

pub invariant_of-self : goal.invariant_of-self
invariant_of-self c =
    let at = placed c.args.atom c.place-place.result stage.Waits c.self.invariant (rw (← c.self.view_is) at c.requires.atom) c.place-place.ensures.value (rw (← c.self.view_is) at c.requires.waits) in
    table_show c.self.invariant at (rw (← c.self.view_is) at c.requires.latest) (record {
      inverse = c.change.ensures.inverse;
      as_many = c.change.ensures.as_many;
      written = c.change.ensures.stages;
      change = c.change.ensures.change;
    })
