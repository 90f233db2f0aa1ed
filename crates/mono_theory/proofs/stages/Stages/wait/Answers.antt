use Rattle.std.proofs.Common.{◌≡◌, ◌<◌, ◌∙◌, length, sym}
use Rattle.std.proofs.lemmas.List.{get_or_default}
use Rattle.mono_theory.specs.declared.stage.Stage.TheVariants as stage
use Rattle.mono_theory.specs.Stages.{stage_at}
use Rattle.mono_theory.proofs.StageChanges.{placed, table_wait}
use Rattle.mono_theory.proofs.stages.Stages.wait.Goals as goal

pub invariant_of-self : goal.invariant_of-self
invariant_of-self c =
    let stages = c.self.inside.stages.items in
    let known : c.args.atom < length stages = rw (← c.self.view_is) at c.requires in
    let stands : stage_at stages c.args.atom ≡ stage.Stands =
    get_or_default stages c.args.atom stage.Waits c.index.result.now known ∙ sym c.index.ensures ∙ c.is_standing.ensures.stands c.if-not-is_standing.false in
    table_wait c.self.invariant (placed c.args.atom c.place-place.result stage.Stands c.self.invariant known c.place-place.ensures.value stands) (record {
      inverse = c.change.ensures.inverse;
      as_many = c.change.ensures.as_many;
      written = c.change.ensures.stages;
      change = c.change.ensures.change;
    })
