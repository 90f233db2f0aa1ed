use Rattle.std.proofs.Common.{length, ap, ◌∙◌}
use Rattle.std.proofs.lemmas.List.{length-map}
use Rattle.mono_theory.specs.Stages.{undone}
use Rattle.mono_theory.proofs.stages.Stages.undo_to.Goals as goal

pub invariant_of-self : goal.invariant_of-self
invariant_of-self c =
    let inv = c.self.invariant in
    let its = c.undo_stages_to-self-inside.ensures in
    record {
      inverse = inv.inverse;
      as_many = ap length its.stages ∙ length-map c.self.inside.stages.items (undone c.args.kept) ∙ inv.as_many;
      runs = its.runs c.self.inside.border inv.runs;
    }
