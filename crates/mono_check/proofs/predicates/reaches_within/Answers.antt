use Rattle.std.proofs.Common.{subst}
use Rattle.mono_paths.specs.declared.find.PathOrLabels.{PathOrLabels}
use Rattle.mono_paths.specs.declared.find.PathOrLabels.TheVariants as any
use Rattle.mono_paths.specs.Found.{IsPathOrLabels}
use Rattle.mono_paths.proofs.Decides.{light_decides}
use Rattle.mono_check.proofs.predicates.reaches_within.Goals as goal

pub returns-clause-holds : goal.returns-clause-holds
returns-clause-holds c =
    light_decides c.args.graph.now c.args.part.now c.args.from c.args.to c.args.limit (any.Labels c.in-Labels.field-0) c.requires.limit
    (subst (λ (f : PathOrLabels). IsPathOrLabels c.args.graph.now c.args.part.now c.args.from c.args.to c.args.limit f) c.in-Labels.is c.in_ok-find_light.ensures.passes)
