use Rattle.std.proofs.Common.{subst}
use Rattle.mono_paths.specs.declared.find.PathOrCut.{PathOrCut}
use Rattle.mono_paths.specs.declared.find.PathOrCut.TheVariants as any
use Rattle.mono_paths.specs.Found.{IsPathOrCut}
use Rattle.mono_paths.proofs.Decides.{path_decides}
use Rattle.mono_check.proofs.predicates.reaches.Goals as goal

pub returns-clause-holds : goal.returns-clause-holds
returns-clause-holds c =
    path_decides c.args.graph.now c.args.part.now c.args.from c.args.to (any.Cut c.in-Cut.field-0)
    (subst (λ (f : PathOrCut). IsPathOrCut c.args.graph.now c.args.part.now c.args.from c.args.to f) c.in-Cut.is c.in_ok-find_path.ensures.passes)
