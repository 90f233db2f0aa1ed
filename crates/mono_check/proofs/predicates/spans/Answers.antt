use Rattle.std.proofs.Common.{◌≡◌, subst, w64, to_z, of_z, ℤ}
use Rattle.std.proofs.lemmas.Int.{to_z-of_z}
use Rattle.mono_trees.specs.declared.finder.TreeFound.{TreeFound}
use Rattle.mono_trees.specs.declared.finder.TreeFound.TheVariants as any
use Rattle.mono_trees.specs.Found.{Passes}
use Rattle.mono_trees.proofs.Decides.{decides}
use Rattle.mono_check.proofs.predicates.spans.Goals as goal

pub returns-in-Split-clause-holds : goal.returns-in-Split-clause-holds
returns-in-Split-clause-holds c =
    let kept : to_z w64 (of_z w64 c.args.most) ≡ c.args.most = to_z-of_z w64 c.args.most c.ranges.most in
    let passes = subst (λ (f : TreeFound). Passes c.args.graph.now c.args.part.now (to_z w64 (of_z w64 c.args.most)) f) c.in-Split.is c.in_ok-find_tree.ensures.passes in
    decides c.args.graph.now c.args.part.now c.args.most (any.Split c.in-Split.field-0)
    (subst (λ (z : ℤ). Passes c.args.graph.now c.args.part.now z (any.Split c.in-Split.field-0)) kept passes)

pub returns-clause-holds : goal.returns-clause-holds
returns-clause-holds c =
    let kept : to_z w64 (of_z w64 c.args.most) ≡ c.args.most = to_z-of_z w64 c.args.most c.ranges.most in
    let passes = subst (λ (f : TreeFound). Passes c.args.graph.now c.args.part.now (to_z w64 (of_z w64 c.args.most)) f) c.in-Least.is c.in_ok-find_tree.ensures.passes in
    decides c.args.graph.now c.args.part.now c.args.most (any.Least c.in-Least.field-0)
    (subst (λ (z : ℤ). Passes c.args.graph.now c.args.part.now z (any.Least c.in-Least.field-0)) kept passes)
