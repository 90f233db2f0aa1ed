use Rattle.std.proofs.Common.{◌≡◌, sym, subst, w64, to_z, of_z, ℤ}
use Rattle.std.proofs.lemmas.Int.{to_z-of_z}
use Rattle.std.proofs.lemmas.Result.{IfOk-weaker}
use Rattle.mono_trees.specs.declared.finder.TreeFound.TheVariants as found
use Rattle.mono_trees.specs.Found.{Passes}
use Rattle.mono_theory.specs.Evidences.{IsEvidence}
use Rattle.mono_tree.specs.Spanning.{tree_evidence, split_evidence, IsLeastEvidence}
use Rattle.mono_tree.proofs.TreeEvidence.{tree_shows, split_shows, least_shows}
use Rattle.mono_tree.proofs.tree.Tree.show.Goals as goal

pub returns-in-Tree-clause-evidence : goal.returns-in-Tree-clause-evidence
returns-in-Tree-clause-evidence c =
    let g = c.args.graph.now in
    let P = c.args.part.now in
    let kept : to_z w64 (of_z w64 c.args.most) ≡ c.args.most = to_z-of_z w64 c.args.most c.ranges.most in
    let ks = c.in-Tree.places in
    IfOk-weaker c.tree_evidence.result (λ e. e ≡ tree_evidence g ks.items) _
    (λ e is. subst (IsEvidence g P _) (sym is)
    (tree_shows g P c.args.most ks.items c.known.ensures.graph (rw c.in-Tree.is at c.in_ok-places.ensures.known)
    (subst (λ (z : ℤ). Passes g P z (found.Tree ks)) kept (rw c.in-Tree.is at c.in_ok-places.ensures.passes)))) c.tree_evidence.ensures

pub returns-in-Split-clause-evidence : goal.returns-in-Split-clause-evidence
returns-in-Split-clause-evidence c =
    let g = c.args.graph.now in
    let P = c.args.part.now in
    let kept : to_z w64 (of_z w64 c.args.most) ≡ c.args.most = to_z-of_z w64 c.args.most c.ranges.most in
    let set = c.in-Split.nodes in
    IfOk-weaker c.split_evidence.result (λ e. e ≡ split_evidence g P set.items) _
    (λ e is. subst (IsEvidence g P _) (sym is)
    (split_shows g P c.args.most set.items (rw c.in-Split.is at c.in_ok-places.ensures.known)
    (subst (λ (z : ℤ). Passes g P z (found.Split set)) kept (rw c.in-Split.is at c.in_ok-places.ensures.passes)))) c.split_evidence.ensures.evidence

pub returns-in-Least-clause-evidence : goal.returns-in-Least-clause-evidence
returns-in-Least-clause-evidence c =
    let g = c.args.graph.now in
    let P = c.args.part.now in
    let kept : to_z w64 (of_z w64 c.args.most) ≡ c.args.most = to_z-of_z w64 c.args.most c.ranges.most in
    let ks = c.in-Least.places in
    IfOk-weaker c.least_evidence.result (IsLeastEvidence g P ks.items) _
    (λ e is. least_shows g P c.args.most ks.items e c.known.ensures.graph (rw c.in-Least.is at c.in_ok-places.ensures.known)
    (subst (λ (z : ℤ). Passes g P z (found.Least ks)) kept (rw c.in-Least.is at c.in_ok-places.ensures.passes)) is) (rw c.as_slice.ensures.value at c.least_evidence.ensures.evidence)
