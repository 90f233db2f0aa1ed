use Rattle.std.proofs.Common.{◌≡◌, ℤ, pos, subst, w64, to_z, of_z, SFits, rules}
use Rattle.std.specs.Prelude.{Some}
use Rattle.std.proofs.lemmas.Int.{to_z-of_z}
use Rattle.mono_graph.specs.declared.limit.Limit.{Limit}
use Rattle.mono_paths.specs.Found.{IsBound}
use Rattle.mono_paths.specs.Spread.{AreTight}
use Rattle.mono_paths.specs.Searches.{IsLabelSearch, source_of}
use Rattle.mono_paths.specs.Asked.{limit_by}
use Rattle.mono_paths.proofs.Reached.{answer_decides}
use Rattle.mono_paths.proofs.asked.is_reached.Goals as goal

pub returns-clause-reached : goal.returns-clause-reached
returns-clause-reached c =
    let e = c.in_ok-reached.ensures in
    let counted : c.limit-2.result ≡ limit_by c.args.measure (pos 0) = c.limit-2.ensures in
    let fits : SFits w64 c.args.target.most = search rules in
    let kept : to_z w64 (of_z w64 c.args.target.most) ≡ c.args.target.most = to_z-of_z w64 c.args.target.most fits in
    let bound : IsBound (limit_by c.args.measure c.args.target.most) (Some c.in-Some.most) = subst (λ (z : ℤ). IsBound (limit_by c.args.measure z) (Some c.in-Some.most)) kept
    (subst (λ (l : Limit). IsBound l (Some c.in-Some.most)) c.limit.ensures c.in-Some.ensures) in
    answer_decides c.args.graph.now c.args.part.now c.args.measure (source_of c.args.search.now) c.args.target.node c.args.target.most c.in-Some.most c.args.search.now.labels.cap c.goes_to.new.self c.in_ok-reached.reached
    (subst (λ (l : Limit). IsLabelSearch c.args.graph.now c.args.part.now l c.goes_to.new.self) counted e.search) e.source c.requires.target.0 bound c.requires.cap c.requires.some e.cap e.found e.above
    (λ off. subst (λ (l : Limit). AreTight c.args.graph.now c.args.part.now l c.goes_to.new.self.labels.each) counted (e.tight off))
