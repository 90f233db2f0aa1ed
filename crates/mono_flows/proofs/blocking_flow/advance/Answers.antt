use Rattle.std.proofs.Common.{◌≡◌, ◌+◌, ◌-◌, ◌<◌, ℕ, List, [], ◌∷◌, ◌++◌, length, take, min, refl, ◌∙◌, subst, arith}
use Rattle.std.proofs.lemmas.List.{get_or_read}
use Rattle.std.specs.Prelude.{IsTrue}
use Rattle.mono_flows.specs.declared.visit.Visit.{Visit}
use Rattle.mono_flows.specs.Residual.{amount_of, residual_at}
use Rattle.mono_flows.specs.Visits.{visit_at, first_visit}
use Rattle.mono_flows.proofs.LevelPaths.{not-not, rising_is, rising_push, rising_pop}
use Rattle.mono_flows.proofs.blocking_flow.advance.Goals as goal

pub returns-in_ok-push-in-Some-clause-path : goal.returns-in_ok-push-in-Some-clause-path
returns-in_ok-push-in-Some-clause-path c = λ going.
    let n = c.args.network.now in
    let fs : List ℕ = c.args.flow.now.amounts.items in
    let most : ℕ = c.args.goal - c.args.flow.now.value in
    let path : List Visit = c.args.path.now.items in
    let e = c.in-Some.ensures in
    let v : Visit = c.in-Some.visit in
    let at : ℕ = c.len-at.result - 1 in
    let at-end : at + 1 ≡ length path = let some = c.requires.path.tree.some in omega arith in
    let last-is : c.index-last.result.now ≡ visit_at path at = get_or_read path at c.index-last.result.now (omega arith) c.index-last.ensures (first_visit 0 0) in
    let some : 0 < residual_at n.graph.now n.part.now (amount_of fs) v.edge.place v.edge.back =
    subst (λ (as' : List ℕ). 0 < residual_at n.graph.now n.part.now (amount_of as') v.edge.place v.edge.back) c.deref.ensures.value e.some in
    let residual : v.residual ≡ min (residual_at n.graph.now n.part.now (amount_of fs) v.edge.place v.edge.back) c.index-last.result.now.residual =
    subst (λ (as' : List ℕ). v.residual ≡ min (residual_at n.graph.now n.part.now (amount_of as') v.edge.place v.edge.back) c.index-last.result.now.residual) c.deref.ensures.value e.residual in
    rising_is c.next_visit.new.self.levels.items c.next_visit.new.self.levels.items (path ++ v ∷ []) c.push.new.self.items refl c.in_ok-push-in-Some.ensures.items
    (rising_push n.graph.now n.part.now (amount_of fs) c.next_visit.new.self.levels.items n.source most at c.index-last.result.now path v
    (rising_is c.args.levels.now.levels.items c.next_visit.new.self.levels.items path path e.same refl c.requires.path) at-end last-is e.before e.known e.start e.end e.inside some residual e.level)

pub returns-in-None-clause-path : goal.returns-in-None-clause-path
returns-in-None-clause-path c = λ going.
    let t : IsTrue c.retreat.result = not-not c.retreat.result going in
    let left = c.retreat.ensures.left t in
    let n = c.args.network.now in
    let path : List Visit = c.args.path.now.items in
    rising_is c.args.levels.now.levels.items c.retreat.new.levels.levels.items (take (length path - 1) path) c.retreat.new.path.items (c.retreat.ensures.same ∙ c.in-None.ensures.same) (c.retreat.ensures.taken t)
    (rising_pop n.graph.now n.part.now (amount_of c.args.flow.now.amounts.items) c.args.levels.now.levels.items n.source (c.args.goal - c.args.flow.now.value) (length path - 1) path c.requires.path (omega arith) (omega arith))
