use Rattle.std.proofs.Common.{◌≡◌, sym, subst, ◌↔◌, w64, to_z, of_z, SFits, Bool, List, ℤ, rules}
use Rattle.std.specs.Prelude.{IfOk, IsTrue, Result}
use Rattle.std.proofs.lemmas.Int.{to_z-of_z}
use Rattle.mono_graph.specs.Digraph.{Digraph}
use Rattle.mono_problem.specs.declared.atom.Predicate.{Predicate}
use Rattle.mono_problem.specs.declared.atom.Predicate.TheVariants as kind
use Rattle.mono_problem.specs.Holds.{Holds}
use Rattle.mono_check.proofs.enabled.EnabledPart.holds.Goals as goal

-- the predicate with the limit z, which is handed on as a machine word
with_limit : {E : Type 0} (r : Result Bool E) (g : Digraph) (part : List Bool) (f : ℤ → Predicate) (z : ℤ) (q : Predicate) → SFits w64 z → q ≡ f z
    → IfOk r (λ yes. IsTrue yes ↔ Holds g part (f (to_z w64 (of_z w64 z)))) → IfOk r (λ yes. IsTrue yes ↔ Holds g part q)
with_limit r g part f z q fits is holds =
    subst (λ (x : Predicate). IfOk r (λ yes. IsTrue yes ↔ Holds g part x)) (sym is)
    (subst (λ (y : ℤ). IfOk r (λ yes. IsTrue yes ↔ Holds g part (f y))) (to_z-of_z w64 z fits) holds)

pub returns-in-Reach-clause-holds : goal.returns-in-Reach-clause-holds
returns-in-Reach-clause-holds c = subst (λ (q : Predicate). IfOk c.reaches.result (λ yes. IsTrue yes ↔ Holds c.args.graph.now c.args.self.now.part q)) (sym c.in-Reach.is) c.reaches.ensures.holds

pub returns-in-Steps-clause-holds : goal.returns-in-Steps-clause-holds
returns-in-Steps-clause-holds c =
    let fits : SFits w64 c.in-Steps.most = search rules in
    with_limit c.reaches_within.result c.args.graph.now c.args.self.now.part (kind.Steps c.in-Steps.from c.in-Steps.to) c.in-Steps.most c.args.predicate fits c.in-Steps.is c.reaches_within.ensures.holds

pub returns-in-Distance-clause-holds : goal.returns-in-Distance-clause-holds
returns-in-Distance-clause-holds c =
    let fits : SFits w64 c.in-Distance.most = search rules in
    with_limit c.reaches_within-in-Distance.result c.args.graph.now c.args.self.now.part (kind.Distance c.in-Distance.from c.in-Distance.to) c.in-Distance.most c.args.predicate fits c.in-Distance.is c.reaches_within-in-Distance.ensures.holds

pub returns-in-Flow-clause-holds : goal.returns-in-Flow-clause-holds
returns-in-Flow-clause-holds c =
    let fits : SFits w64 c.in-Flow.least = search rules in
    with_limit c.carries.result c.args.graph.now c.args.self.now.part (kind.Flow c.in-Flow.source c.in-Flow.sink) c.in-Flow.least c.args.predicate fits c.in-Flow.is c.carries.ensures.holds

pub returns-in-Tree-clause-holds : goal.returns-in-Tree-clause-holds
returns-in-Tree-clause-holds c =
    let fits : SFits w64 c.in-Tree.most = search rules in
    with_limit c.spans.result c.args.graph.now c.args.self.now.part kind.Tree c.in-Tree.most c.args.predicate fits c.in-Tree.is c.spans.ensures.holds

pub returns-in-Acyclic-clause-holds : goal.returns-in-Acyclic-clause-holds
returns-in-Acyclic-clause-holds c = subst (λ (q : Predicate). IfOk c.has_no_cycle.result (λ yes. IsTrue yes ↔ Holds c.args.graph.now c.args.self.now.part q)) (sym c.in-Acyclic.is) c.has_no_cycle.ensures.holds
