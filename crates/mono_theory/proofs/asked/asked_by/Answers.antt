use Rattle.std.proofs.Common.{◌≡◌, ◌+◌, List, [], sym, ap, subst, ◌∙◌}
use Rattle.std.specs.Prelude.{All}
use Rattle.std.proofs.lemmas.List.Elements.{All-append, All-cons, All-nil}
use Rattle.mono_dynamic.specs.declared.cost_source.CostSource.{CostSource}
use Rattle.mono_dynamic.specs.LeastRows.{IsCostSource}
use Rattle.mono_problem.specs.declared.atom.Atom.{Atom}
use Rattle.mono_problem.specs.declared.atom.Predicate.{Predicate}
use Rattle.mono_problem.specs.WellFormed.{IsOver}
use Rattle.mono_theory.specs.Asked.{predicate_of, AreOfAtoms, IsSourceFor}
use Rattle.mono_theory.specs.Supports.{atom_at}
use Rattle.mono_theory.proofs.AskedRows.{bounded, first_known, of_more}
use Rattle.mono_theory.proofs.asked.asked_by.Goals as goal

pub source_for-requires : goal.source_for-requires
source_for-requires g c =
    let f = c.args.frame.now in
    let x = c.asked.result in
    bounded f.graph x.from x.to x.limit (subst (λ (q : Predicate). IsOver f.graph q) c.asked.ensures c.atom_at-atom.ensures.over)

pub loop-place-preserved : goal.loop-place-preserved
loop-place-preserved g c =
    let f = c.args.frame.now in
    let x = c.asked.result in
    let s = c.source_for.result in
    let P = IsCostSource f.graph.nodes in
    let is : (atom_at f.atoms c.loop-place.place).predicate ≡ predicate_of x.from x.to x.limit = sym (ap (λ (y : Atom). y.predicate) c.atom_at-atom.ensures.atom) ∙ c.asked.ensures in
    let over : IsOver f.graph (predicate_of x.from x.to x.limit) = subst (λ (q : Predicate). IsOver f.graph q) c.asked.ensures c.atom_at-atom.ensures.over in
    record {
      asked =
          subst (λ (xs : List CostSource). AreOfAtoms IsSourceFor f.atoms (c.loop-place.place + 1) xs) (sym c.in_ok-push.ensures.items)
          (of_more s (subst (λ (q : Predicate). IsSourceFor q s) (sym is) c.source_for.ensures.source) c.loop-place.invariant.asked);
      known =
          subst (λ (xs : List CostSource). All P xs) (sym c.in_ok-push.ensures.items)
          (All-append P c.loop-place.sources.items _ c.loop-place.invariant.known (All-cons P s [] (c.source_for.ensures.known f.graph.nodes (first_known f.graph x.from x.to x.limit over)) (All-nil P)));
    }
