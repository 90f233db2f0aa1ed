use Rattle.std.proofs.Common.{◌≡◌, ◌+◌, ◌<◌, List, [], sym, ap, subst, ◌∙◌}
use Rattle.std.specs.Prelude.{All}
use Rattle.std.proofs.lemmas.List.Elements.{All-append, All-cons, All-nil}
use Rattle.mono_dynamic.specs.declared.walk_target.WalkTarget.{WalkTarget}
use Rattle.mono_problem.specs.declared.atom.Atom.{Atom}
use Rattle.mono_problem.specs.declared.atom.Predicate.{Predicate}
use Rattle.mono_problem.specs.WellFormed.{IsOver}
use Rattle.mono_theory.specs.Asked.{predicate_of, AreOfAtoms, HasTarget}
use Rattle.mono_theory.specs.Supports.{atom_at}
use Rattle.mono_theory.proofs.AskedRows.{asked_target, last_known, of_more}
use Rattle.mono_theory.proofs.asked.targets_of.Goals as goal

pub loop-place-preserved : goal.loop-place-preserved
loop-place-preserved g c =
    let f = c.args.frame.now in
    let x = c.asked-asked.result in
    let t : WalkTarget = record { node = x.to; limit = x.limit } in
    let P = λ (s : WalkTarget). s.node < f.graph.nodes in
    let is : (atom_at f.atoms c.loop-place.place).predicate ≡ predicate_of x.from x.to x.limit = sym (ap (λ (y : Atom). y.predicate) c.atom_at-atom.ensures.atom) ∙ c.asked-asked.ensures in
    let over : IsOver f.graph (predicate_of x.from x.to x.limit) = subst (λ (q : Predicate). IsOver f.graph q) c.asked-asked.ensures c.atom_at-atom.ensures.over in
    record {
      targets =
          subst (λ (xs : List WalkTarget). AreOfAtoms HasTarget f.atoms (c.loop-place.place + 1) xs) (sym c.in_ok-push.ensures.items)
          (of_more t (asked_target (atom_at f.atoms c.loop-place.place).predicate x.from x.to x.limit is) c.loop-place.invariant.targets);
      known =
          subst (λ (xs : List WalkTarget). All P xs) (sym c.in_ok-push.ensures.items)
          (All-append P c.loop-place.targets.items _ c.loop-place.invariant.known (All-cons P t [] (last_known f.graph x.from x.to x.limit over) (All-nil P)));
    }
