use Rattle.std.proofs.Common.{◌≤◌, ◌<◌, ◌+◌, ℕ, List, sym, ◌∙◌, subst, arith, pos, ◌≤ℤ◌}
use Rattle.std.proofs.lemmas.List.Elements.{All-map}
use Rattle.std.specs.Prelude.{IsTrue, All}
use Rattle.mono_base.specs.declared.limits.TheConstants.{MAX_WITNESS_VALUE}
use Rattle.mono_graph.specs.declared.label.Label.{Label}
use Rattle.mono_graph.specs.Walks.{is_labelling, bound_of}
use Rattle.mono_paths.specs.Asked.{HasPath}
use Rattle.mono_paths.specs.Found.{with_bound}
use Rattle.mono_paths.proofs.Reached.{all_within}
use Rattle.mono_paths.specs.Reaches.{IsCheap}
use Rattle.mono_paths.specs.Searches.{source_of}
use Rattle.mono_paths.proofs.Ends.{HasFinal, labelled, empty_labelling, cheap_path, labelling_found, labels_found, bound_small, final}
use Rattle.mono_paths.proofs.find.path_or_labels.Goals as goal

pub returns-in_default-clause-passes : goal.returns-in_default-clause-passes
returns-in_default-clause-passes c =
    subst (λ (ls : List Label). IsTrue (is_labelling c.args.graph.now c.args.part.now c.args.from c.args.to c.args.limit ls)) (sym c.new.ensures.items)
    (empty_labelling c.args.graph.now c.args.part.now c.args.from c.args.to c.args.limit c.requires.limit c.in_default.ensures)

pub goes_to-requires-clause-search : goal.goes_to-requires-clause-search
goes_to-requires-clause-search c = c.in_ok-begin.ensures.begun c.args.part.now

pub returns-in_ok-walk-clause-passes : goal.returns-in_ok-walk-clause-passes
returns-in_ok-walk-clause-passes c =
    let source = c.in_ok-goes_to.ensures.source ∙ c.in_ok-begin.ensures.source in
    let at_cap = c.in_ok-goes_to.ensures.cap ∙ c.in_ok-begin.ensures.cap in
    cheap_path c.args.graph.now c.args.part.now c.args.from c.args.to c.in-Some.most c.args.limit c.in_ok-walk.field-0.items c.in-Some.ensures
    (subst (λ (u : ℕ). IsCheap c.args.graph.now c.args.part.now c.args.limit u c.args.to (c.in-Some.most + 1) c.in_ok-walk.field-0.items) source
    (subst (λ (n : ℕ). IsCheap c.args.graph.now c.args.part.now c.args.limit (source_of c.goes_to.new.self) c.args.to n c.in_ok-walk.field-0.items) at_cap c.in_ok-walk.ensures))

final_labels : (c : goal.In_ok-listed) → HasFinal c.args.graph.now c.args.part.now c.args.limit c.args.from c.args.to (c.in-Some.most + 1) c.goes_to.new.self.labels
final_labels c =
    let e = c.in_ok-goes_to.ensures in
    let off = c.if-branch.false in
    let above = e.above off in
    final c.args.graph.now c.args.part.now c.args.limit c.args.from c.args.to (c.in-Some.most + 1) c.goes_to.new.self e.search
    (e.source ∙ c.in_ok-begin.ensures.source) (e.cap ∙ c.in_ok-begin.ensures.cap) (omega arith) (e.tight off)

pub returns-in_ok-listed-clause-passes : goal.returns-in_ok-listed-clause-passes
returns-in_ok-listed-clause-passes c =
    subst (λ (ls : List Label). IsTrue (is_labelling c.args.graph.now c.args.part.now c.args.from c.args.to c.args.limit ls)) (sym c.in_ok-listed.ensures.labels)
    (labelling_found c.args.graph.now c.args.part.now c.args.from c.args.to c.in-Some.most c.args.limit c.goes_to.new.self.labels c.goes_to.new.self.labels.reached
    c.known.ensures.graph.ends c.requires.from c.requires.to c.in-Some.ensures c.in_ok-goes_to.ensures.search.labelled.len c.in_ok-listed.ensures.reached (final_labels c))

pub returns-in_ok-listed-clause-known : goal.returns-in_ok-listed-clause-known
returns-in_ok-listed-clause-known c =
    subst (λ (ls : List Label). All (λ (l : Label). (l.node < c.args.graph.now.nodes) × (l.value ≤ MAX_WITNESS_VALUE)) ls) (sym c.in_ok-listed.ensures.labels)
    (labels_found c.args.graph.now c.args.part.now c.args.from c.args.to c.in-Some.most c.args.limit c.goes_to.new.self.labels c.goes_to.new.self.labels.reached
    (bound_small c.args.limit c.in-Some.most c.requires.limit c.in-Some.ensures) c.in_ok-goes_to.ensures.search.labelled.len c.in_ok-listed.ensures.reached (final_labels c))

pub returns-in_ok-listed-clause-reached : goal.returns-in_ok-listed-clause-reached
returns-in_ok-listed-clause-reached c =
    let e = c.in_ok-goes_to.ensures in
    subst (λ (ls : List Label). All (λ (x : Label). (pos x.value ≤ℤ bound_of c.args.limit) × HasPath c.args.graph.now c.args.part.now c.args.from x.node (with_bound c.args.limit (pos x.value))) ls) (sym c.in_ok-listed.ensures.labels)
    (All-map (λ (x : Label). (pos x.value ≤ℤ bound_of c.args.limit) × HasPath c.args.graph.now c.args.part.now c.args.from x.node (with_bound c.args.limit (pos x.value))) (labelled c.goes_to.new.self.labels.each) c.goes_to.new.self.labels.reached
    (all_within c.args.graph.now c.args.part.now c.args.limit c.args.from c.in-Some.most c.goes_to.new.self c.goes_to.new.self.labels.reached e.search (e.source ∙ c.in_ok-begin.ensures.source) c.in-Some.ensures
    (e.cap ∙ c.in_ok-begin.ensures.cap) c.in_ok-listed.ensures.reached))
