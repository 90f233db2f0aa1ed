use Rattle.std.proofs.Common.{List, ℕ, sym, subst, ◌∙◌, arith}
use Rattle.std.specs.Prelude.{IsTrue, All}
use Rattle.mono_graph.specs.declared.limit.Limit.TheVariants as limit
use Rattle.mono_graph.specs.Walks.{is_cut}
use Rattle.mono_graph.specs.Digraph.{is_distinct}
use Rattle.mono_paths.specs.Asked.{HasPath}
use Rattle.mono_paths.proofs.Reached.{all_reached}
use Rattle.mono_paths.proofs.Ends.{cut_found, final}
use Rattle.mono_paths.proofs.find.path_or_cut.Goals as goal

pub goes_to-requires-clause-search : goal.goes_to-requires-clause-search
goes_to-requires-clause-search c = c.in_ok-begin.ensures.begun c.args.part.now

pub returns-in_ok-from_slice-clause-passes : goal.returns-in_ok-from_slice-clause-passes
returns-in_ok-from_slice-clause-passes c =
    let e = c.in_ok-goes_to.ensures in
    let off = c.if-branch.false in
    let above = e.above off in
    subst (λ (us : List ℕ). IsTrue (is_cut c.args.graph.now c.args.part.now c.args.from c.args.to us)) (sym c.in_ok-from_slice.ensures.items)
    (cut_found c.args.graph.now c.args.part.now c.args.from c.args.to c.goes_to.new.self.labels c.reached.result.now c.known.ensures.graph.ends c.requires.from c.requires.to
    e.search.labelled.len c.reached.ensures.reached
    (final c.args.graph.now c.args.part.now limit.Free c.args.from c.args.to 1 c.goes_to.new.self e.search (e.source ∙ c.in_ok-begin.ensures.source) (e.cap ∙ c.in_ok-begin.ensures.cap) (omega arith) (e.tight off)))

pub returns-in_ok-from_slice-clause-reached : goal.returns-in_ok-from_slice-clause-reached
returns-in_ok-from_slice-clause-reached c =
    let e = c.in_ok-goes_to.ensures in
    subst (λ (us : List ℕ). IsTrue (is_distinct us) × All (λ v. HasPath c.args.graph.now c.args.part.now c.args.from v limit.Free) us) (sym c.in_ok-from_slice.ensures.items) (
      c.reached.ensures.reached.once,
      all_reached c.args.graph.now c.args.part.now limit.Free c.args.from c.goes_to.new.self c.reached.result.now e.search (e.source ∙ c.in_ok-begin.ensures.source) c.reached.ensures.reached,
    )
