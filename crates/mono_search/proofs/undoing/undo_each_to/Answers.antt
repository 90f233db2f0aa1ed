use Rattle.std.proofs.Common.{◌≡◌, ◌∙◌, ◌+◌, ◌<◌, ◌∷◌, [], ℕ, List, drop, get_or, set, length, arith, replicate, sym, ap, subst}
use Rattle.std.proofs.lemmas.List.{length-map, get_or_default, drop_more, drop_all}
use Rattle.mono_graph.specs.Digraph.{has}
use Rattle.mono_theory.specs.Theories.{Facts}
use Rattle.mono_theory.specs.Owners.{fact_of, facts_of}
use Rattle.mono_search.proofs.Sweeps.{map_at, map_set}
use Rattle.mono_search.proofs.TakenBack.{IsUndoing, undoing_from, undoing_more, undone, zero_again, others_stay}
use Rattle.mono_search.proofs.undoing.undo_each_to.Goals as goal
use Rattle.mono_search.proofs.undoing.undo_each_to.Goals.{After-index_mut-theory, After-loop-place}
use Rattle.mono_search.proofs.undoing.undo_each_to.Given as given

pub loop-place-init : goal.loop-place-init
loop-place-init g c =
    let facts = facts_of g.T.Theory.graph g.T.Theory.atoms g.T.Theory.seen c.args.theories.now.items in
    let counted = rw c.as_slice.ensures.value at c.count_concerned.ensures.counts in
    record {
      undoing = undoing_from facts c.args.lits.now c.args.kept c.count_concerned.new.counts.items c.places-place-items.result.now c.args.worklist.now.listed c.count_concerned.new.worklist.listed c.requires.current counted c.count_concerned.ensures.listed
          (λ p. ap (λ (ps : List ℕ). has ps p) c.places-place-items.ensures.places ∙ c.places-place-items.ensures.exact p);
    }

-- what is known of the theory at the place at hand
record IsNext (g : given.Over) (c : After-index_mut-theory g) : Type 0 where
  undoing : IsUndoing (facts_of g.T.Theory.graph g.T.Theory.atoms g.T.Theory.seen c.args.theories.now.items) c.args.lits.now c.args.kept (facts_of g.T.Theory.graph g.T.Theory.atoms g.T.Theory.seen c.loop-place.theories.items) c.loop-place.counts.items
      (get_or c.places-place-items.result.now c.loop-place.place-index 0 ∷ drop (c.loop-place.place-index + 1) c.places-place-items.result.now)
  within : get_or c.places-place-items.result.now c.loop-place.place-index 0 < length (facts_of g.T.Theory.graph g.T.Theory.atoms g.T.Theory.seen c.args.theories.now.items)
  at : fact_of g.T.Theory.graph g.T.Theory.atoms g.T.Theory.seen c.index_mut-theory.result.now
      ≡ get_or (facts_of g.T.Theory.graph g.T.Theory.atoms g.T.Theory.seen c.loop-place.theories.items) (get_or c.places-place-items.result.now c.loop-place.place-index 0) (fact_of g.T.Theory.graph g.T.Theory.atoms g.T.Theory.seen c.index_mut-theory.result.now)

next : (g : given.Over) (c : After-index_mut-theory g) → IsNext g c
next g c =
    let fact = fact_of g.T.Theory.graph g.T.Theory.atoms g.T.Theory.seen in
    let ps = c.places-place-items.result.now in
    let i = c.loop-place.place-index in
    let below : get_or ps i 0 < length c.count_concerned.new.worklist.listed = subst (λ (qs : List ℕ). i < length qs → get_or qs i 0 < length c.count_concerned.new.worklist.listed) (sym c.places-place-items.ensures.places) (c.places-place-items.ensures.within i 0) c.loop-place-test.true in
    let listed = c.count_concerned.ensures.listed.as_many in
    let all = c.requires.others.count in
    record {
      undoing = subst (λ (qs : List ℕ). IsUndoing (facts_of g.T.Theory.graph g.T.Theory.atoms g.T.Theory.seen c.args.theories.now.items) c.args.lits.now c.args.kept (facts_of g.T.Theory.graph g.T.Theory.atoms g.T.Theory.seen c.loop-place.theories.items) c.loop-place.counts.items qs)
          (drop_more ps i 0 c.loop-place-test.true) c.loop-place.invariant.undoing;
      within = omega (arith, below, listed, all);
      at = ap fact c.index_mut-theory.ensures.value ∙ map_at fact c.loop-place.theories.items (get_or ps i 0) c.index_mut-theory.result.now;
    }

pub undo_last-requires : goal.undo_last-requires
undo_last-requires g c =
    let n = next g (goal.at.undo_last-requires g c).After-index_mut-theory in
    let fact = fact_of g.T.Theory.graph g.T.Theory.atoms g.T.Theory.seen in
    let p = get_or c.places-place-items.result.now c.loop-place.place-index 0 in
    let few = (n.undoing.due p (fact c.index_mut-theory.result.now) n.within).few in
    let same = ap (λ (f : Facts). length f.seen) n.at in
    let counted : c.index.result.now ≡ get_or c.loop-place.counts.items p 0 = c.index.ensures ∙ get_or_default c.loop-place.counts.items p c.index.result.now 0 (let all = n.undoing.counts_for in let lt = n.within in omega (arith, all, lt)) in
    omega (arith, few, same, counted)

pub loop-place-preserved : goal.loop-place-preserved
loop-place-preserved g c =
    let n = next g (goal.at.loop-place-preserved g c).After-index_mut-theory in
    let fact = fact_of g.T.Theory.graph g.T.Theory.atoms g.T.Theory.seen in
    let facts = facts_of g.T.Theory.graph g.T.Theory.atoms g.T.Theory.seen c.args.theories.now.items in
    let items = c.loop-place.theories.items in
    let ps = c.places-place-items.result.now in
    let i = c.loop-place.place-index in
    let p = get_or ps i 0 in
    let counted : c.index.result.now ≡ get_or c.loop-place.counts.items p 0 = c.index.ensures ∙ get_or_default c.loop-place.counts.items p c.index.result.now 0 (let all = n.undoing.counts_for in let lt = n.within in omega (arith, all, lt)) in
    record {
      undoing = subst (λ (fs : List Facts). IsUndoing facts c.args.lits.now c.args.kept fs (set c.loop-place.counts.items p 0) (drop (i + 1) ps)) (sym (map_set fact items p c.undo_last.new.theory))
          (undoing_more facts c.args.lits.now c.args.kept (facts_of g.T.Theory.graph g.T.Theory.atoms g.T.Theory.seen items) c.loop-place.counts.items (drop (i + 1) ps) p c.index.result.now (fact c.index_mut-theory.result.now) (fact c.undo_last.new.theory)
          n.undoing n.within n.at counted c.undo_last.ensures);
    }

-- nothing is left
done : (g : given.Over) (c : After-loop-place g) → IsUndoing (facts_of g.T.Theory.graph g.T.Theory.atoms g.T.Theory.seen c.args.theories.now.items) c.args.lits.now c.args.kept (facts_of g.T.Theory.graph g.T.Theory.atoms g.T.Theory.seen c.loop-place.theories.items) c.loop-place.counts.items []
done g c = subst (λ (qs : List ℕ). IsUndoing (facts_of g.T.Theory.graph g.T.Theory.atoms g.T.Theory.seen c.args.theories.now.items) c.args.lits.now c.args.kept (facts_of g.T.Theory.graph g.T.Theory.atoms g.T.Theory.seen c.loop-place.theories.items) c.loop-place.counts.items qs)
    (drop_all c.loop-place.place-index c.places-place-items.result.now c.loop-place-test.false) c.loop-place.invariant.undoing

pub returns-clause-facts : goal.returns-clause-facts
returns-clause-facts g c = undone _ c.args.lits.now c.args.kept _ c.loop-place.counts.items (done g (goal.at.returns-clause-facts g c).After-loop-place)

pub returns-clause-zero : goal.returns-clause-zero
returns-clause-zero g c =
    zero_again _ c.args.lits.now c.args.kept _ c.loop-place.counts.items (done g (goal.at.returns-clause-zero g c).After-loop-place)
    ∙ ap (λ (n : ℕ). replicate n 0) (length-map c.args.theories.now.items (fact_of g.T.Theory.graph g.T.Theory.atoms g.T.Theory.seen))

pub returns-clause-others : goal.returns-clause-others
returns-clause-others g c =
    let facts = facts_of g.T.Theory.graph g.T.Theory.atoms g.T.Theory.seen c.args.theories.now.items in
    let counted = rw c.as_slice.ensures.value at c.count_concerned.ensures.counts in
    others_stay facts c.args.lits.now c.args.kept c.count_concerned.new.counts.items c.args.worklist.now.listed c.count_concerned.new.worklist.listed c.requires.current counted c.count_concerned.ensures.listed c.requires.others _
    (undone _ c.args.lits.now c.args.kept _ c.loop-place.counts.items (done g (goal.at.returns-clause-others g c).After-loop-place))

-- the literals from `kept` on

pub offset_bounds-lits-kept : goal.offset_bounds-lits-kept
offset_bounds-lits-kept g c = let kept = c.requires.within in omega (arith, kept)

pub slice_bounds-count_concerned-start : goal.slice_bounds-count_concerned-start
slice_bounds-count_concerned-start g c = let kept = c.requires.within in omega (arith, kept)

pub slice_bounds-count_concerned-end : goal.slice_bounds-count_concerned-end
slice_bounds-count_concerned-end g c = let kept = c.requires.within in omega (arith, kept)

pub slice_bounds-count_concerned-count : goal.slice_bounds-count_concerned-count
slice_bounds-count_concerned-count g c = let kept = c.requires.within in omega (arith, kept)
