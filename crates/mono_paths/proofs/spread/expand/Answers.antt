use Rattle.std.proofs.Common.{ℕ, List, get_or, refl, sym, ap, ◌∙◌, subst, arith, inl, inr}
use Rattle.std.proofs.lemmas.Bool.{cases_Bool}
use Rattle.std.proofs.lemmas.List.{drop_all}
use Rattle.mono_paths.specs.declared.visit.Visit.{Visit}
use Rattle.mono_paths.specs.Spread.{label_of}
use Rattle.mono_paths.proofs.Expand.{Expanding, visit_read, begun, next_passed, next_lowered, finished, stale}
use Rattle.mono_paths.proofs.spread.expand.Goals as goal

pub loop-place-init : goal.loop-place-init
loop-place-init c = record {
  cap = refl;
  going =
      begun c.args.graph.now c.args.part.now c.args.limit c.args.labels.now.cap c.args.labels.now.each c.args.visits.now.items c.args.at c.index-visit.result.now c.leaving-places.result.now
      c.requires.trail c.requires.labels (visit_read c.args.visits.now.items c.args.at c.index-visit.result.now (omega arith) c.index-visit.ensures) (c.if-visit-get.false ∙ c.get.ensures) c.leaving-places.ensures.places;
}

pub loop-place-preserved : goal.loop-place-preserved
loop-place-preserved c = record {
  cap = c.in_ok-relax.ensures.cap ∙ c.loop-place.invariant.cap;
  going =
      let read = visit_read c.args.visits.now.items c.args.at c.index-visit.result.now (omega arith) c.index-visit.ensures in
      elim (cases_Bool c.in_ok-relax.field-0) [
        | inl on ↦
            next_lowered c.args.graph.now c.args.part.now c.args.limit c.args.labels.now.cap c.args.labels.now.each c.args.visits.now.items c.args.at
            c.loop-place.labels.each c.relax.new.labels.each c.loop-place.visits.items c.relax.new.visits.items c.index-visit.result.now c.leaving-places.result.now c.loop-place.place-index
            (get_or c.leaving-places.result.now c.loop-place.place-index 0)
            (omega arith) read c.leaving-places.ensures.places c.loop-place-test.true refl
            c.loop-place.invariant.going (c.in_ok-relax.ensures.lowered on)
        | inr off ↦
            next_passed c.args.graph.now c.args.part.now c.args.limit c.args.labels.now.cap c.args.labels.now.each c.args.visits.now.items c.args.at
            c.loop-place.labels.each c.relax.new.labels.each c.loop-place.visits.items c.relax.new.visits.items c.index-visit.result.now c.leaving-places.result.now c.loop-place.place-index
            (get_or c.leaving-places.result.now c.loop-place.place-index 0)
            (omega arith) read c.leaving-places.ensures.places c.loop-place-test.true refl
            c.loop-place.invariant.going (c.in_ok-relax.ensures.kept off)
      ];
}

pub returns-clause-spread : goal.returns-clause-spread
returns-clause-spread c =
    finished c.args.graph.now c.args.part.now c.args.limit c.args.labels.now.cap c.args.labels.now.each c.args.visits.now.items c.args.at c.loop-place.labels.each c.loop-place.visits.items
    (subst (λ (ks : List ℕ). Expanding c.args.graph.now c.args.part.now c.args.limit c.args.labels.now.cap c.args.labels.now.each c.args.visits.now.items c.args.at c.loop-place.labels.each c.loop-place.visits.items ks)
    (drop_all c.loop-place.place-index c.leaving-places.result.now (omega arith)) c.loop-place.invariant.going)

pub returns-then-visit-get-clause-spread : goal.returns-then-visit-get-clause-spread
returns-then-visit-get-clause-spread c =
    let read = visit_read c.args.visits.now.items c.args.at c.index-visit.result.now (omega arith) c.index-visit.ensures in
    stale c.args.graph.now c.args.part.now c.args.limit c.args.labels.now.each c.args.visits.now.items c.args.at
    (λ e. c.if-visit-get.true (ap (λ (v : Visit). v.cost) read ∙ (e ∙ (ap (λ (v : Visit). label_of c.args.labels.now.each v.node) (sym read) ∙ sym c.get.ensures))))
